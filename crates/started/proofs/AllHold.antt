-- The statements of specs/ hold. Assumes nothing.
use Rattle.std.specs.Prelude.{Result, Ok, Err}
use Prim.Native.Nat.{ℕ, ◌*◌}
use mathlib.Core.Path.{◌≡◌, refl, sym, ap, ◌∙◌}
use mathlib.Core.Bool.{false}
use mathlib.Core.List.{List, [], ◌∷◌}
use native.Mathlib.Omega.{arith}
use lib.IntN.{ℤ}
use lib.ListN.{length}
use Rattle.de9im.proofs.LawsApart.{true_false}
use Rattle.de9im.proofs.LawsBool.{told}
use Rattle.order.proofs.LawsPerm.{perm_length}
use Rattle.outline.specs.declared.corners.Corner.{Corner}
use Rattle.outline.specs.Lent.{corners_in, numbers_of}
use Rattle.outline.proofs.LawsLent.{corners_back}
use Rattle.pairs.specs.declared.fault.Fault.{Fault}
use Rattle.pairs.specs.Fault.{fault_of}
use Rattle.pairs.proofs.LawsFault.{passed}
use Rattle.commission.specs.Lent.{fault_word, RelatedInto}
use Rattle.commission.specs.Related.{matrix_for, related_of, cells_of}
use Rattle.commission.specs.Sound.{is_sound, where_sound, check_in}
use Rattle.commission.proofs.LawsSound.{is-sound, related_back}
use Rattle.exchanged.proofs.LawsCalls.{zero-sound}
use Rattle.started.specs.Alike.{Alike, nothing_wrong, of-a, of-b, in-a, in-b, between}
use Rattle.started.specs.Relisted.{Relisted, Relent}
use Rattle.started.specs.Statements.{ListedAnyhow}
use Rattle.started.proofs.LawsFault.{fault-alike}
use Rattle.started.proofs.LawsMatrix.{matrix-same}
use Rattle.started.proofs.LawsRelisted.{turn}

alike-sound : {f g : Result Unit Fault} → Alike f g → is_sound f ≡ is_sound g
alike-sound nothing_wrong = refl
alike-sound (of-a r) = refl
alike-sound (of-b r) = refl
alike-sound (in-a i j u v) = refl
alike-sound (in-b i j u v) = refl
alike-sound (between i j u v) = refl

alike-word : {f g : Result Unit Fault} → Alike f g → fault_word f ≡ fault_word g
alike-word nothing_wrong = refl
alike-word (of-a r) = refl
alike-word (of-b r) = refl
alike-word (in-a i j u v) = refl
alike-word (in-b i j u v) = refl
alike-word (between i j u v) = refl

module _ (a b c d : List ℤ) (r : Relent a c) (s : Relent b d) where
  fault-same : is_sound (fault_of c d) ≡ is_sound (fault_of a b)
  fault-same = alike-sound (fault-alike a b c d r s)

  module _ (e : fault_of a b ≡ Ok tt) where
    sound-too : fault_of c d ≡ Ok tt
    sound-too = is-sound (fault_of c d) (fault-same ∙ ap is_sound e)

    matrix-too : matrix_for (corners_in c) (corners_in d) ≡ matrix_for (corners_in a) (corners_in b)
    matrix-too =
        let p = passed a b e in
        let q = passed c d sound-too in
        matrix-same (corners_in a) (corners_in b) (corners_in c) (corners_in d) (turn r.corners) (turn s.corners) p.of-a.accepted
        p.of-b.accepted q.of-a.accepted q.of-b.accepted p.cut.in-a p.cut.in-b

    answer-too : related_of c d ≡ related_of a b
    unfolding related_of
    answer-too = rw (sound-too, e, matrix-too) refl

  fault-there : Alike (check_in (related_of c d)) (check_in (related_of a b))
  fault-there = rw (related_back a b refl, related_back c d refl) (fault-alike a b c d r s)

  cells-there : cells_of (related_of c d) ≡ cells_of (related_of a b)
  unfolding related_of
  cells-there =
      told (is_sound (fault_of a b))
      (λ h. let e = is-sound (fault_of a b) h in ap cells_of (answer-too e))
      (λ h. by (fault_of a b) h (fault_of c d) (fault-same ∙ h))
    where
      by : (x : Result Unit Fault) → is_sound x ≡ false → (y : Result Unit Fault) → is_sound y ≡ false
          → cells_of (where_sound y (matrix_for (corners_in c) (corners_in d)))
          ≡ cells_of (where_sound x (matrix_for (corners_in a) (corners_in b)))
      by (Ok u) e y f = true_false e
      by (Err q) e (Ok u) f = true_false f
      by (Err q) e (Err p) f = refl

  answer-there : check_in (related_of a b) ≡ Ok tt → related_of c d ≡ related_of a b
  answer-there e = answer-too (sym (related_back a b refl) ∙ e)

  calls-there : (w v : ℕ) (cs cs₂ ts ts₂ ds ds₂ us us₂ : List ℕ) → RelatedInto a b w cs cs₂ ts ts₂ → RelatedInto c d v ds ds₂ us us₂
      → (v ≡ w) × (w ≡ 0 → ds₂ ≡ cs₂)
  calls-there w v cs cs₂ ts ts₂ ds ds₂ us us₂ p q =
      let l : (w ≡ 0 → ds₂ ≡ cs₂) = λ z.
      let h : fault_of a b ≡ Ok tt = zero-sound (fault_of a b) (sym p.word ∙ z) in
      let k : fault_of c d ≡ Ok tt = sound-too h in
      let x : cs₂ ≡ matrix_for (corners_in a) (corners_in b) = p.numbers ∙ rw h refl in
      let y : ds₂ ≡ matrix_for (corners_in c) (corners_in d) = q.numbers ∙ rw k refl in
      y ∙ matrix-too h ∙ sym x in
      (q.word ∙ alike-word (fault-alike a b c d r s) ∙ sym p.word, l)

numbers_long : (cs : List Corner) → length (numbers_of cs) ≡ 2 * length cs
unfolding numbers_of
numbers_long [] = refl
numbers_long (c ∷ cs) = omega (arith, numbers_long cs)

lent : (cs ds : List Corner) → Relisted cs ds → Relent (numbers_of cs) (numbers_of ds)
lent cs ds r =
    record {
      as_many = omega (arith, numbers_long cs, numbers_long ds, perm_length (turn r).perm);
      corners = rw (corners_back cs, corners_back ds) r;
    }

pub listed_anyhow : ListedAnyhow
listed_anyhow =
    record {
      refused-alike = fault-there;
      of_a_matrix = cells-there;
      of_an_answer = answer-there;
      of_two_calls = calls-there;
      of-corners = lent;
    }

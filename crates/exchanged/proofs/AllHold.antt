-- The statements hold. Assumes nothing.
use Rattle.std.specs.Prelude.{Result, Ok}
use Prim.Native.Nat.{ℕ}
use mathlib.Core.Path.{◌≡◌, refl, sym, ap, ◌∙◌}
use mathlib.Core.List.{List}
use lib.IntN.{ℤ}
use Rattle.de9im.specs.Cells.{matrix_of}
use Rattle.outline.specs.Lent.{corners_in}
use Rattle.pairs.specs.Fault.{fault_of}
use Rattle.pairs.proofs.LawsFault.{passed}
use Rattle.floors.specs.declared.floor.FloorAnswer.{FloorAnswer}
use Rattle.predicates.specs.Predicates.{holds}
use Rattle.commission.specs.Related.{start_cells, matrix_for, related_of, cells_of}
use Rattle.commission.specs.Sound.{is_sound, check_in}
use Rattle.commission.proofs.LawsPoured.{all-poured}
use Rattle.commission.proofs.LawsSound.{related-sound, related_back}
use Rattle.symmetry.specs.Exchange.{flipped}
use Rattle.symmetry.proofs.LawsPredicates.{transposed}
use Rattle.exchanged.specs.Statements.{CornersInAnyOrder, step_of, OutlinesExchanged}
use Rattle.exchanged.proofs.LawsCalls.{calls-flipped}
use Rattle.exchanged.proofs.LawsExchange.{related_poured, sound-flipped, related_flipped}
use Rattle.exchanged.proofs.LawsOrder.{poured-perm}
use Rattle.exchanged.proofs.LawsSound.{sound-other, sound-alike, step-alike}

pub corners_in_any_order : CornersInAnyOrder
corners_in_any_order a b ps e r =
    let p = passed a b e in
    let ok = p.of-a.accepted in
    let oj = p.of-b.accepted in
    ap (λ (f : FloorAnswer). f.cells) (all-poured (corners_in a) (corners_in b) ok oj ps start_cells)
    ∙ sym (poured-perm (corners_in a) (corners_in b) ok oj r start_cells) ∙ sym (related_poured a b e)

refused : (a b : List ℤ) → is_sound (check_in (related_of b a)) ≡ is_sound (check_in (related_of a b))
refused a b = rw (related_back a b refl, related_back b a refl) (sound-alike a b)

same_step : (a b : List ℤ) → step_of (check_in (related_of b a)) ≡ step_of (check_in (related_of a b))
same_step a b = rw (related_back a b refl, related_back b a refl) (step-alike a b)

answer-flipped : (a b : List ℤ) (ns : List ℕ) → related_of a b ≡ Ok ns → related_of b a ≡ Ok (flipped ns)
answer-flipped a b ns e =
    let f : fault_of a b ≡ Ok tt = sym (related_back a b refl) ∙ ap check_in e in
    let m : matrix_for (corners_in a) (corners_in b) ≡ ns = let q = sym (related-sound a b f) ∙ e in cc in
    related-sound b a (sound-other a b f) ∙ ap (λ (l : List ℕ). Ok l) (sound-flipped a b f ∙ ap flipped m)

pub outlines_exchanged : OutlinesExchanged
outlines_exchanged =
    record {
      refused-alike = refused;
      refused_by_the_same_step = same_step;
      of_a_matrix = related_flipped;
      of_an_answer = answer-flipped;
      of_two_calls = calls-flipped;
      of_predicates = λ p q r a b.
          ap (λ (ns : List ℕ). holds p (matrix_of ns)) (related_flipped a b) ∙ transposed r (matrix_of (cells_of (related_of a b)));
    }

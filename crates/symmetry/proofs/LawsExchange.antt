-- Request R-12: "Exchanging A and B in every record, from a transposed start, gives the transposed matrix", of any bytes: accepted exactly
-- when the other is, refused by the same number at the same offset, and the transposed nine numbers. Assumes nothing.
use Rattle.std.specs.Prelude.{Result, Ok, Err}
use Rattle.de9im.specs.declared.refusal.Refusal.{Refusal}
use Prim.Native.Nat.{ℕ, zero, suc, ◌+◌, ◌*◌, ◌≤◌, ◌<◌}
use mathlib.Core.Path.{◌≡◌, refl, sym, ap, ◌∙◌}
use mathlib.Core.Bool.{Bool, true, false}
use mathlib.Core.List.{List, [], ◌∷◌, ◌++◌, map, append-nil}
use native.Mathlib.Omega.{arith}
use lib.Dec.{ltb}
use borrow.Author.Tests.{ltb-true, ltb-false}
use lib.ListN.{length, take, drop, get_or, length-append, length-take, length-drop, drop_of_length-le}
use lib.Seq.{take_all, length-take-le, get_or-take, drop_at}
use Rattle.de9im.specs.Answers.{BytesAnswer}
use Rattle.de9im.specs.Cells.{cells_of, matrix_of}
use Rattle.de9im.specs.Matrix.{Matrix, transposed_of, start_matrix}
use Rattle.walks.proofs.LawsPouring.{number_in}
use Rattle.frame.specs.Read.{Read, good, bad}
use Rattle.frame.specs.Words.{promised}
use Rattle.floors.specs.Floor.{behind, floor_of}
use Rattle.plan.specs.Record.{poured_by, record_of}
use Rattle.plan.specs.Said.{Said, said_of}
use Rattle.plan.proofs.LawsAfter.{spent, later_bytes, cut_out}
use Rattle.floors.proofs.LawsFloor.{floor-empty, floor-refused, floor-accepted}
use Rattle.plan.proofs.LawsSaid.{is_whole}
use Rattle.symmetry.specs.Runs.{flat, cut, records_of}
use Rattle.symmetry.specs.Exchange.{other_record, other_run, flipped, flipped_floor}
use Rattle.symmetry.proofs.LawsExchangeBytes.{mapped, record-said, record-promised, record-length}
use Rattle.symmetry.proofs.LawsExchangeStar.{other_said, said_into_other}
use Rattle.symmetry.proofs.LawsPoured.{same-cells, Poured, said-poured}

-- columns for rows
three_cases : (P : ℕ → Type 0) → P 0 → P 1 → P 2 → (i : ℕ) → i < 3 → P i
three_cases P a b c zero h = a
three_cases P a b c (suc zero) h = b
three_cases P a b c (suc (suc zero)) h = c
three_cases P a b c (suc (suc (suc i))) h = absurd (omega arith)

flipped-at : (ns : List ℕ) (i j : ℕ) → i < 3 → j < 3 → get_or (flipped ns) (3 * i + j) 0 ≡ get_or ns (3 * j + i) 0
flipped-at ns i j h k =
    three_cases (λ i. get_or (flipped ns) (3 * i + j) 0 ≡ get_or ns (3 * j + i) 0)
    (three_cases (λ j. get_or (flipped ns) (3 * 0 + j) 0 ≡ get_or ns (3 * j + 0) 0) refl refl refl j k)
    (three_cases (λ j. get_or (flipped ns) (3 * 1 + j) 0 ≡ get_or ns (3 * j + 1) 0) refl refl refl j k)
    (three_cases (λ j. get_or (flipped ns) (3 * 2 + j) 0 ≡ get_or ns (3 * j + 2) 0) refl refl refl j k) i h

transposed-at : (m : Matrix) (i j : ℕ) → i < 3 → j < 3 → number_in (transposed_of m) i j ≡ number_in m j i
transposed-at m i j h k =
    three_cases (λ i. number_in (transposed_of m) i j ≡ number_in m j i)
    (three_cases (λ j. number_in (transposed_of m) 0 j ≡ number_in m j 0) refl refl refl j k)
    (three_cases (λ j. number_in (transposed_of m) 1 j ≡ number_in m j 1) refl refl refl j k)
    (three_cases (λ j. number_in (transposed_of m) 2 j ≡ number_in m j 2) refl refl refl j k) i h

-- flipped numbers are those of the transposed matrix
pub flipped-cells : (m : Matrix) → flipped (cells_of m) ≡ cells_of (transposed_of m)
flipped-cells m = refl

pub flipped-matrix : (ns : List ℕ) → matrix_of (flipped ns) ≡ transposed_of (matrix_of ns)
flipped-matrix ns = refl

-- the start matrix is its own transposed
pub same_start : flipped (cells_of start_matrix) ≡ cells_of start_matrix
same_start = refl

-- what is poured the other way round into flipped numbers leaves flipped numbers
pub poured-flipped : {ns : List ℕ} {c d : ℕ → ℕ → ℕ} {ms ps : List ℕ} → Poured ns c ms → Poured (flipped ns) d ps
    → ((i j : ℕ) → d i j ≡ c j i) → ps ≡ flipped ms
poured-flipped {ns} {c} {d} {ms} {ps} p q f =
    q.cells ∙
    same-cells q.matrix (transposed_of p.matrix) (λ i j h k.
    q.raised i j h k ∙ rw (flipped-at ns i j h k, f i j) (sym (p.raised j i k h) ∙ sym (transposed-at p.matrix i j h k))) ∙
    sym (ap flipped p.cells)

-- of one record: the same answer, and flipped numbers
abbrev flipped_bytes : BytesAnswer → BytesAnswer
flipped_bytes x = record { answer = x.answer; cells = flipped x.cells }

module _ (ns s : List ℕ) where
  poured-by : (u : ℕ) (x : Read Said) → said_of s ≡ x → poured_by (flipped ns) u (mapped other_said x) ≡ flipped_bytes (poured_by ns u x)
  poured-by u (bad r) e = refl
  poured-by u (good x) e =
      ap (λ (l : List ℕ). record { answer = Ok u; cells = l })
      (poured-flipped (said-poured s x e ns)
      (said-poured (other_record s) (other_said x) (record-said s ∙ ap (mapped other_said) e) (flipped ns)) (said_into_other x))

  by_said : (x : Read Said) → said_of s ≡ x
      → poured_by (flipped ns) (2 + promised (other_record s)) (mapped other_said x) ≡ flipped_bytes (poured_by ns (2 + promised s) x)
  by_said (bad r) e = refl
  by_said (good x) e =
      ap (λ (n : ℕ). poured_by (flipped ns) (2 + n) (good (other_said x))) (record-promised s (is_whole s x e).two) ∙
      poured-by (2 + promised s) (good x) e

  -- one record, whatever its bytes: the same answer, and the transposed nine numbers
  pub record-exchanged : record_of (flipped ns) (other_record s) ≡ flipped_bytes (record_of ns s)
  unfolding record_of
  record-exchanged = rw (record-said s) (by_said (said_of s) refl)

cut-nothing : (k : ℕ) → cut k [] ≡ []
unfolding cut
cut-nothing zero = refl
cut-nothing (suc k) = refl

-- the first record of a run
module _ (k : ℕ) (ns s : List ℕ) where
  abbrev size : ℕ
  size = 2 + promised s

  abbrev others : List ℕ
  others = flat (map other_record (cut k (drop size s)))

  first-whole : size ≤ length s → record_of (flipped ns) (other_record (take size s) ++ others) ≡ flipped_bytes (record_of ns s)
  first-whole h =
      let r = take size s in
      let l = length-take-le size s h in
      let zeroth = get_or-take size s 0 0 (omega arith) in
      let first = get_or-take size s 1 0 (omega arith) in
      let half : promised r ≡ promised s = omega arith in
      let kept = record-promised r (omega arith) in
      let long = record-length r in
      later_bytes (flipped ns) (other_record r) others (omega arith) (omega arith) ∙ record-exchanged ns r ∙
      ap flipped_bytes (cut_out ns s size (omega arith) h)

  first_part : length s < size → record_of (flipped ns) (other_record (take size s) ++ others) ≡ flipped_bytes (record_of ns s)
  unfolding flat
  first_part h =
      let all : take size s ≡ s = take_all size s (omega arith) in
      let left : drop size s ≡ [] = drop_of_length-le s {i = size} (omega arith) in
      rw (all, left, cut-nothing k, append-nil (other_record s)) (record-exchanged ns s)

  first-exchanged : record_of (flipped ns) (other_record (take size s) ++ others) ≡ flipped_bytes (record_of ns s)
  first-exchanged = by (ltb (length s) size) refl
    where
      by : (t : Bool) → ltb (length s) size ≡ t
          → record_of (flipped ns) (other_record (take size s) ++ others) ≡ flipped_bytes (record_of ns s)
      by true e = first_part (ltb-true _ _ e)
      by false e = first-whole (ltb-false _ _ e)

  floor-by : (x : Result ℕ Refusal) → 0 < length s → (record_of ns s).answer ≡ x
      → (floor_of (flipped (record_of ns s).cells) others ≡ flipped_floor (floor_of (record_of ns s).cells (drop size s)))
      → floor_of (flipped ns) (other_record (take size s) ++ others) ≡ flipped_floor (floor_of ns s)
  floor-by (Err r) h e rest =
      let f : (record_of (flipped ns) (other_record (take size s) ++ others)).answer ≡ Err r =
      ap (λ (x : BytesAnswer). x.answer) first-exchanged ∙ e in
      let some : 0 < length (other_record (take size s) ++ others) =
      omega (arith, length-append (other_record (take size s)) others, record-length (take size s), length-take size s) in
      floor-refused (flipped ns) (other_record (take size s) ++ others) r some f ∙
      sym (ap flipped_floor (floor-refused ns s r h e))
  floor-by (Ok u) h e rest =
      let p = spent ns s u e in
      let f : (record_of (flipped ns) (other_record (take size s) ++ others)).answer ≡ Ok u =
      ap (λ (x : BytesAnswer). x.answer) first-exchanged ∙ e in
      let c : (record_of (flipped ns) (other_record (take size s) ++ others)).cells ≡ flipped (record_of ns s).cells =
      ap (λ (x : BytesAnswer). x.cells) first-exchanged in
      let l : length (other_record (take size s)) ≡ u =
      record-length (take size s) ∙ length-take-le size s p.whole ∙ sym p.used in
      floor-accepted (flipped ns) (other_record (take size s) ++ others) u f ∙
      ap (λ (x : List ℕ). behind u 1 (floor_of x (drop u (other_record (take size s) ++ others)))) c ∙
      ap (λ (x : List ℕ). behind u 1 (floor_of (flipped (record_of ns s).cells) x)) (drop_at (other_record (take size s)) others u l) ∙
      ap (behind u 1) rest ∙
      ap (λ (n : ℕ). flipped_floor (behind u 1 (floor_of (record_of ns s).cells (drop n s)))) (sym p.used) ∙
      sym (ap flipped_floor (floor-accepted ns s u e))

cut-exchanged : (k : ℕ) (ns s : List ℕ) → length s ≤ k
    → floor_of (flipped ns) (flat (map other_record (cut k s))) ≡ flipped_floor (floor_of ns s)
unfolding cut flat
cut-exchanged zero ns [] h = floor-empty (flipped ns) ∙ sym (ap flipped_floor (floor-empty ns))
cut-exchanged zero ns (b ∷ s) h = absurd (omega arith)
cut-exchanged (suc k) ns [] h = floor-empty (flipped ns) ∙ sym (ap flipped_floor (floor-empty ns))
cut-exchanged (suc k) ns (b ∷ s) h =
    let n = 2 + promised (b ∷ s) in
    floor-by k ns (b ∷ s) (record_of ns (b ∷ s)).answer (omega arith) refl
    (cut-exchanged k (record_of ns (b ∷ s)).cells (drop n (b ∷ s)) (omega (arith, length-drop n (b ∷ s))))

-- any bytes, A and B exchanged in every record, from the transposed start: accepted exactly when the other is, refused by the same number
-- at the same offset, as many records, and the transposed nine numbers
pub run-exchanged : (ns s : List ℕ) → floor_of (flipped ns) (other_run s) ≡ flipped_floor (floor_of ns s)
unfolding records_of
run-exchanged ns s = cut-exchanged (length s) ns s (omega arith)

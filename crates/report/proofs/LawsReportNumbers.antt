-- The number, the place and the bytes used that are answered to a stored report are document 01's and request R-3's, read, written and
-- converted; a bad byte's place is 0 to 8. Assumes nothing.
use Rattle.std.specs.Prelude.{Option, Some, None, Result, Ok, Err}
use Prim.Native.Nat.{ℕ, ◌+◌, ◌^◌, ◌≤◌, ◌<◌}
use mathlib.Core.Path.{◌≡◌, refl, sym, ap, ◌∙◌}
use mathlib.Core.Bool.{Bool, true, false, cond, not, ◌&&◌, ◌||◌}
use mathlib.Core.List.{List}
use native.Mathlib.Omega.{arith}
use borrow.Author.Tests.{ltb-false, eqb-true, not-false, eq-eqb}
use lib.Dec.{eqb, ltb, leb}
use lib.ListN.{length, take, drop, length-take, length-drop}
use Rattle.de9im.specs.Matrix.{Matrix}
use Rattle.de9im.specs.declared.refusal.Refusal.{Refusal}
use Rattle.de9im.specs.declared.refusal.Refusal.TheVariants.{Short, Length, Version, TopBits}
use Rattle.de9im.specs.Answers.{answer_no, answer_place, used_of, bad_no}
use Rattle.de9im.specs.Refused.{number_of, place_of, spot_no}
use Rattle.de9im.specs.Text.{good_byte, read_of}
use Rattle.de9im.specs.EighteenBits.{unpacked_of}
use Rattle.de9im.proofs.LawsApart.{none_some}
use Rattle.de9im.proofs.LawsBool.{told}
use Rattle.de9im.proofs.LawsNear.{bad-within}
use Rattle.de9im.proofs.LawsNumbers.{read_number, read-place}
use Rattle.frame.specs.Read.{Read, good, bad, ◌>>=◌}
use Rattle.report.specs.Report.{
  letters_of,
  cells_as,
  bits_of,
  length_for,
  cells_said,
  report_said,
  report_as,
  read_report,
  used_alone,
}
use Rattle.report.specs.declared.reading.Report.{Report}
use Rattle.report.specs.Converting.{other_form, other_bytes, wrote_as, convert_of}
use Rattle.report.specs.ReportNumbers.{bad_place, somewhere, report_no, other_length, convert_no}
use Rattle.frame.specs.Lent.{wrote_of, write_no}
use Rattle.frame.specs.Rules.{first_no}
use Rattle.frame.specs.Words.{byte_at, promised, three_bytes_at}
use Rattle.de9im.proofs.LawsRefused.{some_number}
use Rattle.frame.proofs.LawsLentNumbers.{write-number, write-used, write-place}
use Rattle.frame.proofs.LawsRules.{no_or, check-no, two-checks}
use Rattle.report.proofs.LawsAccepted.{steps}
use Rattle.report.proofs.LawsReport.{length_long}
use Rattle.report.proofs.LawsTrip.{six, twelve}

-- a whole report has nine letters
nine-letters : (s : List ℕ) → 12 ≤ length s → eqb (length (take 9 (drop 3 s))) 9 ≡ true
nine-letters s h = eq-eqb (length (take 9 (drop 3 s))) 9 (omega (arith, length-take 9 (drop 3 s), length-drop 3 s))

module _ (s : List ℕ) where
  abbrev letters : List ℕ
  letters = take 9 (drop 3 s)

  -- the number
  cells-by : (x : Result Matrix Refusal) → no_or (cells_as x) 0 ≡ answer_no x
  cells-by (Ok m) = refl
  cells-by (Err r) = refl

  spot_no_lem : (p : Option ℕ) → bad_no p ≡ cond (somewhere p) 11 0
  spot_no_lem None = refl
  spot_no_lem (Some k) = refl

  letters-no : 12 ≤ length s → no_or (letters_of letters) 0 ≡ cond (somewhere (bad_place s)) 11 0
  unfolding letters_of
  letters-no h =
      cells-by (read_of letters) ∙ read_number letters ∙ rw (nine-letters s h) (spot_no_lem (bad_place s))

  -- what stands behind a good header
  abbrev cells_no : ℕ
  cells_no =
      cond (eqb (byte_at s 2) 1 && somewhere (bad_place s)) 11 (cond (not (eqb (byte_at s 2) 1) && leb (2 ^ 18) (three_bytes_at s 3)) 14 0)

  bits-no : (n : ℕ) → no_or (bits_of n) 0 ≡ cond (leb (2 ^ 18) n) 14 0
  unfolding bits_of
  bits-no n = check-no (leb (2 ^ 18) n) TopBits _ 0 0 (λ h. refl)

  cells-no : 2 + length_for (byte_at s 2) ≤ length s → no_or (cells_said s) 0 ≡ cells_no
  unfolding cells_said
  cells-no h = told (eqb (byte_at s 2) 1)
      (λ v. rw v (letters-no (omega (arith, h, length_long (byte_at s 2) (eqb-true _ _ v)))))
      (λ v. rw v (bits-no (three_bytes_at s 3)))

  whole : ltb (length s) (2 + promised s) ≡ false → not (eqb (promised s) (length_for (byte_at s 2))) ≡ false
      → 2 + length_for (byte_at s 2) ≤ length s
  whole b c =
      let h : 2 + promised s ≤ length s = ltb-false _ _ b in
      let e : promised s ≡ length_for (byte_at s 2) = eqb-true _ _ (not-false (eqb (promised s) (length_for (byte_at s 2))) c) in
      omega arith

  said_no : no_or (report_said s) 0 ≡ report_no s
  unfolding report_said report_no first_no
  said_no =
      two-checks (ltb (length s) 2) (ltb (length s) (2 + promised s)) Short _ 0 _ (λ a b.
      check-no (not (eqb (promised s) 4 || eqb (promised s) 10)) Length _ 0 _ (λ c.
      check-no (not (eqb (byte_at s 2) 1 || eqb (byte_at s 2) 2)) Version _ 0 _ (λ d.
      check-no (not (eqb (promised s) (length_for (byte_at s 2)))) Length _ 0 _ (λ f. cells-no (whole b f)))))

number_by_lem : (n : ℕ) (x : Read (List ℕ)) → answer_no (report_as n x) ≡ no_or x 0
number_by_lem n (good ns) = refl
number_by_lem n (bad r) = refl

used-by : (n : ℕ) (x : Read (List ℕ)) → used_of (used_alone (report_as n x)) ≡ cond (eqb (no_or x 0) 0) n 0
used-by n (good ns) = refl
used-by n (bad r) = rw (some_number r) refl

pub report-number : (s : List ℕ) → answer_no (read_report s) ≡ report_no s
unfolding read_report
report-number s = number_by_lem (2 + promised s) (report_said s) ∙ said_no s

pub report_used : (s : List ℕ) → used_of (used_alone (read_report s)) ≡ cond (eqb (report_no s) 0) (2 + promised s) 0
unfolding read_report
report_used s = used-by (2 + promised s) (report_said s) ∙ rw (said_no s) refl

-- the place
abbrev place_by : Read (List ℕ) → Option ℕ
place_by (good ns) = None
place_by (bad r) = place_of r

place-check : (fails : Bool) (r : Refusal) (x : Read (List ℕ)) (m : ℕ) (p : Option ℕ) → place_of r ≡ None → eqb (number_of r) 11 ≡ false
    → (fails ≡ false → place_by x ≡ cond (eqb m 11) p None)
    → place_by (cond fails (bad r) x) ≡ cond (eqb (cond fails (number_of r) m) 11) p None
place-check true r x m p e f h = rw (e, f) refl
place-check false r x m p e f h = h refl

or_check : (a b : Bool) (x : Read (List ℕ)) (m : ℕ) (p : Option ℕ) → (a ≡ false → b ≡ false → place_by x ≡ cond (eqb m 11) p None)
    → place_by (cond a (bad Short) (cond b (bad Short) x)) ≡ cond (eqb (cond (a || b) 1 m) 11) p None
or_check true b x m p h = refl
or_check false true x m p h = refl
or_check false false x m p h = h refl refl

cells_where : (x : Result Matrix Refusal) → place_by (cells_as x) ≡ answer_place x
cells_where (Ok m) = refl
cells_where (Err r) = refl

spot_place : (p : Option ℕ) → p ≡ cond (eqb (cond (somewhere p) 11 0) 11) p None
spot_place None = refl
spot_place (Some k) = refl

letters-place : (s : List ℕ) → 12 ≤ length s
    → place_by (letters_of (letters s)) ≡ cond (eqb (cond (somewhere (bad_place s)) 11 0) 11) (bad_place s) None
unfolding letters_of
letters-place s h =
    cells_where (read_of (letters s)) ∙ read-place (letters s) ∙ rw (nine-letters s h)
    (spot_place (bad_place s))

bits_place : (n : ℕ) (p : Option ℕ) → place_by (bits_of n) ≡ cond (eqb (cond (leb (2 ^ 18) n) 14 0) 11) p None
unfolding bits_of
bits_place n p = place-check (leb (2 ^ 18) n) TopBits (good (unpacked_of n)) 0 p refl refl (λ h. refl)

cells-place : (s : List ℕ) → 2 + length_for (byte_at s 2) ≤ length s
    → place_by (cells_said s) ≡ cond (eqb (cells_no s) 11) (bad_place s) None
unfolding cells_said
cells-place s h = told (eqb (byte_at s 2) 1)
    (λ v. rw v (letters-place s (omega (arith, h, length_long (byte_at s 2) (eqb-true _ _ v)))))
    (λ v. rw v (bits_place (three_bytes_at s 3) (bad_place s)))

said-place : (s : List ℕ) → place_by (report_said s) ≡ cond (eqb (report_no s) 11) (bad_place s) None
unfolding report_said report_no first_no
said-place s =
    or_check (ltb (length s) 2) (ltb (length s) (2 + promised s)) _ _ (bad_place s) (λ a b.
    place-check (not (eqb (promised s) 4 || eqb (promised s) 10)) Length _ _ (bad_place s) refl refl (λ c.
    place-check (not (eqb (byte_at s 2) 1 || eqb (byte_at s 2) 2)) Version _ _ (bad_place s) refl refl (λ d.
    place-check (not (eqb (promised s) (length_for (byte_at s 2)))) Length _ _ (bad_place s) refl refl (λ f. cells-place s (whole s b f)))))

place-by : (n : ℕ) (x : Read (List ℕ)) → answer_place (report_as n x) ≡ place_by x
place-by n (good ns) = refl
place-by n (bad r) = refl

pub report-place : (s : List ℕ) → answer_place (read_report s) ≡ cond (eqb (report_no s) 11) (bad_place s) None
unfolding read_report
report-place s = place-by (2 + promised s) (report_said s) ∙ said-place s

-- it is 0 to 8
place-below : (t : Bool) (p : Option ℕ) (k n : ℕ) → (p ≡ Some k → k < n) → cond t p None ≡ Some k → k < n
place-below true p k n h e = h e
place-below false p k n h e = none_some e

pub place-small : (s : List ℕ) (k : ℕ) → answer_place (read_report s) ≡ Some k → k < 9
place-small s k e =
    place-below (eqb (report_no s) 11) (bad_place s) k 9
    (λ p. omega (arith, bad-within good_byte 0 k (take 9 (drop 3 s)) p, length-take 9 (drop 3 s))) (sym (report-place s) ∙ e)

-- ---- converting

-- the refusal that was read, or what follows
abbrev wrote_or : Read (List ℕ) → Result ℕ Refusal → Result ℕ Refusal
wrote_or (good ns) a = a
wrote_or (bad r) a = Err r

-- the other form has the other length
other_length_lem : (s ns : List ℕ) → length (other_form s ns) ≡ other_length s
other_length_lem s ns = told (eqb (byte_at s 2) 1) (λ v. rw v (six ns)) (λ v. rw v (twelve ns))

module _ (s buf : List ℕ) (at : ℕ) where
  -- by what is said
  abbrev Alike : Read (List ℕ) → Type 0
  Alike x = wrote_as (x >>= λ ns. good (other_form s ns)) buf at ≡ wrote_or x (wrote_of (other_length s) buf at)

  alike : (x : Read (List ℕ)) → Alike x
  alike (good ns) = ap (λ (n : ℕ). wrote_of n buf at) (other_length_lem s ns)
  alike (bad r) = refl

  pub convert-is : convert_of s buf at ≡ wrote_or (report_said s) (wrote_of (other_length s) buf at)
  unfolding convert_of other_bytes
  convert-is = alike (report_said s)

  no-by : (x : Read (List ℕ)) (a : Result ℕ Refusal) → answer_no (wrote_or x a) ≡ cond (eqb (no_or x 0) 0) (answer_no a) (no_or x 0)
  no-by (good ns) a = refl
  no-by (bad r) a = rw (some_number r) refl

  pub convert_number : answer_no (convert_of s buf at) ≡ convert_no s buf at
  unfolding convert_no
  convert_number =
      ap answer_no convert-is ∙ no-by (report_said s) (wrote_of (other_length s) buf at)
      ∙ rw (said_no s, write-number (other_length s) buf at) refl

  -- a place is the report's
  where-by : (x : Read (List ℕ)) (a : Result ℕ Refusal) → answer_place a ≡ None → answer_place (wrote_or x a) ≡ place_by x
  where-by (good ns) a e = e
  where-by (bad r) a e = refl

  pub convert-place : answer_place (convert_of s buf at) ≡ cond (eqb (report_no s) 11) (bad_place s) None
  convert-place =
      ap answer_place convert-is ∙ where-by (report_said s) (wrote_of (other_length s) buf at) (write-place (other_length s) buf at)
      ∙ said-place s

  -- bytes are used where nothing is refused
  used-or : (x : Read (List ℕ)) (a : Result ℕ Refusal) → used_of (wrote_or x a) ≡ cond (eqb (no_or x 0) 0) (used_of a) 0
  used-or (good ns) a = refl
  used-or (bad r) a = rw (some_number r) refl

  pub convert-used : used_of (convert_of s buf at) ≡ cond (eqb (convert_no s buf at) 0) (other_length s) 0
  unfolding convert_no
  convert-used =
      ap used_of convert-is ∙ used-or (report_said s) (wrote_of (other_length s) buf at)
      ∙ rw (said_no s, write-used (other_length s) buf at) (first-no (report_no s))
    where
      first-no : (m : ℕ) → cond (eqb m 0) (cond (eqb (write_no (other_length s) buf at) 0) (other_length s) 0) 0
          ≡ cond (eqb (cond (eqb m 0) (write_no (other_length s) buf at) m) 0) (other_length s) 0
      first-no m = told (eqb m 0) (λ t. rw t refl) (λ f. rw (f, f) refl)

-- ---- so a report's answer is small: read, written or converted
pub record Twelve (a : Result ℕ Refusal) : Type 0 where
  pub used : used_of a ≤ 12
  pub place : spot_no (answer_place a) < 9

at_most : (t : Bool) (n : ℕ) → n ≤ 12 → cond t n 0 ≤ 12
at_most true n h = h
at_most false n h = omega arith

length_most : (v : ℕ) → length_for v ≤ 10
length_most v = go (eqb v 1)
  where
    go : (t : Bool) → cond t 10 4 ≤ 10
    go true = omega arith
    go false = omega arith

other-most : (s : List ℕ) → other_length s ≤ 12
other-most s = go (eqb (byte_at s 2) 1)
  where
    go : (t : Bool) → cond t 6 12 ≤ 12
    go true = omega arith
    go false = omega arith

spot_by : (p : Option ℕ) → ((k : ℕ) → p ≡ Some k → k < 9) → spot_no p < 9
spot_by None h = omega arith
spot_by (Some k) h = h k refl

used-small : (s : List ℕ) (x : Read (List ℕ)) → report_said s ≡ x → used_of (used_alone (report_as (2 + promised s) x)) ≤ 12
used-small s (good ns) e = omega (arith, (steps s ns e).pair, length_most (byte_at s 2))
used-small s (bad r) e = omega arith

same-place : (x : Result Report Refusal) → answer_place (used_alone x) ≡ answer_place x
same-place (Ok a) = refl
same-place (Err r) = refl

pub report-twelve : (s : List ℕ) → Twelve (used_alone (read_report s))
unfolding read_report
report-twelve s =
    record {
      used = used-small s (report_said s) refl;
      place = rw (same-place (read_report s)) (spot_by (answer_place (read_report s)) (place-small s));
    }

pub wrote_twelve : (n : ℕ) (buf : List ℕ) (at : ℕ) → n ≤ 12 → Twelve (wrote_of n buf at)
wrote_twelve n buf at h =
    record {
      used = rw (write-used n buf at) (at_most (eqb (write_no n buf at) 0) n h);
      place = rw (write-place n buf at) (omega arith);
    }

pub convert_twelve : (s buf : List ℕ) (at : ℕ) → Twelve (convert_of s buf at)
convert_twelve s buf at =
    record {
      used = rw (convert-used s buf at) (at_most (eqb (convert_no s buf at) 0) (other_length s) (other-most s));
      place = rw (convert-place s buf at ∙ sym (report-place s)) (spot_by (answer_place (read_report s)) (place-small s));
    }

-- Words of regions: nothing is cut, two answers with one word are one, and two boxes never have the word of "none of these". Assumes
-- nothing.
use Rattle.std.specs.Prelude.{Option, Some, None, Result, Ok, Err}
use Rattle.de9im.specs.declared.refusal.Refusal.{Refusal}
use Prim.Native.Nat.{ℕ, ◌≤◌, ◌<◌}
use mathlib.Core.Path.{◌≡◌, refl, sym, ap}
use mathlib.Core.Bool.{Bool, true, false, cond}
use mathlib.Core.List.{List}
use native.Mathlib.Omega.{arith}
use lib.Dec.{eqb}
use lib.ListN.{length}
use Rattle.de9im.specs.Answers.{answer_place}
use Rattle.de9im.specs.Refused.{spot_no}
use Rattle.frame.specs.Lent.{wrote_of, write_no}
use Rattle.frame.proofs.LawsLentNumbers.{write-used, write-place}
use Rattle.place.specs.declared.places.Rect.{Rect}
use Rattle.regions.specs.declared.region.Region.{Region}
use Rattle.regions.specs.declared.region.Region.TheVariants.{NoneOfThese}
use Rattle.regions.specs.Boxes.{boxes_region}
use Rattle.regions.specs.Names.{name_of}
use Rattle.regions.specs.Numbers.{number_of}
use Rattle.regions.proofs.LawsBoxes.{never-none}
use Rattle.regions.proofs.LawsNames.{number-told, number_small, name_short}
use Rattle.misonkandi.specs.Regions.{boxes_word, named_word}
use Rattle.misonkandi.proofs.LawsFit.{none_below}
use Rattle.misonkandi.specs.Records.{Fits}
use Rattle.misonkandi.proofs.LawsTold.{told_back}

-- a name is short, so the answer to writing it fits its word
at_most : (t : Bool) (n : ℕ) → cond t n 0 ≤ n
at_most true n = omega arith
at_most false n = omega arith

pub name_fits : (r : Region) (buf : List ℕ) (at : ℕ) → Fits (wrote_of (length (name_of r)) buf at)
name_fits r buf at =
    let n = length (name_of r) in (
      rw (write-used n buf at) (omega (arith, at_most (eqb (write_no n buf at) 0) n, name_short r)),
      none_below (answer_place (wrote_of n buf at)) (write-place n buf at),
    )

-- two answers with one word are one
pub boxes_told : (a b : Result Region Refusal) → spot_no (answer_place a) < 256 → spot_no (answer_place b) < 256
    → boxes_word a ≡ boxes_word b → a ≡ b
boxes_told a b h i e =
    told_back number_of a b number-told (λ r f. omega (arith, number_small r)) (λ r f. omega (arith, number_small r)) h i e

pub region_named_told : (a b : Option Region) → named_word a ≡ named_word b → a ≡ b
region_named_told (Some r) (Some s) e = ap Some (number-told r s e)
region_named_told (Some r) None e = absurd (omega (arith, number_small r))
region_named_told None (Some s) e = absurd (omega (arith, number_small s))
region_named_told None None e = refl

-- two boxes never have the word of "none of these"
pub never-eight : (a b : Rect) → boxes_word (boxes_region a b) ≡ 8 → ⊥
never-eight a b e = at (boxes_region a b) refl e
  where
    at : (t : Result Region Refusal) → boxes_region a b ≡ t → boxes_word t ≡ 8 → ⊥
    at (Ok r) f w = let one = number-told r NoneOfThese w in never-none a b (cc)
    at (Err q) f w = absurd (omega arith)

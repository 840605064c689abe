-- Request R-10: "One product needs matrices straight from two outlines. .. makes one node record per distinct corner: .. The matrix is what
-- those records pour". Said of it here: the order of those records doesn't matter, and exchanging the outlines transposes it. That both
-- hold is proofs/AllHold.antt; what doesn't is proofs/Examples.antt.
use Rattle.std.specs.Prelude.{ℕ, ◌≡◌, ℤ, Result, Ok, Err}
use mathlib.Core.List.{List, Permᴰ}
use Rattle.de9im.specs.Cells.{matrix_of}
use Rattle.outline.specs.declared.corners.Corner.{Corner}
use Rattle.outline.specs.Lent.{corners_in}
use Rattle.pairs.specs.declared.fault.Fault.{Fault}
use Rattle.pairs.specs.declared.fault.Fault.TheVariants.{OfA, OfB, InA, InB, Between}
use Rattle.pairs.specs.Fault.{fault_of}
use Rattle.floors.specs.Floor.{floor_of}
use Rattle.predicates.specs.declared.predicate.Predicate.{Predicate}
use Rattle.predicates.specs.Predicates.{holds}
use Rattle.nodes.specs.Records.{distinct_of, records_for}
use Rattle.commission.specs.Lent.{RelatedInto}
use Rattle.commission.specs.Related.{start_cells, related_of, cells_of}
use Rattle.commission.specs.Sound.{is_sound, check_in}
use Rattle.symmetry.specs.Exchange.{flipped}
use Rattle.symmetry.specs.Partners.{Partners}

-- the records of the distinct corners in any order pour the matrix that the call answers
abbrev pub CornersInAnyOrder : Type 0
CornersInAnyOrder = (a b : List ℤ) (ps : List Corner) → fault_of a b ≡ Ok tt → Permᴰ (distinct_of (corners_in a) (corners_in b)) ps
    → (floor_of start_cells (records_for (corners_in a) (corners_in b) ps)).cells ≡ cells_of (related_of a b)

-- "Refusals, after R-8's for A and then B: 20 if a pair of sides in A, else in B, breaks this, 21 if a pair across does": which of these
-- three steps refuses
abbrev pub step_of : Result Unit Fault → ℕ
step_of (Ok u) = 0
step_of (Err (OfA r)) = 1
step_of (Err (OfB r)) = 1
step_of (Err (InA i j)) = 2
step_of (Err (InB i j)) = 2
step_of (Err (Between i j)) = 3

-- exchanging the outlines transposes the matrix, of any numbers lent. The exchanged are refused exactly where these are, by the same step;
-- the answer has the transposed matrix; the cells of a refusal are the start matrix's, its own transposed. So a second call of C with the outlines
-- exchanged writes the transposed cells where the first wrote any, and a predicate answers as its partner did
pub record OutlinesExchanged : Type 0 where
  pub refused-alike : (a b : List ℤ) → is_sound (check_in (related_of b a)) ≡ is_sound (check_in (related_of a b))
  pub refused_by_the_same_step : (a b : List ℤ) → step_of (check_in (related_of b a)) ≡ step_of (check_in (related_of a b))
  pub of_a_matrix : (a b : List ℤ) → cells_of (related_of b a) ≡ flipped (cells_of (related_of a b))
  pub of_an_answer : (a b : List ℤ) → (ns : List ℕ) → related_of a b ≡ Ok ns → related_of b a ≡ Ok (flipped ns)
  pub of_two_calls : (a b : List ℤ) (w v : ℕ) (cs cs₂ ts ts₂ ds ds₂ us us₂ : List ℕ) → RelatedInto a b w cs cs₂ ts ts₂
      → RelatedInto b a v ds ds₂ us us₂ → w ≡ 0 → (v ≡ 0) × (ds₂ ≡ flipped cs₂)
  pub of_predicates : (p q : Predicate) → Partners p q → (a b : List ℤ)
      → holds p (matrix_of (cells_of (related_of b a))) ≡ holds q (matrix_of (cells_of (related_of a b)))

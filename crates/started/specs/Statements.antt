-- Request R-10: "matrices straight from two outlines", "The matrix is what those records pour". Said of it here: starting a corner list
-- elsewhere or reversing it doesn't alter it, of either list or of both. That this holds is proofs/AllHold.antt; what doesn't is
-- proofs/Examples.antt.
use Rattle.std.specs.Prelude.{ℕ, ◌≡◌, List, ℤ, Ok}
use Rattle.outline.specs.declared.corners.Corner.{Corner}
use Rattle.outline.specs.Lent.{numbers_of}
use Rattle.commission.specs.Lent.{RelatedInto}
use Rattle.commission.specs.Related.{related_of, cells_of}
use Rattle.commission.specs.Sound.{check_in}
use Rattle.started.specs.Alike.{Alike}
use Rattle.started.specs.Relisted.{Relisted, Relent}

-- of any numbers a and b that a caller lends, with c in place of a and d in place of b: refused exactly where those were, by the same
-- number; the same nine cells (those of a refusal are the start matrix's), so where nothing is wrong, the same answer; and a second call of
-- C answers with the same word, and where that is 0, leaves the same cells
pub record ListedAnyhow : Type 0 where
  pub refused-alike : (a b c d : List ℤ) → Relent a c → Relent b d → Alike (check_in (related_of c d)) (check_in (related_of a b))
  pub of_a_matrix : (a b c d : List ℤ) → Relent a c → Relent b d → cells_of (related_of c d) ≡ cells_of (related_of a b)
  pub of_an_answer : (a b c d : List ℤ) → Relent a c → Relent b d → check_in (related_of a b) ≡ Ok tt → related_of c d ≡ related_of a b
  pub of_two_calls : (a b c d : List ℤ) → Relent a c → Relent b d → (w v : ℕ) (cs cs₂ ts ts₂ ds ds₂ us us₂ : List ℕ)
      → RelatedInto a b w cs cs₂ ts ts₂ → RelatedInto c d v ds ds₂ us us₂ → (v ≡ w) × (w ≡ 0 → ds₂ ≡ cs₂)
  -- each list of corners can be lent so
  pub of-corners : (cs ds : List Corner) → Relisted cs ds → Relent (numbers_of cs) (numbers_of ds)

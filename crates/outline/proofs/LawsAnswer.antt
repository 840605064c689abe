-- Each refusal in its turn, and the position after them; an outline is a list of corners. Assumes nothing.
use Rattle.std.specs.Prelude.{None, Ok, Err}
use Prim.Native.Nat.{ℕ, ◌≤◌, ◌<◌}
use mathlib.Core.Path.{◌≡◌, refl, ◌∙◌}
use mathlib.Core.Bool.{Bool, true, false, cond, ◌||◌, or-true}
use mathlib.Core.List.{List}
use borrow.Author.Tests.{ltb-false, lt-ltb, le-ltb}
use lib.Dec.{ltb}
use lib.ListN.{length, take}
use Rattle.de9im.specs.declared.refusal.Refusal.TheVariants.{CornerCount, OutOfRange, EqualCorners}
use Rattle.de9im.proofs.LawsBool.{neither}
use Rattle.outline.specs.declared.corners.Corner.{Corner}
use Rattle.outline.specs.declared.corners.Outline.{Outline}
use Rattle.outline.specs.Corners.{far_corner, some_far}
use Rattle.outline.specs.Sides.{sides, some_of, equal_ends}
use Rattle.outline.specs.Position.{position_of}
use Rattle.outline.specs.Answers.{located_place}
use Rattle.outline.specs.Answer.{wrong_count, checked_of, answer_of, outline_of}

pub count-least : (n : ℕ) → wrong_count n ≡ false → 3 ≤ n
count-least n e = ltb-false n 3 (neither (ltb n 3) (ltb 64 n) e).0

pub count_most : (n : ℕ) → wrong_count n ≡ false → n ≤ 64
count_most n e = ltb-false 64 n (neither (ltb n 3) (ltb 64 n) e).1

pub too_many : (n : ℕ) → 64 < n → wrong_count n ≡ true
too_many n h = rw (lt-ltb 64 n h) (or-true (ltb n 3))

-- a list whose count is wrong, and one whose count is right
pub miscounted : (cs : List Corner) (p : Corner) → wrong_count (length cs) ≡ true → answer_of cs p ≡ Err CornerCount
unfolding answer_of
miscounted cs p e = rw e

pub counted : (cs : List Corner) (p : Corner) → wrong_count (length cs) ≡ false → answer_of cs p ≡ checked_of cs p
unfolding answer_of
counted cs p e = rw e

pub outline_many : (o : Outline) (p : Corner) → 64 < o.count → outline_of o p ≡ Err CornerCount
unfolding outline_of
outline_many o p h = rw (lt-ltb 64 o.count h)

pub outline_listed : (o : Outline) (p : Corner) → o.count ≤ 64 → outline_of o p ≡ answer_of (take o.count o.corners) p
unfolding outline_of
outline_listed o p h = rw (le-ltb 64 o.count h)

-- no refusal of an outline has a place
pub answer-nowhere : (cs : List Corner) (p : Corner) → located_place (answer_of cs p) ≡ None
unfolding answer_of checked_of
answer-nowhere cs p =
    by (wrong_count (length cs)) (some_far cs || far_corner p) (some_of equal_ends (sides cs))
  where
    by : (t f s : Bool)
        → located_place (cond t (Err CornerCount) (cond f (Err OutOfRange) (cond s (Err EqualCorners) (Ok (position_of cs p)))))
        ≡ None
    by true f s = refl
    by false true s = refl
    by false false true = refl
    by false false false = refl

-- each refusal in its turn, and the position
module _ (cs : List Corner) (p : Corner) (e : wrong_count (length cs) ≡ false) where
  pub is-far : some_far cs ≡ true → answer_of cs p ≡ Err OutOfRange
  unfolding checked_of
  is-far f = counted cs p e ∙ rw f

  module _ (f : some_far cs ≡ false) where
    pub is-far-point : far_corner p ≡ true → answer_of cs p ≡ Err OutOfRange
    unfolding checked_of
    is-far-point g = counted cs p e ∙ rw (f, g)

    module _ (g : far_corner p ≡ false) where
      pub is_same_lem : some_of equal_ends (sides cs) ≡ true → answer_of cs p ≡ Err EqualCorners
      unfolding checked_of
      is_same_lem h = counted cs p e ∙ rw (f, g, h)

      pub is_at : some_of equal_ends (sides cs) ≡ false → answer_of cs p ≡ Ok (position_of cs p)
      unfolding checked_of
      is_at h = counted cs p e ∙ rw (f, g, h)

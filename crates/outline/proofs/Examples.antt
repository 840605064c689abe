-- Worked outlines, by computation. Assumes nothing.
use Rattle.std.specs.Prelude.{Ok, Err}
use mathlib.Core.Path.{◌≡◌, refl}
use mathlib.Core.List.{List, [], ◌∷◌}
use lib.IntN.{pos, negsuc}
use lib.ListN.{take}
use Rattle.de9im.specs.declared.coordinate_position.CoordPos.TheVariants.{Inside, OnBoundary, Outside}
use Rattle.de9im.specs.declared.refusal.Refusal.TheVariants.{CornerCount, OutOfRange, EqualCorners}
use Rattle.outline.specs.declared.corners.Corner.{Corner}
use Rattle.outline.specs.Sides.{through, sides, some_of, odd_of, equal_ends}
use Rattle.outline.specs.Position.{on_side, crossed, position_of}
use Rattle.outline.specs.Corners.{corner, some_far}
use Rattle.outline.specs.Answer.{checked_of, answer_of}

-- a dart: its corner 1, 1 points inwards; 0, 4 and 4, 0 are its tips
abbrev dart : List Corner
dart = corner (pos 0) (pos 0) ∷ corner (pos 4) (pos 0) ∷ corner (pos 1) (pos 1) ∷ corner (pos 0) (pos 4) ∷ []

-- on the inward corner
on_corner : answer_of dart (corner (pos 1) (pos 1)) ≡ Ok OnBoundary
unfolding answer_of checked_of some_far through sides some_of odd_of equal_ends on_side crossed position_of
on_corner = refl

-- on the side from 0, 4 to 0, 0
on-side : answer_of dart (corner (pos 0) (pos 3)) ≡ Ok OnBoundary
unfolding answer_of checked_of some_far through sides some_of odd_of equal_ends on_side crossed position_of
on-side = refl

-- left of the dart at the height of the corner 1, 1: two sides are crossed
through-corner : answer_of dart (corner (negsuc 0) (pos 1)) ≡ Ok Outside
unfolding answer_of checked_of some_far through sides some_of odd_of equal_ends on_side crossed position_of
through-corner = refl

-- between the tips, off the dart
between_tips : answer_of dart (corner (pos 2) (pos 2)) ≡ Ok Outside
unfolding answer_of checked_of some_far through sides some_of odd_of equal_ends on_side crossed position_of
between_tips = refl

-- the largest square
abbrev square : List Corner
square =
    corner (negsuc 999999999) (negsuc 999999999) ∷ corner (pos 1000000000) (negsuc 999999999) ∷ corner (pos 1000000000) (pos 1000000000) ∷
    corner (negsuc 999999999) (pos 1000000000) ∷ []

-- its middle
largest : answer_of square (corner (pos 0) (pos 0)) ≡ Ok Inside
unfolding answer_of checked_of some_far through sides some_of odd_of equal_ends on_side crossed position_of
largest = refl

-- its corner
largest-corner : answer_of square (corner (pos 1000000000) (pos 1000000000)) ≡ Ok OnBoundary
unfolding answer_of checked_of some_far through sides some_of odd_of equal_ends on_side crossed position_of
largest-corner = refl

-- 16 before 17: two corners, and a point out of range
too_few : answer_of (take 2 square) (corner (pos 1000000001) (pos 0)) ≡ (Err CornerCount)
unfolding answer_of checked_of some_far through sides some_of odd_of equal_ends on_side crossed position_of
too_few = refl

-- 17: the point out of range
point_far : answer_of square (corner (pos 1000000001) (pos 0)) ≡ (Err OutOfRange)
unfolding answer_of checked_of some_far through sides some_of odd_of equal_ends on_side crossed position_of
point_far = refl

-- the last corner is the first again
abbrev repeated : List Corner
repeated = corner (pos 0) (pos 0) ∷ corner (pos 4) (pos 0) ∷ corner (pos 0) (pos 4) ∷ corner (pos 0) (pos 0) ∷ []

-- 17 before 18
far_before_equal : answer_of repeated (corner (pos 0) (negsuc 1000000000)) ≡ (Err OutOfRange)
unfolding answer_of checked_of some_far through sides some_of odd_of equal_ends on_side crossed position_of
far_before_equal = refl

-- 18: last and first
equal-ends : answer_of repeated (corner (pos 1) (pos 1)) ≡ (Err EqualCorners)
unfolding answer_of checked_of some_far through sides some_of odd_of equal_ends on_side crossed position_of
equal-ends = refl

-- its first three corners are an outline
not_repeated : answer_of (take 3 repeated) (corner (pos 1) (pos 1)) ≡ Ok Inside
unfolding answer_of checked_of some_far through sides some_of odd_of equal_ends on_side crossed position_of
not_repeated = refl

-- From letters to masks: one more letter is one more cell of each, nine fit, and each bit is its letter's. Assumes nothing.
use Rattle.std.specs.Prelude.{Ok}
use Prim.Native.Nat.{ℕ, ◌+◌, ◌%◌, ◌^◌, ◌≤◌, ◌<◌}
use mathlib.Core.Path.{◌≡◌, refl, ap, ◌∙◌}
use mathlib.Core.Bool.{Bool, true, false, not}
use mathlib.Core.List.{List, [], ◌∷◌}
use native.Mathlib.Nat.{pow-le-pow_right}
use native.Mathlib.Numerals.{add-one}
use native.Mathlib.Omega.{arith}
use lib.Dec.{eqb}
use lib.ListN.{get_or}
use Rattle.de9im.specs.declared.dimensions.Dimensions.{Dimensions}
use Rattle.de9im.specs.declared.dimensions.Dimensions.TheVariants.{Empty, ZeroDimensional, OneDimensional, TwoDimensional}
use Rattle.de9im.specs.Dimension.{dim_no}
use Rattle.de9im.specs.EighteenBits.{cell_in}
use Rattle.de9im.specs.Letters.{letter_of, accepted_of}
use Rattle.de9im.specs.Patterns.{letters_of, check_of}
use Rattle.de9im.proofs.LawsEighteen.{below-small, cell-of}
use Rattle.de9im.proofs.LawsForms.{nine-at}
use Rattle.de9im.proofs.LawsLetters.{accepted-bit}
use Rattle.predicates.proofs.LawsTerms.{four_cases}
use Rattle.masks.specs.declared.planes.Planes.{Planes}
use Rattle.predicates.specs.Eleven.{bit_of}
use Rattle.masks.specs.Patterns.{plane, refused_at, mask_of, masks_of, masked_of}
use Rattle.masks.specs.Engine.{refuses}
use Rattle.masks.specs.Inner.Planes.{planes_to, planes_of, left_out, next_of, Narrow}
use Rattle.masks.proofs.LawsPlanes.{bit-small, plane-same, plane-next}

plane-small : (b : ℕ → Bool) (k : ℕ) → plane b k < 4 ^ k
unfolding plane
plane-small b k = below-small (λ j. bit_of (b j)) k (λ j. omega (arith, bit-small (b j)))

module _ (g : ℕ → ℕ → Bool) (k : ℕ) where
  pub narrow : k < 9 → Narrow (planes_to g k)
  narrow h = record { f = at 0; d0 = at 1; d1 = at 2; d2 = at 3 }
    where
      at : (n : ℕ) → plane (λ j. g j n) k < 2 ^ 16
      at n =
          let l : k ≤ 8 = omega arith in
          let four : 0 < 4 = omega arith in
          omega (arith, plane-small (λ j. g j n) k, pow-le-pow_right {n = 4} four l)

  pub planes-next : (m : Planes) → m ≡ planes_to g k → next_of m (g k) ≡ planes_to g (k + 1)
  planes-next m e = ap (λ (x : Planes). next_of x (g k)) e ∙ simp (add-one, plane-next)

odd : (x : Bool) → eqb (bit_of x % 2) 1 ≡ x
odd true = refl
odd false = refl

-- what a letter accepts leaves out what it refuses
module _ (p : List ℕ) where
  left_out_lem : (k : ℕ) (d : Dimensions) → k < 9 → left_out (get_or (letters_of p) k 0) (dim_no d) ≡ refused_at p k (dim_no d)
  left_out_lem k d l =
      ap (λ (x : ℕ). left_out x (dim_no d)) (nine-at (λ j. accepted_of (letter_of (get_or p j 0))) k l)
      ∙ ap not (accepted-bit (letter_of (get_or p k 0)) d)

  mask_is : (d : Dimensions) → plane (λ k. left_out (get_or (letters_of p) k 0) (dim_no d)) 9 ≡ mask_of p (dim_no d)
  mask_is d =
      plane-same (λ k. left_out (get_or (letters_of p) k 0) (dim_no d)) (λ k. refused_at p k (dim_no d)) 9 (λ k l. left_out_lem k d l)

  -- the masks as the code has them
  module _ (m : Planes) (ls : List ℕ) (is : m ≡ planes_of (λ k. left_out (get_or ls k 0))) (are : ls ≡ letters_of p) where
    masks-are : m ≡ planes_of (refused_at p)
    masks-are = is ∙ rw (are, mask_is Empty, mask_is ZeroDimensional, mask_is OneDimensional, mask_is TwoDimensional) refl

    pub made-fine : check_of p ≡ Ok tt → Ok (m.f ∷ m.d0 ∷ m.d1 ∷ m.d2 ∷ []) ≡ masked_of p
    made-fine e = rw (e, masks-are) refl

  -- the link, read back: what the masks of a pattern refuse is what its letters refuse
  mask_at : (k i : ℕ) → k < 9 → eqb (cell_in (mask_of p i) k % 2) 1 ≡ refused_at p k i
  unfolding plane
  mask_at k i l =
      ap (λ (x : ℕ). eqb (x % 2) 1) (cell-of 0 (λ j. bit_of (refused_at p j i)) 9 (λ j h. omega (arith, bit-small (refused_at p j i))) k l)
      ∙ odd (refused_at p k i)

  pub mask-letter : (k n : ℕ) → k < 9 → n < 4 → refuses (masks_of p) k n ≡ refused_at p k n
  mask-letter k n l =
      four_cases (λ i. refuses (masks_of p) k i ≡ refused_at p k i) (mask_at k 0 l) (mask_at k 1 l) (mask_at k 2 l) (mask_at k 3 l) n

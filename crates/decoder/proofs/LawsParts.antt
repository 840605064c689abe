-- Of a direction's parts the words of 32 bits say what the signed numbers do. Assumes nothing.
use Prim.Native.Nat.{ℕ, zero, suc, ◌+◌, ◌*◌, ◌-◌, ◌<◌, ◌≤◌}
use mathlib.Core.Path.{◌≡◌, refl, sym, ◌∙◌}
use mathlib.Core.Bool.{Bool, true, false, cond, ◌&&◌, ◌||◌}
use native.Mathlib.Omega.{arith}
use native.Mathlib.Nat.{mul-pos}
use borrow.Author.Tests.{ltb-true, ltb-false, lt-ltb, le-ltb, eqb-true, eqb-false, ne_eqb}
use lib.Dec.{eqb, ltb}
use lib.IntN.{pos, negsuc, nat_abs}
use lib.Signed.{lt_z}
use Rattle.de9im.proofs.LawsBool.{told, clash, neither}
use Rattle.ends.specs.Direction.{is_zero, zero_dir}
use Rattle.ends.specs.Ends.{far, bad_dir}
use Rattle.ends.specs.Inner.Axis.{one_of, on_axis, axis_no, axis_of}
use Rattle.ends.proofs.LawsSigned.{agree}
use Rattle.frame.specs.Words.{signed_of}
use Rattle.decoder.specs.Inner.Parts.{Parts, dir_of, far_word, below_word, size_word}

low : (w : ℕ) → w < 2147483648 → signed_of w ≡ pos w
low w h = rw (lt-ltb w 2147483648 h) refl

high : (w : ℕ) → 2147483648 ≤ w → w < 4294967296 → signed_of w ≡ negsuc (4294967296 - suc w)
high w k h = rw (le-ltb w 2147483648 k, lt-ltb w 4294967296 h) refl

-- by the half that a word stands in
halves : {P : Type 0} (w : ℕ) → (w < 2147483648 → P) → (2147483648 ≤ w → P) → P
halves w f g = told (ltb w 2147483648) (λ e. f (ltb-true _ _ e)) (λ e. g (ltb-false _ _ e))

module _ (w : ℕ) (h : w < 4294967296) where
  pub far-word : far_word w ≡ far (signed_of w)
  far-word = halves w
      (λ k. rw (low w k, lt-ltb w 2294967296 (omega arith)) (same (ltb 2000000000 w)))
      (λ k.
      rw (high w k h, lt-ltb 2000000000 w (omega arith))
      (agree w 2294967296 1999999999 (4294967296 - suc w) (λ p. omega arith) (λ p. omega arith)))
    where
      same : (t : Bool) → (t && true) ≡ (t || false)
      same true = refl
      same false = refl

  pub zero_word : eqb w 0 ≡ is_zero (signed_of w)
  zero_word = halves w (λ k. rw (low w k) (of w)) (λ k. rw (high w k h) (ne_eqb w 0 (λ e. omega arith)))
    where
      of : (n : ℕ) → eqb n 0 ≡ is_zero (pos n)
      of zero = refl
      of (suc n) = ne_eqb (suc n) 0 (λ e. omega arith)

  module _ (f : far (signed_of w) ≡ false) where
    near : w < 2147483648 → w ≤ 2000000000
    near k = told (ltb 2000000000 w)
        (λ e. clash (rw (e, lt-ltb w 2294967296 (omega arith)) refl) (far-word ∙ f))
        (λ e. ltb-false _ _ e)

    pub below_word_lem : below_word w ≡ lt_z (signed_of w) (pos 0)
    below_word_lem = halves w
        (λ k. rw (low w k) (le-ltb 2000000000 w (near k) ∙ sym (le-ltb w 0 (omega arith))))
        (λ k. rw (high w k h) (lt-ltb 2000000000 w (omega arith)))

    pub size_word_lem : size_word w ≡ nat_abs (signed_of w)
    size_word_lem = halves w
        (λ k. rw (low w k, le-ltb 2000000000 w (near k)) refl)
        (λ k. rw (high w k h, lt-ltb 2000000000 w (omega arith)) (omega arith))

-- a good direction's parts
module _ (x y : ℕ) (p : Parts x y) (g : bad_dir (dir_of x y) ≡ false) where
  pub good-zero : zero_dir (dir_of x y) ≡ false
  good-zero = (neither (zero_dir (dir_of x y)) (far (signed_of x) || far (signed_of y)) g).0

  fars : (far (signed_of x) ≡ false) × (far (signed_of y) ≡ false)
  fars = neither (far (signed_of x)) (far (signed_of y)) (neither (zero_dir (dir_of x y)) (far (signed_of x) || far (signed_of y)) g).1

  pub below-x : below_word x ≡ lt_z (signed_of x) (pos 0)
  below-x = below_word_lem x p.in_x fars.0

  pub below-y : below_word y ≡ lt_z (signed_of y) (pos 0)
  below-y = below_word_lem y p.in_y fars.1

  pub size-x : size_word x ≡ nat_abs (signed_of x)
  size-x = size_word_lem x p.in_x fars.0

  pub size-y : size_word y ≡ nat_abs (signed_of y)
  size-y = size_word_lem y p.in_y fars.1

  zeros : (eqb x 0 && eqb y 0) ≡ false
  zeros = rw (zero_word x p.in_x, zero_word y p.in_y) good-zero

  pub axis-words : x * y ≡ 0 → on_axis (dir_of x y) ≡ true
  axis-words m = rw (← zero_word x p.in_x, ← zero_word y p.in_y) (go (eqb x 0) (eqb y 0) refl refl)
    where
      go : (t u : Bool) → eqb x 0 ≡ t → eqb y 0 ≡ u → one_of (eqb x 0) (eqb y 0) ≡ true
      go true true e f = clash (rw (e, f) refl) zeros
      go true false e f = rw (e, f) refl
      go false true e f = rw (e, f) refl
      go false false e f =
          let a : x ≡ 0 → ⊥ = eqb-false x 0 e in
          let b : y ≡ 0 → ⊥ = eqb-false y 0 f in
          absurd (omega (arith, m, mul-pos {m = x} {n = y} (omega arith) (omega arith)))

  pub axis-number : on_axis (dir_of x y) ≡ true → cond (ltb x y) 1 0 + 2 * cond (below_word (x + y)) 1 0 ≡ axis_of (dir_of x y)
  axis-number o = rw (← zero_word x p.in_x, ← below-x, ← below-y) (go (eqb x 0) (eqb y 0) refl refl)
    where
      one : one_of (eqb x 0) (eqb y 0) ≡ true
      one = rw (zero_word x p.in_x, zero_word y p.in_y) o

      up : (b : Bool) → 1 + 2 * cond b 1 0 ≡ axis_no true b
      up true = refl
      up false = refl

      along : (b : Bool) → 0 + 2 * cond b 1 0 ≡ axis_no false (b || false)
      along true = refl
      along false = refl

      go : (t u : Bool) → eqb x 0 ≡ t → eqb y 0 ≡ u
          → cond (ltb x y) 1 0 + 2 * cond (below_word (x + y)) 1 0 ≡ axis_no (eqb x 0) (below_word x || below_word y)
      go true true e f = clash one (rw (e, f) refl)
      go true false e f =
          let a : x ≡ 0 = eqb-true x 0 e in
          let b : y ≡ 0 → ⊥ = eqb-false y 0 f in
          let s : x + y ≡ y = omega arith in
          rw (e, s, lt-ltb x y (omega arith), le-ltb 2000000000 x (omega arith)) (up (below_word y))
      go false true e f =
          let a : y ≡ 0 = eqb-true y 0 f in
          let s : x + y ≡ x = omega arith in
          rw (e, s, le-ltb x y (omega arith), le-ltb 2000000000 y (omega arith)) (along (below_word x))
      go false false e f = clash one (rw (e, f) refl)

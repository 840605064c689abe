-- No leading zeros, and no minus on zero: the first digit of a written number is 0 for zero alone, and zero is the one byte 0.
-- Assumes nothing.
use Prim.Native.Nat.{ℕ, zero, suc, ◌*◌, ◌/◌, ◌^◌, ◌≤◌, ◌<◌}
use mathlib.Core.Path.{◌≡◌, refl, sym, ap, ◌∙◌, subst}
use mathlib.Core.Bool.{Bool, true, false, cond}
use mathlib.Core.List.{List, [], ◌∷◌, ◌++◌}
use native.Mathlib.Omega.{arith}
use native.Mathlib.Nat.{div-lt_iff_lt-mul, pow-suc}
use borrow.Author.Tests.{ltb-true, ltb-false, leb-true, not-false}
use lib.Dec.{ltb, lit<}
use lib.IntN.{ℤ, pos, negsuc, nat_abs}
use Rattle.outline.specs.Corners.{far_z}
use Rattle.grammar.specs.Grammar.{Digit, number_then}
use Rattle.wkt.specs.Write.{places, last_digits, number_by, number_of}
use Rattle.grammar.specs.Inner.Range.{number_fits}
use Rattle.grammar.proofs.LawsRange.{far-z}

-- the first digit's value
abbrev lead : List Digit → ℕ
lead [] = 0
lead (d ∷ ds) = d.value

lead_snoc : (ds : List Digit) (d e : Digit) → lead ((ds ++ (d ∷ [])) ++ (e ∷ [])) ≡ lead (ds ++ (d ∷ []))
lead_snoc [] d e = refl
lead_snoc (c ∷ ds) d e = refl

-- a number that fills k + 1 digits begins with none that is 0
filled-lead : (k n : ℕ) → 10 ^ k ≤ n → n < 10 ^ suc k → 1 ≤ lead (last_digits (suc k) n)
unfolding last_digits
filled-lead zero n h l = omega arith
filled-lead (suc k) n h l =
    let m : 10 ^ k * 10 ≤ n = rw pow-suc at h in
    let b : 10 ^ k ≤ n / 10 = omega arith in
    let a : n / 10 < 10 ^ suc k = (div-lt_iff_lt-mul {x = n} {y = 10 ^ suc k} (lit< tt)).1
    (subst (λ (m : ℕ). n < m) (pow-suc 10 (suc k)) l) in
    subst (λ (m : ℕ). 1 ≤ m) (sym (lead_snoc (last_digits k (n / 10 / 10)) _ _)) (filled-lead k (n / 10) b a)

-- one rung of the ladder of places
rung : (n l k r : ℕ) (t : Bool) → ltb n l ≡ t → l ≡ 10 ^ suc k → 10 ^ k ≤ n → (l ≤ n → 1 ≤ lead (last_digits r n))
    → 1 ≤ lead (last_digits (cond t (suc k) r) n)
rung n l k r true e q h f = filled-lead k n h (subst (λ (m : ℕ). n < m) q (ltb-true n l e))
rung n l k r false e q h f = f (ltb-false n l e)

some-lead : (n : ℕ) → n ≤ 1000000000 → 1 ≤ n → 1 ≤ lead (last_digits (places n) n)
unfolding places
some-lead n h z =
    rung n 10 0 _ (ltb n 10) refl refl z (λ a.
    rung n 100 1 _ (ltb n 100) refl refl a (λ a.
    rung n 1000 2 _ (ltb n 1000) refl refl a (λ a.
    rung n 10000 3 _ (ltb n 10000) refl refl a (λ a.
    rung n 100000 4 _ (ltb n 100000) refl refl a (λ a.
    rung n 1000000 5 _ (ltb n 1000000) refl refl a (λ a.
    rung n 10000000 6 _ (ltb n 10000000) refl refl a (λ a.
    rung n 100000000 7 _ (ltb n 100000000) refl refl a (λ a.
    rung n 1000000000 8 10 (ltb n 1000000000) refl refl a (λ (b : 1000000000 ≤ n). filled-lead 9 n b (omega arith))))))))))

lead-none : (n : ℕ) → n ≤ 1000000000 → lead (last_digits (places n) n) ≡ 0 → n ≡ 0
lead-none zero h e = refl
lead-none (suc n) h e = absurd (let p = some-lead (suc n) h (omega arith) in omega arith)

first_by : (m : Bool) (ds : List Digit) → (number_by m ds).first.value ≡ lead ds
first_by m [] = refl
first_by m (d ∷ ds) = refl

size_none : (z : ℤ) → nat_abs z ≡ 0 → z ≡ pos 0
size_none (pos n) e = ap pos e
size_none (negsuc n) e = absurd (omega arith)

pub no_leading_zeros : (z : ℤ) → far_z z ≡ false → (number_of z).first.value ≡ 0 → z ≡ pos 0
no_leading_zeros z f e =
    let n = nat_abs z in
    let h = leb-true n 1000000000 (not-false (number_fits z) (sym (far-z z) ∙ f)) in
    size_none z (lead-none n h (sym (first_by _ (last_digits (places n) n)) ∙ e))

pub zero_is_one_byte : (t : List ℕ) → number_then (number_of (pos 0)) t ≡ 48 ∷ t
unfolding places last_digits
zero_is_one_byte t = refl

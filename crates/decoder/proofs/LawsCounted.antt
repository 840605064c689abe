-- Laws of bundles counted by one number, which is 1024 where some end can't be read. No function cites them: the code answers a Result.
-- Assumes nothing.
use Rattle.std.specs.Prelude.{Result, Ok, Err}
use Prim.Native.Nat.{ℕ, ◌≤◌, ◌<◌}
use mathlib.Core.Path.{◌≡◌, refl}
use mathlib.Core.List.{List}
use native.Mathlib.Omega.{arith}
use lib.ListN.{length, take}
use Rattle.de9im.specs.declared.refusal.Refusal.{Refusal}
use Rattle.ends.specs.declared.edge_end.EdgeEnd.{EdgeEnd}
use Rattle.bundles.specs.Shown.{Bundles}
use Rattle.frame.specs.Read.{good, bad}
use Rattle.decoder.specs.EndBytes.{Ends, read_ends}
use Rattle.decoder.specs.Inner.Gathering.{ReadBy}

abbrev pub GatheredBy : Result Unit Refusal → Ends → ℕ → List ℕ → Type 0
GatheredBy (Ok tt) (good es) k out = Bundles es (take k out)
GatheredBy (Ok tt) (bad r) k out = ⊥
GatheredBy (Err q) (good es) k out = ⊥
GatheredBy (Err q) (bad r) k out = q ≡ r

-- of n ends at most n bundles
abbrev pub CountedBy : ℕ → Ends → ℕ → List ℕ → Type 0
CountedBy n (good es) k out = (k ≤ n) × (k ≤ length out) × Bundles es (take k out)
CountedBy n (bad r) k out = k ≡ 1024

module _ (n : ℕ) (x : Ends) (k : ℕ) (out : List ℕ) where
  pub counted-bad : (r : Refusal) → x ≡ bad r → k ≡ 1024 → CountedBy n x k out
  counted-bad r e f = rw e f

  pub counted-good : (es : List EdgeEnd) → x ≡ good es → k ≤ n → k ≤ length out → Bundles es (take k out) → CountedBy n x k out
  counted-good es e h l b = rw e (h, l, b)

  -- opened again
  pub counted-opened : n ≤ 600 → k ≤ n → CountedBy n x k out → (k ≤ length out) × GatheredBy (Ok tt) x k out
  counted-opened h l g = by x g
    where
      by : (y : Ends) → CountedBy n y k out → (k ≤ length out) × GatheredBy (Ok tt) y k out
      by (good es) i = (i.1, i.2)
      by (bad r) i = absurd (omega arith)

-- more bundles than ends: then reading once more meets a refusal
pub refused_again : (c : Result Unit Refusal) (K : List EdgeEnd → Type 0) (n : ℕ) (s : List ℕ) (at k : ℕ) (out : List ℕ) → n < k
    → CountedBy n (read_ends n s at) k out → ReadBy c (λ u. K) n s at → (j : ℕ) → GatheredBy c (read_ends n s at) j out
refused_again (Ok tt) K n s at k out h g a j =
    let i : CountedBy n (good a.ends) k out = rw a.read at g in
    absurd (omega (arith, i.0))
refused_again (Err r) K n s at k out h g a j = rw a refl

-- All corners different, the ends along an outline's sides at a corner don't depend on where the list starts: the same two ends, in reverse
-- in the other order. Assumes nothing.
use Prim.Native.Nat.{ℕ, zero, suc, ◌≤◌, ◌<◌}
use mathlib.Core.Path.{◌≡◌, refl, sym, ap, ◌∙◌}
use mathlib.Core.Bool.{Bool, true, false, cond, not}
use mathlib.Core.List.Permᴰ
use mathlib.Core.List.{List, [], ◌∷◌, Permᴰ}
use native.Mathlib.Omega.{arith}
use borrow.Author.Tests.{lt-ltb, ltb-true}
use lib.Dec.{ltb}
use lib.ListN.{length}
use Rattle.de9im.proofs.LawsBool.{told}
use Rattle.ends.specs.declared.edge_end.EdgeEnd.{EdgeEnd}
use Rattle.ends.specs.declared.label.Geometry.{Geometry}
use Rattle.outline.specs.declared.corners.Corner.{Corner}
use Rattle.outline.specs.Corners.{same_corner}
use Rattle.pairs.specs.First.{corner_at, next_of}
use Rattle.pairs.specs.Run.{last_of, runs_left}
use Rattle.nodes.specs.Along.{along, ends_at}
use Rattle.nodes.specs.Records.{index_of, has, ends_here}
use Rattle.commission.proofs.LawsNeighbours.{next-below, last-below}
use Rattle.exchanged.proofs.LawsUnion.{same_is}
use Rattle.started.proofs.LawsLeast.{same_self, Different, one_place}
use Rattle.started.proofs.LawsMeeting.{same_test}
use Rattle.started.proofs.LawsPlaces.{step_of, Turned}

-- ---- the place of a corner
index_at : (cs : List Corner) (p : Corner) → index_of cs p < length cs → same_corner (corner_at cs (index_of cs p)) p ≡ true
unfolding index_of
index_at [] p h = absurd (omega arith)
index_at (c ∷ cs) p h =
    told (same_corner c p) (λ e. rw e e) (λ e. rw e (index_at cs p (omega (arith, rw e at h))))

index_most : (cs : List Corner) (p : Corner) (k : ℕ) → k < length cs → same_corner (corner_at cs k) p ≡ true → index_of cs p ≤ k
unfolding index_of
index_most [] p k h e = absurd (omega arith)
index_most (c ∷ cs) p zero h e = rw e (omega arith)
index_most (c ∷ cs) p (suc k) h e =
    let r = index_most cs p k (omega arith) e in
    told (same_corner c p) (λ f. rw f (omega arith)) (λ f. rw f (omega arith))

index_is : (cs : List Corner) → Different (length cs) cs → (p : Corner) (k : ℕ) → k < length cs → same_corner (corner_at cs k) p ≡ true
    → index_of cs p ≡ k
index_is cs differ p k h e =
    let i = index_of cs p in
    let l : i < length cs = omega (arith, index_most cs p k h e) in
    let s : corner_at cs i ≡ corner_at cs k = same_is (corner_at cs i) p (index_at cs p l) ∙ sym (same_is (corner_at cs k) p e) in
    one_place (length cs) cs differ i k l h (ap (same_corner (corner_at cs i)) (sym s) ∙ same_self (corner_at cs i))

-- ---- of a list in another order of places
module _ (way : Bool) (cs ds : List Corner) (t : Turned way (length cs) cs ds) (differ : Different (length cs) cs) where
  index-to : (p : Corner) → index_of ds p < length cs → index_of cs p ≡ t.to (index_of ds p)
  index-to p h =
      let i = index_of ds p in
      let l : i < length ds = omega (arith, t.as_long) in
      index_is cs differ p (t.to i) (t.to_below i h) (ap (λ (c : Corner). same_corner c p) (sym (t.at i h)) ∙ index_at ds p l)

  index_back : (p : Corner) → index_of cs p < length cs → index_of ds p < length cs
  index_back p h =
      let j = index_of cs p in
      let b = t.back_below j h in
      let e : corner_at ds (t.back j) ≡ corner_at cs j = t.at (t.back j) b ∙ ap (corner_at cs) (t.to_back j h) in
      let m = index_most ds p (t.back j) (omega (arith, t.as_long)) (ap (λ (c : Corner). same_corner c p) e ∙ index_at cs p h) in
      omega arith

  pub has-turned : (p : Corner) → has ds p ≡ has cs p
  has-turned p =
      let n = length cs in
      rw t.as_long
      (same_test (ltb (index_of ds p) n) (ltb (index_of cs p) n)
      (λ e.
      let h : index_of ds p < n = ltb-true (index_of ds p) n e in
      rw (index-to p h) (lt-ltb (t.to (index_of ds p)) n (t.to_below (index_of ds p) h)))
      (λ e. lt-ltb (index_of ds p) n (index_back p (ltb-true (index_of cs p) n e))))

  -- an outline runs the same way round, or in reverse the other
  module _ (runs : runs_left ds ≡ cond way (runs_left cs) (not (runs_left cs))) (g : Geometry) where
    -- the two ends, by the way that cs runs
    abbrev two_at : Bool → Bool → ℕ → List EdgeEnd
    two_at left w k =
        along g left (corner_at cs k) (corner_at cs (step_of w (length cs) k)) ∷
        along g (not left) (corner_at cs k) (corner_at cs (step_of (not w) (length cs) k)) ∷
        []

    two-perm : (left w : Bool) (k : ℕ) → Permᴰ (two_at (cond w left (not left)) w k) (two_at left true k)
    two-perm left true k = Permᴰ.refl (two_at left true k)
    two-perm true false k = Permᴰ.swap refl refl
    two-perm false false k = Permᴰ.swap refl refl

    ends-two : (i : ℕ) → i < length cs → ends_at g ds i ≡ two_at (cond way (runs_left cs) (not (runs_left cs))) way (t.to i)
    unfolding ends_at
    ends-two i h =
        let n = length cs in
        let e = t.at i h in
        let f = t.at (next_of n i) (next-below n i h) ∙ ap (corner_at cs) (t.next i h) in
        let k = t.at (last_of n i) (last-below n i h) ∙ ap (corner_at cs) (t.last i h) in
        rw (t.as_long, runs, e, f, k) refl

    ends-perm : (i : ℕ) → i < length cs → Permᴰ (ends_at g ds i) (ends_at g cs (t.to i))
    unfolding ends_at
    ends-perm i h = rw (ends-two i h) (two-perm (runs_left cs) way (t.to i))

    pub here-perm : (p : Corner) → Permᴰ (ends_here g ds (index_of ds p)) (ends_here g cs (index_of cs p))
    unfolding ends_here
    here-perm p =
        told (has ds p)
        (λ e.
        let h : index_of ds p < length cs = omega (arith, ltb-true (index_of ds p) (length ds) e, t.as_long) in
        rw (e, sym (has-turned p) ∙ e, index-to p h) (ends-perm (index_of ds p) h))
        (λ e. rw (e, sym (has-turned p) ∙ e) (Permᴰ.refl []))

-- Request R-12: "For accepted records, reordering .. the records of a run, gives the same nine cells". A run is one string of bytes that
-- `floor_of` of `plan` accepts to the end. Assumes nothing.
use Rattle.std.specs.Prelude.{Result, Ok, Err}
use Rattle.de9im.specs.declared.refusal.Refusal.{Refusal}
use Prim.Native.Nat.{ℕ, zero, suc, ◌+◌, ◌≤◌}
use mathlib.Core.Path.{◌≡◌, refl, sym, ap, ◌∙◌}
use mathlib.Core.List.{List, [], ◌∷◌, ◌++◌, Permᴰ}
use native.Mathlib.Omega.{arith}
use lib.ListN.{length, take, drop, length-append, length-drop, take-append-drop}
use lib.Seq.{length-take-le}
use Rattle.de9im.specs.Answers.{BytesAnswer}
use Rattle.de9im.proofs.LawsApart.{ok_err}
use Rattle.ends.specs.Every.{All, none, more}
use Rattle.order.proofs.LawsPerm.{all_perm, perm_length}
use Rattle.frame.specs.Read.{good}
use Rattle.frame.specs.Words.{promised}
use Rattle.floors.specs.declared.floor.FloorAnswer.{FloorAnswer}
use Rattle.floors.specs.Floor.{behind, floor_of}
use Rattle.plan.specs.Record.{pour_said, record_of}
use Rattle.plan.specs.Said.{Said, said_of}
use Rattle.plan.proofs.LawsAfter.{spent, cut_out}
use Rattle.floors.proofs.LawsFloor.{floor-empty, floor-refused, floor-accepted, floor-then}
use Rattle.plan.proofs.LawsSaid.{says}
use Rattle.traced.specs.Made.{after_all}
use Rattle.symmetry.specs.Runs.{flat, cut, records_of}
use Rattle.symmetry.specs.Ends.{with_ends, Reordered, no_record, a_record}
use Rattle.symmetry.proofs.LawsEnds.{ends-reordered, ends_long}
use Rattle.symmetry.proofs.LawsPoured.{said-poured, poured-swap}

-- an accepted record with no byte after it
pub record Own (s : List ℕ) : Type 0 where
  pub said : Said
  pub is : said_of s ≡ good said
  pub long : length s ≡ 2 + promised s

pub own-answer : (s : List ℕ) (x : Own s) (ns : List ℕ)
    → record_of ns s ≡ record { answer = Ok (length s); cells = pour_said ns x.said }
unfolding record_of
own-answer s x ns = rw (x.is, x.long) refl

-- accepted records in a row are a run
abbrev pub ran_as : List ℕ → List (List ℕ) → FloorAnswer
ran_as ns rs = record { stop = (Ok tt); used = length (flat rs); records = length rs; cells = after_all ns rs }

pub floor-flat : (ns : List ℕ) (rs : List (List ℕ)) → All Own rs → floor_of ns (flat rs) ≡ ran_as ns rs
unfolding flat after_all
floor-flat ns [] none = floor-empty ns
floor-flat ns (r ∷ rs) (more o os) =
    let a : (record_of ns r).answer ≡ Ok (length r) = ap (λ (x : BytesAnswer). x.answer) (own-answer r o ns) in
    let one : 1 + length rs ≡ suc (length rs) = omega arith in
    floor-then ns r (flat rs) a ∙ ap (behind (length r) 1) (floor-flat (record_of ns r).cells rs os) ∙
    rw (length-append r (flat rs), one) refl

-- and every run is accepted records in a row: those that are cut out by their length fields
pub flat-cut : (k : ℕ) (s : List ℕ) → length s ≤ k → flat (cut k s) ≡ s
unfolding flat cut
flat-cut zero [] h = refl
flat-cut zero (b ∷ s) h = absurd (omega arith)
flat-cut (suc k) [] h = refl
flat-cut (suc k) (b ∷ s) h =
    let n = 2 + promised (b ∷ s) in
    ap (λ (l : List ℕ). take n (b ∷ s) ++ l) (flat-cut k (drop n (b ∷ s)) (omega (arith, length-drop n (b ∷ s)))) ∙
    take-append-drop n (b ∷ s)

own_first : (ns s : List ℕ) (u : ℕ) → (record_of ns s).answer ≡ Ok u → Own (take (2 + promised s) s)
own_first ns s u e =
    let p = spent ns s u e in
    let n = 2 + promised s in
    let c : (record_of ns (take n s)).answer ≡ Ok u =
    ap (λ (x : BytesAnswer). x.answer) (cut_out ns s n (omega arith) p.whole) ∙ e in
    let x = says ns (take n s) u (record_of ns (take n s)).cells (rw (← c) refl) in
    record { said = x.said; is = x.is; long = length-take-le n s p.whole ∙ sym p.used ∙ x.used }

pub own-cut : (k : ℕ) (ns s : List ℕ) → length s ≤ k → (floor_of ns s).stop ≡ (Ok tt) → All Own (cut k s)
unfolding cut
own-cut zero ns s h e = none
own-cut (suc k) ns [] h e = none
own-cut (suc k) ns (b ∷ s) h e = by (record_of ns (b ∷ s)).answer refl (λ ms l f. own-cut k ms (drop (2 + promised (b ∷ s)) (b ∷ s)) l f)
  where
    by : (x : Result ℕ Refusal) → (record_of ns (b ∷ s)).answer ≡ x
        → ((ms : List ℕ) → length (drop (2 + promised (b ∷ s)) (b ∷ s)) ≤ k
        → (floor_of ms (drop (2 + promised (b ∷ s)) (b ∷ s))).stop ≡ Ok tt
        → All Own (cut k (drop (2 + promised (b ∷ s)) (b ∷ s))))
        → All Own (take (2 + promised (b ∷ s)) (b ∷ s) ∷ cut k (drop (2 + promised (b ∷ s)) (b ∷ s)))
    by (Err r) q rest =
        ok_err (sym e ∙ ap (λ (f : FloorAnswer). f.stop) (floor-refused ns (b ∷ s) r (omega arith) q))
    by (Ok u) q rest =
        let n = 2 + promised (b ∷ s) in
        let p = spent ns (b ∷ s) u q in
        let f : (floor_of (record_of ns (b ∷ s)).cells (drop u (b ∷ s))).stop ≡ (Ok tt) =
        sym (ap (λ (g : FloorAnswer). g.stop) (floor-accepted ns (b ∷ s) u q)) ∙ e in
        more (own_first ns (b ∷ s) u q)
        (rest (record_of ns (b ∷ s)).cells (omega (arith, length-drop n (b ∷ s))) (rw p.used at f))

-- two accepted records can change places, and so can all
after-swap : (ns x y : List ℕ) → Own x → Own y → (record_of (record_of ns x).cells y).cells ≡ (record_of (record_of ns y).cells x).cells
after-swap ns x y o q =
    rw (own-answer x o ns, own-answer y q ns, own-answer y q (pour_said ns o.said), own-answer x o (pour_said ns q.said))
    (poured-swap (said-poured x o.said o.is ns) (said-poured y q.said q.is (pour_said ns o.said))
    (said-poured y q.said q.is ns) (said-poured x o.said o.is (pour_said ns q.said)))

pub after_perm : {rs qs : List (List ℕ)} → Permᴰ rs qs → All Own rs → (ns : List ℕ) → after_all ns rs ≡ after_all ns qs
unfolding after_all
after_perm Permᴰ.nil a ns = refl
after_perm (Permᴰ.cons {a = x} {l₂ = qs} e p) (more o os) ns =
    after_perm p os (record_of ns x).cells ∙ ap (λ (r : List ℕ). after_all (record_of ns r).cells qs) e
after_perm (Permᴰ.swap {a = x} {b = y} {l = l} e f) (more o (more q os)) ns =
    rw (← e, ← f) (ap (λ (ms : List ℕ). after_all ms l) (after-swap ns x y o q))
after_perm (Permᴰ.trans p q) os ns = after_perm p os ns ∙ after_perm q (all_perm p os) ns

flat_perm : {rs qs : List (List ℕ)} → Permᴰ rs qs → length (flat rs) ≡ length (flat qs)
unfolding flat
flat_perm Permᴰ.nil = refl
flat_perm (Permᴰ.cons {a = x} {b = y} {l₁ = rs} {l₂ = qs} e p) =
    rw e (length-append y (flat rs) ∙ ap (λ (n : ℕ). length y + n) (flat_perm p) ∙ sym (length-append y (flat qs)))
flat_perm (Permᴰ.swap {a = x} {b = y} {l = l} e f) =
    rw (← e, ← f)
    (omega (
      arith,
      length-append x (y ++ flat l),
      length-append y (flat l),
      length-append y (x ++ flat l),
      length-append x (flat l),
    ))
flat_perm (Permᴰ.trans p q) = flat_perm p ∙ flat_perm q

-- an accepted run is its records in a row
pub run-cut : (ns s : List ℕ) → (floor_of ns s).stop ≡ (Ok tt) → (All Own (records_of s)) × (floor_of ns s ≡ ran_as ns (records_of s))
unfolding records_of
run-cut ns s e =
    let o = own-cut (length s) ns s (omega arith) e in
    (o, ap (floor_of ns) (sym (flat-cut (length s) s (omega arith))) ∙ floor-flat ns (cut (length s) s) o)

-- the records of an accepted run in any other order: accepted, as many bytes, as many records, the same nine cells
pub records_reordered : (ns s : List ℕ) (qs : List (List ℕ)) → (floor_of ns s).stop ≡ (Ok tt) → Permᴰ (records_of s) qs
    → floor_of ns (flat qs) ≡ floor_of ns s
records_reordered ns s qs e p =
    let r = run-cut ns s e in
    floor-flat ns qs (all_perm p r.0) ∙ rw (← after_perm p r.0 ns, ← flat_perm p, ← perm_length p) refl ∙ sym r.1

-- a run whose records have their ends in another order
flat-ends : {rs qs : List (List ℕ)} (ns : List ℕ) → All Own rs → Reordered rs qs → floor_of ns (flat qs) ≡ floor_of ns (flat rs)
unfolding flat
flat-ends ns none no_record = refl
flat-ends ns (more o os) (a_record {r = r} {rs = rs} {qs = qs} bs p t) =
    let a : (record_of ns r).answer ≡ Ok (length r) = ap (λ (x : BytesAnswer). x.answer) (own-answer r o ns) in
    let kept = ends-reordered ns r (length r) a bs p in
    let long = ends_long ns r (length r) a bs p in
    let b : (record_of ns (with_ends r bs)).answer ≡ Ok (length (with_ends r bs)) =
    ap (λ (x : BytesAnswer). x.answer) kept ∙ a ∙ ap Ok long in
    floor-then ns (with_ends r bs) (flat qs) b ∙
    ap (λ (n : ℕ). behind n 1 (floor_of (record_of ns (with_ends r bs)).cells (flat qs))) (sym long) ∙
    ap (λ (x : BytesAnswer). behind (length r) 1 (floor_of x.cells (flat qs))) kept ∙
    ap (behind (length r) 1) (flat-ends (record_of ns r).cells os t) ∙ sym (floor-then ns r (flat rs) a)

-- the ends of any of its nodes in any other order: accepted, as many bytes, as many records, the same nine cells
pub run_ends_reordered : (ns s : List ℕ) (qs : List (List ℕ)) → (floor_of ns s).stop ≡ (Ok tt) → Reordered (records_of s) qs
    → floor_of ns (flat qs) ≡ floor_of ns s
unfolding records_of
run_ends_reordered ns s qs e t =
    flat-ends ns (own-cut (length s) ns s (omega arith) e) t ∙ ap (floor_of ns) (flat-cut (length s) s (omega arith))

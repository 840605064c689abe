-- Laws of bundle and star calls on bytes. Assumes nothing.
use Rattle.std.specs.Prelude.{Option, None, Result, Ok, Err}
use Rattle.de9im.specs.declared.coordinate_position.CoordPos.{CoordPos}
use Prim.Native.Nat.{ℕ, ◌*◌, ◌/◌, ◌%◌, ◌≤◌, ◌<◌}
use mathlib.Core.Path.{◌≡◌, refl, sym, ap, ◌∙◌}
use mathlib.Core.Bool.{Bool, true, false, cond, not}
use mathlib.Core.List.{List, ◌++◌}
use native.Mathlib.Omega.{arith}
use borrow.Author.Tests.{eq-eqb, eqb-true, le-ltb, ltb-false, le-leb, lt-leb}
use lib.Dec.{eqb, leb, ltb}
use lib.ListN.{length, take, drop}
use lib.Seq.{take-length, take-append_seam}
use Rattle.de9im.specs.declared.refusal.Refusal.{Refusal}
use Rattle.de9im.specs.declared.refusal.Refusal.TheVariants as R
use Rattle.de9im.specs.Answers.{answer_place}
use Rattle.de9im.proofs.LawsApart.{ok_err}
use Rattle.ends.specs.declared.label.Label.{Label}
use Rattle.ends.specs.declared.edge_end.EdgeEnd.{EdgeEnd}
use Rattle.ends.specs.Bundle.{join_of}
use Rattle.ends.specs.Count.{most_ends}
use Rattle.ends.specs.Ends.{or_fault}
use Rattle.ends.specs.Label.{padded}
use Rattle.star.specs.declared.edge_end_bundle_star.Labels.{Labels}
use Rattle.star.specs.Calls.{bundled_of, labels_in, count_in, star_fine, star_call, star_of}
use Rattle.star.specs.Answers.{bundled_place, labeled_place}
use Rattle.star.proofs.LawsNumbers.{bundle-place, star-place}
use Rattle.bundles.specs.Shown.{shown_word}
use Rattle.decoder.specs.EndBytes.{Ends, good, bad, read_ends, ends_call}
use Rattle.decoder.specs.Inner.Gathering.{JoinedRead}
use Rattle.plan.proofs.LawsRecord.{call_fine}
use Rattle.plan.proofs.LawsSmall.{read_place, call-nowhere}
use Rattle.labels.specs.Labels.{labels_bytes}
use Rattle.labels.specs.Calls.{count_of, bundle_call, star_on, shown_labels, room_for, star_checked, put_as, StarPut}
use Rattle.labels.proofs.LawsLabels.{labels_length}

-- the count by what is asked of it: whether the ends are whole, and whether they are too many
abbrev counting : Bool → Bool → Result Unit Refusal
counting whole many = cond whole (cond many (Err R.Ends) (Ok tt)) (Err R.Length)

-- bytes whose count is refused are refused so; others are read one by one
module _ (s : List ℕ) where
  pub count-bad : (r : Refusal) → count_of (length s) ≡ Err r → ends_call s ≡ bad r
  unfolding ends_call
  count-bad r e = by (eqb (length s % 15) 0) (ltb most_ends (length s / 15)) e
    where
      by : (t u : Bool) → counting t u ≡ Err r
          → cond (not t) (bad R.Length) (cond u (bad R.Ends) (read_ends (length s / 15) s 0)) ≡ bad r
      by true true f = ap bad (cc)
      by true false f = ok_err f
      by false u f = ap bad (cc)

  pub record Counted : Type 0 where
    pub whole : length s % 15 ≡ 0
    pub few : length s / 15 ≤ most_ends

  pub count-fine : count_of (length s) ≡ (Ok tt) → Counted
  count-fine e = by (eqb (length s % 15) 0) (ltb most_ends (length s / 15)) refl refl e
    where
      by : (t u : Bool) → eqb (length s % 15) 0 ≡ t → ltb most_ends (length s / 15) ≡ u
          → counting t u ≡ (Ok tt) → Counted
      by true true f g h = ok_err (sym h)
      by true false f g h = record { whole = eqb-true _ _ f; few = ltb-false _ _ g }
      by false u f g h = ok_err (sym h)

  pub call-reads : (n : ℕ) → 15 * n ≡ length s → n ≤ most_ends → ends_call s ≡ read_ends n s 0
  unfolding ends_call
  call-reads n e h =
      let d : length s / 15 ≡ n = omega arith in
      rw (eq-eqb (length s % 15) 0 (omega arith), d, le-ltb most_ends n h) refl

-- ends that were read are checked already
module _ (s : List ℕ) (es : List EdgeEnd) (e : ends_call s ≡ good es) where
  pub bundle-read : bundle_call (ends_call s) ≡ Ok (join_of es)
  unfolding bundled_of
  bundle-read = rw (e, call_fine s es e, take-length es) refl

  pub star-read : (p q : Option CoordPos) → star_on (ends_call s) p q ≡ star_of es p q
  unfolding star_call
  star-read p q = rw (e, call_fine s es e, take-length es) refl

-- the number of a bundle as its label
abbrev shown_as : Result ℕ Refusal → Result Label Refusal
shown_as (Ok w) = Ok (shown_word w)
shown_as (Err r) = Err r

-- what joining them came to is the bundle call
module _ (s : List ℕ) (n : ℕ) (e : 15 * n ≡ length s) (h : n ≤ most_ends) where
  joined-good : (w : ℕ) → JoinedRead n s 0 (Ok w) → Ok (shown_word w) ≡ bundle_call (ends_call s)
  joined-good w a = rw a.kept (sym (bundle-read s a.ends (call-reads s n e h ∙ a.read)))

  joined-bad : (r : Refusal) → JoinedRead n s 0 (Err r) → Err r ≡ bundle_call (ends_call s)
  joined-bad r f = sym (ap bundle_call (call-reads s n e h ∙ f))

  pub joined_call : (j : Result ℕ Refusal) → JoinedRead n s 0 j → shown_as j ≡ bundle_call (ends_call s)
  joined_call (Ok w) a = joined-good w a
  joined_call (Err r) f = joined-bad r f

-- labels in an array, told again
pub labels_shown : (ls : List Label) (n : ℕ) → length ls ≡ n → take n (padded ls) ≡ ls
labels_shown ls n e = rw (← e) (take-append_seam ls _)

-- a star call that is refused leaves the buffer
module _ (s : Result Labels Refusal) (buf : List ℕ) where
  pub refused-put : (r : Refusal) → s ≡ Err r → StarPut s buf (Err r) buf
  refused-put r e = rw e (record { put = refl; bytes = refl; few = tt })

  -- labels that fit go into its front, and others are 12
  module _ (ls : List Label) (e : s ≡ Ok (record { labels = padded ls; count = length ls })) where
    shows : shown_labels s ≡ labels_bytes ls
    shows = rw (e, labels_shown ls (length ls) refl) refl

    fine : star_fine s ≡ Ok tt
    fine = rw e refl

    many : count_in s ≡ length ls
    many = rw e refl

    pub full_put : length ls ≤ most_ends → 7 * length ls ≤ length buf
        → StarPut s buf (Ok (length ls)) (labels_bytes ls ++ drop (7 * length ls) buf)
    full_put k h =
        let l = labels_length ls in
        let room : room_for (labels_bytes ls) buf ≡ (Ok tt) = rw (l, le-leb _ _ h) refl in
        let told : star_checked s buf ≡ (Ok tt) = rw (fine, shows, room) refl in
        record { put = rw (told, many) refl; bytes = rw (told, shows, l) refl; few = k }

    pub short-put : length buf < 7 * length ls → StarPut s buf (Err R.NoRoom) buf
    short-put h =
        let l = labels_length ls in
        let room : room_for (labels_bytes ls) buf ≡ Err R.NoRoom = rw (l, lt-leb _ _ h) refl in
        let told : star_checked s buf ≡ Err R.NoRoom = rw (fine, shows, room) refl in
        record { put = rw told refl; bytes = rw told refl; few = tt }

-- no refusal of these calls has a place
bundle-nowhere-by : (x : Ends) → read_place x ≡ None → bundled_place (bundle_call x) ≡ None
bundle-nowhere-by (good es) e = bundle-place es (length es)
bundle-nowhere-by (bad r) e = e

pub bundle-nowhere : (s : List ℕ) → bundled_place (bundle_call (ends_call s)) ≡ None
bundle-nowhere s = bundle-nowhere-by (ends_call s) (call-nowhere s)

star_nowhere_by : (x : Ends) (p q : Option CoordPos) → read_place x ≡ None → labeled_place (star_on x p q) ≡ None
star_nowhere_by (good es) p q e = star-place es (length es) p q
star_nowhere_by (bad r) p q e = e

fine-place : (s : Result Labels Refusal) → answer_place (star_fine s) ≡ labeled_place s
fine-place (Ok l) = refl
fine-place (Err r) = refl

room-nowhere : (c : Result Unit Refusal) (t : Bool) → answer_place c ≡ None → answer_place (or_fault c (cond t (Ok tt) (Err R.NoRoom))) ≡ None
room-nowhere (Err r) t e = e
room-nowhere (Ok tt) true e = refl
room-nowhere (Ok tt) false e = refl

put-place : (c : Result Unit Refusal) (n : ℕ) → answer_place (put_as c n) ≡ answer_place c
put-place (Ok tt) n = refl
put-place (Err r) n = refl

pub put-nowhere : (s : List ℕ) (p q : Option CoordPos) (buf : List ℕ) (r : Result ℕ Refusal) (after : List ℕ)
    → StarPut (star_on (ends_call s) p q) buf r after → answer_place r ≡ None
put-nowhere s p q buf r after put =
    let l = star_on (ends_call s) p q in
    rw put.put (put-place (star_checked l buf) (count_in l) ∙
    room-nowhere (star_fine l) (leb (length (shown_labels l)) (length buf))
    (fine-place l ∙ star_nowhere_by (ends_call s) p q (call-nowhere s)))

count_by : (t u : Bool) → answer_place (counting t u) ≡ None
count_by true true = refl
count_by true false = refl
count_by false u = refl

pub count-nowhere : (n : ℕ) → answer_place (count_of n) ≡ None
count-nowhere n = count_by (eqb (n % 15) 0) (ltb most_ends (n / 15))

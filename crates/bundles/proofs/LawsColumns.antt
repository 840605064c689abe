-- Columns of ends: one end more keeps them, and they are what ordering and bundling ask for. Assumes nothing.
use Prim.Native.Nat.{ℕ, zero, suc, ◌+◌, ◌/◌, ◌%◌, ◌<◌, ◌≤◌}
use mathlib.Core.Path.{◌≡◌, refl, sym, ap, subst, ◌∙◌}
use mathlib.Core.List.{List, [], ◌∷◌, ◌++◌, map}
use native.Mathlib.Omega.{arith}
use native.Mathlib.Nat.{add-zero, zero-add}
use lib.IntN.{ℤ}
use lib.ListN.{length, take, get_or, set, length-append, length-take, length-map, get_or-map}
use lib.Seq.{take-suc-set, take_all, take-take, get_or-take}
use Rattle.ends.specs.declared.edge_end.EdgeEnd.{EdgeEnd}
use Rattle.ends.specs.Direction.{zero_dir}
use Rattle.ends.specs.Ends.{no_end}
use Rattle.ends.specs.Every.{All, none, more, GoodEnd}
use Rattle.ends.proofs.LawsLists.{map-append}
use Rattle.ends.proofs.LawsOrder.{all-at, at_all}
use Rattle.order.specs.Key.{key_of}
use Rattle.order.specs.Sorted.{Distinct, empty, apart}
use Rattle.order.specs.Words.{dir_at, dir_of, Ordered}
use Rattle.order.proofs.LawsWords.{high_part, low_part}
use Rattle.bundles.specs.Marks.{mark_of, one_mark, word_of}
use Rattle.bundles.specs.Shown.{Bundles}
use Rattle.bundles.specs.Columns.{word_for, words_from, Columns, Room, Put, bundle_words, Marked, Lent}
use Rattle.bundles.proofs.LawsEngine.{words_are}
use Rattle.bundles.proofs.LawsJoined.{Fits, star-bundles}

-- ---- one end more

words_more : (i : ℕ) (es : List EdgeEnd) (e : EdgeEnd)
    → words_from i (es ++ (e ∷ [])) ≡ words_from i es ++ (word_for (i + length es) e ∷ [])
unfolding words_from
words_more i [] e = rw (add-zero i)
words_more i (x ∷ es) e =
    let n : suc i + length es ≡ i + suc (length es) = omega arith in
    ap (λ l. word_for i x ∷ l) (words_more (suc i) es e ∙ rw n)

module _ (es : List EdgeEnd) (e : EdgeEnd) (i : ℕ) (n : length es ≡ i) where
  one_more : length (es ++ (e ∷ [])) ≡ suc i
  one_more = length-append es (e ∷ []) ∙ omega arith

  column-more : {X : Type 0} (l : List X) (v : X) {ls : List X} → i < length l → take (length es) l ≡ ls
      → take (length (es ++ (e ∷ []))) (set l i v) ≡ ls ++ (v ∷ [])
  column-more l v h k = rw (one_more, take-suc-set l i v h, ← n, k)

  pub columns-more : {xs ys xs' ys' : List ℤ} {marks words marks' words' : List ℕ} → Columns es xs ys marks words → Room i xs ys marks words
      → {m : ℕ} → Put e.dir m i xs ys marks words xs' ys' marks' words' → m ≡ word_of (one_mark e)
      → Columns (es ++ (e ∷ [])) xs' ys' marks' words'
  columns-more {xs} {ys} {marks = marks} {words = words} c r p f = record {
    dxs = rw (p.dx_put, map-append (λ e. e.dir.dx) es (e ∷ [])) (column-more xs e.dir.dx r.in_xs c.dxs);
    dys = rw (p.dy_put, map-append (λ e. e.dir.dy) es (e ∷ [])) (column-more ys e.dir.dy r.in_ys c.dys);
    adds = rw (p.mark-put, f, map-append (λ e. word_of (one_mark e)) es (e ∷ []))
        (column-more marks (word_of (one_mark e)) r.in_marks c.adds);
    keys = rw (p.word-put, words_more 0 es e, zero-add (length es), n) (column-more words (word_for i e) r.in_words c.keys);
  }

pub columns_none : (xs ys : List ℤ) (marks words : List ℕ) → Columns [] xs ys marks words
unfolding words_from
columns_none xs ys marks words = record { dxs = refl; dys = refl; adds = refl; keys = refl }

-- the words that the ends have, and no more
pub columns_cut : (es : List EdgeEnd) (n : ℕ) {xs ys : List ℤ} {marks words : List ℕ} → length es ≡ n → Columns es xs ys marks words
    → Columns es xs ys marks (take n words)
columns_cut es n {words = words} e c =
    record { dxs = c.dxs; dys = c.dys; adds = c.adds; keys = take-take (length es) n words (omega arith) ∙ c.keys }

-- ---- words of places that differ, differ

apart_from : (j k : ℕ) (d : EdgeEnd) (es : List EdgeEnd) → j < k → k + length es ≤ 1024 → All (λ y. word_for j d ≡ y → ⊥) (words_from k es)
unfolding words_from
apart_from j k d [] h l = none
apart_from j k d (e ∷ es) h l =
    more (λ (p : word_for j d ≡ word_for k e). omega arith) (apart_from j (suc k) d es (omega arith) (omega arith))

distinct_from : (k : ℕ) (es : List EdgeEnd) → k + length es ≤ 1024 → Distinct (words_from k es)
unfolding words_from
distinct_from k [] l = empty
distinct_from k (e ∷ es) l = apart (apart_from k (suc k) e es (omega arith) (omega arith)) (distinct_from (suc k) es (omega arith))

word_at_lem : (k : ℕ) (es : List EdgeEnd) (i : ℕ) → i < length es → get_or (words_from k es) i 0 ≡ word_for (k + i) (get_or es i no_end)
unfolding words_from
word_at_lem k [] i h = absurd (omega arith)
word_at_lem k (e ∷ es) zero h = rw (add-zero k)
word_at_lem k (e ∷ es) (suc i) h =
    let n : suc k + i ≡ k + suc i = omega arith in
    word_at_lem (suc k) es i (omega arith) ∙ rw n

words_length : (k : ℕ) (es : List EdgeEnd) → length (words_from k es) ≡ length es
unfolding words_from
words_length k [] = refl
words_length k (e ∷ es) = ap suc (words_length (suc k) es)

-- ---- what stands at a place

module _ (es : List EdgeEnd) where
  column-at : {X : Type 0} (f : EdgeEnd → X) (l : List X) → take (length es) l ≡ map f es → (i : ℕ) → i < length es
      → get_or l i (f no_end) ≡ f (get_or es i no_end)
  column-at f l k i h = sym (get_or-take (length es) l i (f no_end) h) ∙ ap (λ m. get_or m i (f no_end)) k ∙ get_or-map f es i no_end

  column-long : {X : Type 0} (f : EdgeEnd → X) (l : List X) → take (length es) l ≡ map f es → length es ≤ length l
  column-long f l k = omega (arith, ap length k, length-take (length es) l, length-map es f)

module _ (es : List EdgeEnd) (xs ys : List ℤ) (marks words : List ℕ) (c : Columns es xs ys marks words) (n : length es ≡ length words)
    (short : length es ≤ 1024) (good : All GoodEnd es) where
  all_words : words ≡ words_from 0 es
  all_words = sym (take_all (length es) words (omega arith)) ∙ c.keys

  key-at : (i : ℕ) → i < length es → get_or words i 0 ≡ word_for i (get_or es i no_end)
  key-at i h = ap (λ l. get_or l i 0) all_words ∙ word_at_lem 0 es i h ∙ rw (zero-add i)

  place_at : (i : ℕ) → i < length es → get_or words i 0 % 1024 ≡ i
  place_at i h = ap (λ w. w % 1024) (key-at i h) ∙ low_part (key_of (get_or es i no_end).dir) 1024 i (omega arith)

  dir-at : (i : ℕ) → i < length es → dir_at xs ys i ≡ (get_or es i no_end).dir
  dir-at i h = rw (column-at es (λ e. e.dir.dx) xs c.dxs i h, column-at es (λ e. e.dir.dy) ys c.dys i h)

  mark-at : (i : ℕ) → i < length es → get_or marks i 0 ≡ word_of (one_mark (get_or es i no_end))
  unfolding mark_of
  mark-at i h = column-at es (λ e. word_of (one_mark e)) marks c.adds i h

  fits-at : (i : ℕ) → i < length es → Fits es no_end xs ys marks (get_or words i 0)
  fits-at i h = record { dir-is = rw (place_at i h) (dir-at i h); mark-is = rw (place_at i h) (mark-at i h) }

  marked-at : (i : ℕ) → i < length es → Marked xs ys marks (get_or words i 0)
  marked-at i h =
      let d : dir_of xs ys (get_or words i 0) ≡ (get_or es i no_end).dir = rw (place_at i h) (dir-at i h) in
      record {
        word = record {
          in_x = omega (arith, place_at i h, column-long es (λ e. e.dir.dx) xs c.dxs);
          in_y = omega (arith, place_at i h, column-long es (λ e. e.dir.dy) ys c.dys);
          good = ap zero_dir d ∙ all-at no_end good i h;
          key = ap (λ w. w / 1024) (key-at i h) ∙ high_part (key_of (get_or es i no_end).dir) 1024 i (omega arith) ∙ sym (ap key_of d);
        };
        in_marks = omega (arith, place_at i h, column-long es (λ e. word_of (one_mark e)) marks c.adds);
      }

  -- what ordering and bundling ask for
  pub columns-lent : (spare out : List ℕ) → length spare ≡ length words → length words ≤ length out → Lent xs ys marks words spare out
  columns-lent spare out s o = record {
    ready = record {
      are = at_all 0 words (λ i h. (marked-at i (omega arith)).word);
      apart = subst Distinct (sym all_words) (distinct_from 0 es (omega arith));
      short = omega arith;
      room = s;
    };
    marked = at_all 0 words (λ i h. marked-at i (omega arith));
    room = o;
  }

  -- words of the columns, put in order and joined, are the bundles
  pub columns-bundles : (ws : List ℕ) → Ordered xs ys words ws → Bundles es (bundle_words xs ys marks ws)
  columns-bundles ws o =
      star-bundles es no_end xs ys marks words ws (words_are es no_end xs ys words (sym n) place_at)
      (at_all 0 words (λ i h. fits-at i (omega arith))) o good

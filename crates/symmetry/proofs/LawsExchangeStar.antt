-- Exchanging A and B in every end of a node, and in the node, exchanges them in each label of its completed star; refusal 9 stays; and what
-- is poured is poured into the cell with row and column exchanged. Assumes nothing.
use Rattle.std.specs.Prelude.{Option, Some, None}
use Rattle.de9im.specs.declared.coordinate_position.CoordPos.{CoordPos}
use Rattle.de9im.specs.declared.coordinate_position.CoordPos.TheVariants.{Inside, OnBoundary, Outside}
use Prim.Native.Nat.{ℕ}
use mathlib.Core.Path.{◌≡◌, refl, ap, ◌∙◌}
use mathlib.Core.Bool.{Bool, true, false, cond, and_comm, or_comm}
use mathlib.Core.List.{List, [], ◌∷◌, map}
use lib.Dec.{eqb}
use Rattle.de9im.specs.declared.dimensions.Dimensions.{Dimensions}
use Rattle.de9im.specs.declared.dimensions.Dimensions.TheVariants.{ZeroDimensional, OneDimensional, TwoDimensional}
use Rattle.de9im.specs.Position.{row_of}
use Rattle.ends.specs.declared.label.Geometry.{Geometry}
use Rattle.ends.specs.declared.label.Geometry.TheVariants.{A, B}
use Rattle.ends.specs.declared.label.Label.{Label}
use Rattle.ends.specs.declared.edge_end.Dir.{Dir}
use Rattle.ends.specs.declared.edge_end.EdgeEnd.{EdgeEnd}
use Rattle.ends.specs.declared.topology_position.Side.{Side}
use Rattle.ends.specs.declared.topology_position.Side.TheVariants.{Left, Right}
use Rattle.ends.specs.Bundle.{count, is_area, on_is, side_is, on_joined, side_joined, half_joined, join_of}
use Rattle.ends.specs.Direction.{same_dir}
use Rattle.ends.specs.Label.{is_none}
use Rattle.ends.specs.Star.{insert_dir, dirs_from, dirs_of, keep, bundle_at, joined_of}
use Rattle.star.specs.declared.pouring.Node.{Node}
use Rattle.walks.specs.Completing.{
  start_of,
  walk_next,
  walk_from,
  walk_of,
  walked_of,
  any,
  has_left,
  right_alone,
  missing,
  missing_left,
  collapses,
  collapsed,
  rest_of,
  fill_label,
  filled_of,
  completed_of,
}
use Rattle.walks.specs.Pouring.{into, label_into, labels_into}
use Rattle.plan.specs.Said.{Said, edge, node}
use Rattle.symmetry.proofs.LawsPoured.{said_into}

abbrev pub other_label : Label → Label
other_label l = record { area = l.area; a = l.b; b = l.a }

abbrev pub other_end : EdgeEnd → EdgeEnd
other_end e = record { dir = e.dir; label = other_label e.label }

abbrev pub other_place : Node → Node
other_place n = record { on_a = n.on_b; on_b = n.on_a; area_a = n.area_b; area_b = n.area_a }

abbrev pub other_said : Said → Said
other_said (edge l) = edge (other_label l)
other_said (node n es) = node (other_place n) (map other_end es)

abbrev other : Geometry → Geometry
other A = B
other B = A

-- joining
count-other : (t u : EdgeEnd → Bool) → ((e : EdgeEnd) → t (other_end e) ≡ u e) → (es : List EdgeEnd)
    → count t (map other_end es) ≡ count u es
unfolding count
count-other t u f [] = refl
count-other t u f (e ∷ es) = rw (f e, count-other t u f es) refl

on_other : (g : Geometry) (es : List EdgeEnd) → on_joined (other g) (map other_end es) ≡ on_joined g es
unfolding on_joined
on_other A es =
    rw (
      count-other (on_is B (Some OnBoundary)) (on_is A (Some OnBoundary)) (λ e. refl) es,
      count-other (on_is B (Some Inside))
          (on_is A (Some Inside)) (λ e. refl) es,
    ) refl
on_other B es =
    rw (
      count-other (on_is A (Some OnBoundary)) (on_is B (Some OnBoundary)) (λ e. refl) es,
      count-other (on_is A (Some Inside))
          (on_is B (Some Inside)) (λ e. refl) es,
    ) refl

side-other : (g : Geometry) (s : Side) (es : List EdgeEnd) → side_joined (other g) s (map other_end es) ≡ side_joined g s es
unfolding side_joined
side-other A s es =
    rw (
      count-other (side_is B s (Some Inside)) (side_is A s (Some Inside)) (λ e. refl) es,
      count-other (side_is B s (Some Outside)) (side_is A s (Some Outside)) (λ e. refl) es,
    )
    refl
side-other B s es =
    rw (
      count-other (side_is A s (Some Inside)) (side_is B s (Some Inside)) (λ e. refl) es,
      count-other (side_is A s (Some Outside)) (side_is B s (Some Outside)) (λ e. refl) es,
    )
    refl

half-other : (g : Geometry) (es : List EdgeEnd) → half_joined (other g) (map other_end es) ≡ half_joined g es
unfolding half_joined
half-other g es = rw (on_other g es, side-other g Left es, side-other g Right es) refl

join-other : (es : List EdgeEnd) → join_of (map other_end es) ≡ other_label (join_of es)
unfolding join_of
join-other es = rw (count-other is_area is_area (λ e. refl) es, half-other B es, half-other A es) refl

-- sorting
dirs_other : (ds : List Dir) (es : List EdgeEnd) → dirs_from ds (map other_end es) ≡ dirs_from ds es
unfolding dirs_from
dirs_other ds [] = refl
dirs_other ds (e ∷ es) = dirs_other (insert_dir e.dir ds) es

bundle-other : (d : Dir) (es : List EdgeEnd) → bundle_at (map other_end es) d ≡ map other_end (bundle_at es d)
unfolding keep
bundle-other d [] = refl
bundle-other d (e ∷ es) = rw (bundle-other d es) (by (same_dir d e.dir))
  where
    by : (t : Bool) → cond t (other_end e ∷ map other_end (bundle_at es d)) (map other_end (bundle_at es d))
        ≡ map other_end (cond t (e ∷ bundle_at es d) (bundle_at es d))
    by true = refl
    by false = refl

bundles-other : (es : List EdgeEnd) (ds : List Dir)
    → map join_of (map (bundle_at (map other_end es)) ds) ≡ map other_label (map join_of (map (bundle_at es) ds))
bundles-other es [] = refl
bundles-other es (d ∷ ds) = rw (bundle-other d es, join-other (bundle_at es d), bundles-other es ds) refl

pub joined-other : (es : List EdgeEnd) → joined_of (map other_end es) ≡ map other_label (joined_of es)
joined-other es = rw (dirs_other [] es) (bundles-other es (dirs_of es))

-- completing: the walk for one geometry is the other's, exchanged
start-other : (g : Geometry) (ls : List Label) → start_of (other g) (map other_label ls) ≡ start_of g ls
unfolding start_of
start-other g [] = refl
start-other A (l ∷ ls) = rw (start-other A ls) refl
start-other B (l ∷ ls) = rw (start-other B ls) refl

from-other : (g : Geometry) (p : Option CoordPos) (ls : List Label)
    → walk_from (other g) p (map other_label ls) ≡ map other_label (walk_from g p ls)
unfolding walk_from
from-other g p [] = refl
from-other A p (l ∷ ls) = rw (from-other A (walk_next l.area p l.a) ls) refl
from-other B p (l ∷ ls) = rw (from-other B (walk_next l.area p l.b) ls) refl

walk-other : (g : Geometry) (ls : List Label) → walk_of (other g) (map other_label ls) ≡ map other_label (walk_of g ls)
unfolding walk_of
walk-other g ls = rw (start-other g ls, from-other g (start_of g ls) ls) (by (is_none (start_of g ls)))
  where
    by : (t : Bool) → cond t (map other_label ls) (map other_label (walk_from g (start_of g ls) ls))
        ≡ map other_label (cond t ls (walk_from g (start_of g ls) ls))
    by true = refl
    by false = refl

-- and the two walks don't meddle with each other
start-past : (g : Geometry) (p : Option CoordPos) (ls : List Label) → start_of (other g) (walk_from g p ls) ≡ start_of (other g) ls
unfolding start_of walk_from
start-past g p [] = refl
start-past A p (l ∷ ls) = rw (start-past A (walk_next l.area p l.a) ls) refl
start-past B p (l ∷ ls) = rw (start-past B (walk_next l.area p l.b) ls) refl

from_past : (p q : Option CoordPos) (ls : List Label) → walk_from A p (walk_from B q ls) ≡ walk_from B q (walk_from A p ls)
unfolding walk_from
from_past p q [] = refl
from_past p q (l ∷ ls) = rw (from_past (walk_next l.area p l.a) (walk_next l.area q l.b) ls) refl

walk-past : (ls : List Label) → walk_of A (walk_of B ls) ≡ walk_of B (walk_of A ls)
unfolding walk_of
walk-past ls = by (is_none (start_of A ls)) (is_none (start_of B ls)) refl refl
  where
    by : (t u : Bool) → is_none (start_of A ls) ≡ t → is_none (start_of B ls) ≡ u → walk_of A (walk_of B ls) ≡ walk_of B (walk_of A ls)
    by true true p q = simp (p, q)
    by true false p q = simp (p, q, start-past B (start_of B ls) ls)
    by false true p q = simp (p, q, start-past A (start_of A ls) ls)
    by false false p q =
        simp (p, q, start-past B (start_of B ls) ls, start-past A (start_of A ls) ls, from_past (start_of A ls) (start_of B ls) ls)

walked-other : (ls : List Label) → walked_of (map other_label ls) ≡ map other_label (walked_of ls)
walked-other ls = ap (walk_of B) (walk-other B ls) ∙ walk-other A (walk_of B ls) ∙ ap (map other_label) (walk-past ls)

any-other : (t u : Label → Bool) → ((l : Label) → t (other_label l) ≡ u l) → (ls : List Label) → any t (map other_label ls) ≡ any u ls
unfolding any
any-other t u f [] = refl
any-other t u f (l ∷ ls) = rw (f l, any-other t u f ls) refl

fill-other : (p q : Option CoordPos) (ls : List Label) → map (fill_label q p) (map other_label ls) ≡ map other_label (map (fill_label p q) ls)
fill-other p q [] = refl
fill-other p q (l ∷ ls) = rw (fill-other p q ls) refl

filled-other : (p q : Option CoordPos) (ls : List Label) → filled_of q p (map other_label ls) ≡ map other_label (filled_of p q ls)
unfolding filled_of
filled-other p q ls =
    rw (any-other (collapses A) (collapses B) (λ l. refl) ls, any-other (collapses B) (collapses A) (λ l. refl) ls)
    (fill-other (rest_of (collapsed A ls) p) (rest_of (collapsed B ls) q) ls)

pub completed_other : (p q : Option CoordPos) (ls : List Label) → completed_of q p (map other_label ls) ≡ map other_label (completed_of p q ls)
completed_other p q ls = ap (filled_of q p) (walked-other ls) ∙ filled-other p q (walked_of ls)

-- refusal 9
pub missing-other : (ls : List Label) → missing_left (map other_label ls) ≡ missing_left ls
unfolding missing_left
missing-other ls =
    rw (
      any-other (has_left A) (has_left B) (λ l. refl) ls,
      any-other (right_alone A) (right_alone B) (λ l. refl) ls,
      any-other (has_left B) (has_left A) (λ l. refl) ls,
      any-other (right_alone B) (right_alone A) (λ l. refl) ls,
    )
    (or_comm (missing B ls) (missing A ls))

-- pouring
into-other : (a b : Option CoordPos) (d : Dimensions) (i j : ℕ) → into b a d i j ≡ into a b d j i
into-other (Some a) (Some b) d i j = rw (and_comm (eqb (row_of b) i) (eqb (row_of a) j)) refl
into-other (Some a) None d i j = refl
into-other None (Some b) d i j = refl
into-other None None d i j = refl

label-other : (l : Label) (i j : ℕ) → label_into (other_label l) i j ≡ label_into l j i
label-other l i j =
    rw (
      into-other l.a.on l.b.on OneDimensional i j,
      into-other l.a.left l.b.left TwoDimensional i j,
      into-other l.a.right l.b.right TwoDimensional i j,
    )
    refl

labels_other : (ls : List Label) (i j : ℕ) → labels_into (map other_label ls) i j ≡ labels_into ls j i
unfolding labels_into
labels_other [] i j = refl
labels_other (l ∷ ls) i j = rw (label-other l i j, labels_other ls i j) refl

pub said_into_other : (x : Said) (i j : ℕ) → said_into (other_said x) i j ≡ said_into x j i
said_into_other (edge l) i j = label-other l i j
said_into_other (node n es) i j =
    rw (
      joined-other es,
      completed_other n.area_a n.area_b (joined_of es),
      into-other n.on_a n.on_b ZeroDimensional i j,
      labels_other (completed_of n.area_a n.area_b (joined_of es)) i j,
    )
    refl

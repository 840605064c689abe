-- Exchanging two outlines transposes the matrix of those that are let pass, and so the answer to any two. Assumes nothing.
use Rattle.std.specs.Prelude.{Some, None, Result, Ok, Err}
use Prim.Native.Nat.{ℕ}
use mathlib.Core.Path.{◌≡◌, refl, sym, ap, ◌∙◌}
use mathlib.Core.List.{List, [], ◌∷◌}
use lib.IntN.{ℤ}
use mathlib.Core.Bool.{false}
use Rattle.de9im.proofs.LawsApart.{true_false}
use Rattle.de9im.proofs.LawsBool.{told}
use Rattle.ends.specs.declared.label.Label.{Label}
use Rattle.outline.specs.declared.corners.Corner.{Corner}
use Rattle.outline.specs.Lent.{corners_in}
use Rattle.outline.specs.Meaning.{Accepted}
use Rattle.outline.specs.Position.{position_of}
use Rattle.pairs.specs.declared.fault.Fault.{Fault}
use Rattle.pairs.specs.Fault.{fault_of}
use Rattle.pairs.specs.First.{within_of}
use Rattle.pairs.proofs.LawsFault.{passed}
use Rattle.walks.specs.Completing.{completed_of}
use Rattle.floors.specs.declared.floor.FloorAnswer.{FloorAnswer}
use Rattle.nodes.specs.Records.{distinct_of}
use Rattle.commission.specs.Poured.{node_for, poured_for}
use Rattle.commission.specs.Related.{start_cells, matrix_for, related_of, cells_of}
use Rattle.commission.specs.Sound.{is_sound, where_sound}
use Rattle.commission.proofs.LawsPoured.{records-poured}
use Rattle.commission.proofs.LawsSound.{is-sound}
use Rattle.symmetry.specs.Exchange.{flipped}
use Rattle.symmetry.proofs.LawsExchange.{poured-flipped}
use Rattle.symmetry.proofs.LawsExchangeStar.{said_into_other}
use Rattle.symmetry.proofs.LawsPoured.{star_into, said_into}
use Rattle.exchanged.proofs.LawsEnds.{joined-exchanged}
use Rattle.exchanged.proofs.LawsOrder.{star_at, after, corner-poured, poured-perm}
use Rattle.exchanged.proofs.LawsSound.{sound-alike}
use Rattle.exchanged.proofs.LawsUnion.{distinct_perm}

-- the matrix is what the stars of the distinct corners pour
pub matrix-poured : (a b : List Corner) → Accepted a → Accepted b → matrix_for a b ≡ poured_for a b (distinct_of a b) start_cells
unfolding matrix_for
matrix-poured a b ok oj = ap (λ (f : FloorAnswer). f.cells) (records-poured a b ok oj start_cells)

module _ (a b : List Corner) (ok : Accepted a) (oj : Accepted b) where
  -- a corner's star is poured into the cells with row and column exchanged
  into-other : (p : Corner) (i j : ℕ) → said_into (star_at b a p) i j ≡ said_into (star_at a b p) j i
  into-other p i j =
      ap
      (λ (ls : List Label). star_into (node_for b a p) (completed_of (Some (position_of b p)) (Some (position_of a p)) ls) i j)
      (joined-exchanged a b ok oj p)
      ∙ said_into_other (star_at a b p) i j

  corner-flipped : (p : Corner) (ns : List ℕ) → after b a (flipped ns) p ≡ flipped (after a b ns p)
  corner-flipped p ns = poured-flipped (corner-poured a b ok oj p ns) (corner-poured b a oj ok p (flipped ns)) (into-other p)

  corners-flipped : (ps : List Corner) (ns : List ℕ) → poured_for b a ps (flipped ns) ≡ flipped (poured_for a b ps ns)
  unfolding poured_for
  corners-flipped [] ns = refl
  corners-flipped (p ∷ ps) ns = ap (poured_for b a ps) (corner-flipped p ns) ∙ corners-flipped ps (after a b ns p)

  pub matrix-flipped : within_of a ≡ None → within_of b ≡ None → matrix_for b a ≡ flipped (matrix_for a b)
  matrix-flipped e f =
      matrix-poured b a oj ok ∙ poured-perm b a oj ok (distinct_perm a b ok oj e f) start_cells
      ∙ corners-flipped (distinct_of a b) start_cells ∙ sym (ap flipped (matrix-poured a b ok oj))

-- two outlines that aren't refused
pub related_poured : (a b : List ℤ) → fault_of a b ≡ Ok tt
    → cells_of (related_of a b) ≡ poured_for (corners_in a) (corners_in b) (distinct_of (corners_in a) (corners_in b)) start_cells
unfolding related_of
related_poured a b h =
    let p = passed a b h in
    rw h (matrix-poured (corners_in a) (corners_in b) p.of-a.accepted p.of-b.accepted)

pub sound-flipped : (a b : List ℤ) → fault_of a b ≡ Ok tt
    → matrix_for (corners_in b) (corners_in a) ≡ flipped (matrix_for (corners_in a) (corners_in b))
sound-flipped a b h =
    let p = passed a b h in
    matrix-flipped (corners_in a) (corners_in b) p.of-a.accepted p.of-b.accepted p.cut.in-a p.cut.in-b

-- any two: beside a refusal stands the start matrix, which is its own transposed
pub related_flipped : (a b : List ℤ) → cells_of (related_of b a) ≡ flipped (cells_of (related_of a b))
unfolding related_of
related_flipped a b =
    told (is_sound (fault_of a b))
    (λ e.
    let f = is-sound (fault_of a b) e in
    rw (f, is-sound (fault_of b a) (sound-alike a b ∙ e)) (sound-flipped a b f))
    (λ e. by (fault_of a b) e (fault_of b a) (sound-alike a b ∙ e))
  where
    by : (c : Result Unit Fault) → is_sound c ≡ false → (d : Result Unit Fault) → is_sound d ≡ false
        → cells_of (where_sound d (matrix_for (corners_in b) (corners_in a)))
        ≡ flipped (cells_of (where_sound c (matrix_for (corners_in a) (corners_in b))))
    by (Ok u) e d f = true_false e
    by (Err r) e (Ok u) f = true_false f
    by (Err r) e (Err q) f = refl

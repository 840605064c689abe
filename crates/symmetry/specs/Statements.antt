-- Request R-12, sentence by sentence, each as one statement over the bytes that a person sends. That all of them hold is
-- proofs/AllHold.antt; what doesn't hold is proofs/Examples.antt.
use Rattle.std.specs.Prelude.{ℕ, ◌≡◌, false, ◌&&◌, length, Ok}
use mathlib.Core.List.{List, Permᴰ}
use Rattle.de9im.specs.Cells.{cells_of}
use Rattle.de9im.specs.Matrix.{Matrix, transposed_of, start_matrix}
use Rattle.de9im.specs.Patterns.{check_of, matches_of}
use Rattle.predicates.specs.declared.predicate.Predicate.{Predicate}
use Rattle.predicates.specs.declared.predicate.Predicate.TheVariants.{Touches, Crosses, Overlaps}
use Rattle.predicates.specs.Predicates.{holds}
use Rattle.floors.specs.Floor.{floor_of}
use Rattle.plan.specs.Record.{record_of}
use Rattle.verdict.specs.declared.Verdict.{Verdict}
use Rattle.verdict.specs.Judges.{Judges}
use Rattle.verdict.specs.Means.{answer_of, Means}
use Rattle.symmetry.specs.Ends.{ends_of, with_ends, Reordered}
use Rattle.symmetry.specs.Exchange.{other_run, flipped, flipped_floor}
use Rattle.symmetry.specs.Partners.{Partners}
use Rattle.symmetry.specs.Runs.{flat, records_of}

-- "For accepted records, reordering the ends of a node .. gives the same nine cells": of one record of either version, into any nine
-- numbers, the whole answer; and of any records of an accepted run, the whole answer to it
pub record EndsInAnyOrder : Type 0 where
  pub of_a_record : (ns s : List ℕ) (u : ℕ) (bs : List (List ℕ)) → (record_of ns s).answer ≡ Ok u → Permᴰ (ends_of s) bs
      → record_of ns (with_ends s bs) ≡ record_of ns s
  pub of_a_run : (ns s : List ℕ) (rs : List (List ℕ)) → (floor_of ns s).stop ≡ (Ok tt) → Reordered (records_of s) rs
      → floor_of ns (flat rs) ≡ floor_of ns s

-- ".. or the records of a run"
abbrev pub RecordsInAnyOrder : Type 0
RecordsInAnyOrder = (ns s : List ℕ) (rs : List (List ℕ)) → (floor_of ns s).stop ≡ (Ok tt) → Permᴰ (records_of s) rs
    → floor_of ns (flat rs) ≡ floor_of ns s

-- "Exchanging A and B in every record, from a transposed start, gives the transposed matrix": of any bytes, accepted or refused; and the
-- start matrix is its own transposed
pub record SidesExchanged : Type 0 where
  pub of_a_run : (ns s : List ℕ) → floor_of (flipped ns) (other_run s) ≡ flipped_floor (floor_of ns s)
  pub from_the_start : flipped (cells_of start_matrix) ≡ cells_of start_matrix

-- "within answers as contains did, coveredby as covers did, and disjoint, intersects, touches, crosses, overlaps and equal_topo stay"; so
-- do verdicts, and patterns with their letters transposed
pub record AnswersTransposed : Type 0 where
  pub of_predicates : (p q : Predicate) → Partners p q → (m : Matrix) → holds p (transposed_of m) ≡ holds q m
  pub of_verdicts : (p q : Predicate) → Partners p q → (v : Verdict) (ns : List ℕ) → length ns ≡ 9 → Means v (answer_of q) ns
      → Means v (answer_of p) (flipped ns)
  pub of_patterns : (p : List ℕ) → check_of p ≡ (Ok tt) → (m : Matrix) → matches_of (transposed_of m) (flipped p) ≡ matches_of m p
  pub of_patterns_verdicts : (p : List ℕ) (v : Verdict) (ns : List ℕ) → length ns ≡ 9 → Judges (Ok v) p ns
      → Judges (Ok v) (flipped p) (flipped ns)

-- "Touches, crosses and overlaps exclude each other on all matrices"
abbrev pub Never : Predicate → Predicate → Type 0
Never p q = (m : Matrix) → (holds p m && holds q m) ≡ false

pub record ExcludeEachOther : Type 0 where
  pub touches_crosses : Never Touches Crosses
  pub touches_overlaps : Never Touches Overlaps
  pub crosses-overlaps : Never Crosses Overlaps

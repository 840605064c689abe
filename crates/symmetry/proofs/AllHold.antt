-- Request R-12's statements hold. Assumes nothing.
use Rattle.symmetry.specs.Statements.{EndsInAnyOrder, RecordsInAnyOrder, SidesExchanged, AnswersTransposed, ExcludeEachOther}
use Rattle.symmetry.proofs.LawsEnds.{ends-reordered}
use Rattle.symmetry.proofs.LawsExchange.{run-exchanged, same_start}
use Rattle.symmetry.proofs.LawsPatterns.{matches-flipped}
use Rattle.symmetry.proofs.LawsPredicates.{
  transposed,
  never-touches-and-crosses,
  never-touches-and-overlaps,
  never-crosses-and-overlaps,
}
use Rattle.symmetry.proofs.LawsRecords.{records_reordered, run_ends_reordered}
use Rattle.symmetry.proofs.LawsVerdicts.{verdict-transposed, pattern_transposed}

pub ends_in_any_order : EndsInAnyOrder
ends_in_any_order = record { of_a_record = λ ns s u bs e p. ends-reordered ns s u e bs p; of_a_run = run_ends_reordered }

pub records_in_any_order : RecordsInAnyOrder
records_in_any_order = records_reordered

pub sides-exchanged : SidesExchanged
sides-exchanged = record { of_a_run = run-exchanged; from_the_start = same_start }

pub answers-transposed : AnswersTransposed
answers-transposed =
    record {
      of_predicates = λ p q r m. transposed r m;
      of_verdicts = λ p q r v ns h k. verdict-transposed r v ns h k;
      of_patterns = λ p e m. matches-flipped m p e;
      of_patterns_verdicts = pattern_transposed;
    }

pub exclude_each_other : ExcludeEachOther
exclude_each_other =
    record {
      touches_crosses = never-touches-and-crosses;
      touches_overlaps = never-touches-and-overlaps;
      crosses-overlaps = never-crosses-and-overlaps;
    }

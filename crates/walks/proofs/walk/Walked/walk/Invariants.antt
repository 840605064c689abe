-- The loop keeps the walk over the words so far; one word more is one step.
use Rattle.std.proofs.Common.{◌≡◌, take}
use Rattle.walks.specs.Inner.Walked.{walk_word}
use Rattle.walks.specs.Inner.Walking.{after}
use Rattle.walks.proofs.walk.Walked.walk.Given as goal

abbrev pub invariant-loop-t : goal.invariant-loop-t
invariant-loop-t l = l.walked ≡ after walk_word l.fn.self (take l.t-index l.words)

-- The loop keeps what the words so far show; one word more is one step.
use Rattle.std.proofs.Common.{◌≡◌, take}
use Rattle.walks.specs.Inner.Starts.{starts_of}
use Rattle.walks.proofs.start.Starts.look.Given as goal

abbrev pub invariant-loop-t : goal.invariant-loop-t
invariant-loop-t l = l.starts ≡ starts_of (take l.t-index l.words)

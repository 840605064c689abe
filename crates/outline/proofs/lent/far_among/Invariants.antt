-- What was found, or a far one among the numbers that are left, is what all of them show.
use Rattle.std.proofs.Common.{◌≡◌, ◌||◌, drop}
use Rattle.outline.specs.Inner.Walk.{far_among}
use Rattle.outline.proofs.lent.far_among.Given as goal

abbrev pub invariant-loop-z : goal.invariant-loop-z
invariant-loop-z l = (l.found || far_among (drop l.z-index l.xy)) ≡ far_among l.xy

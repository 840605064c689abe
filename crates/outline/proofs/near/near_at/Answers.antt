-- None of the corners is far, so the one that was read isn't.
use Rattle.std.proofs.Common.{arith}
use Rattle.outline.specs.Lent.{corners_in}
use Rattle.outline.proofs.LawsLent.{corners_length}
use Rattle.outline.proofs.LawsWalk.{near-at}
use Rattle.outline.proofs.near.near_at.Goals as goal

pub new-requires : goal.new-requires
new-requires c =
    let ns = c.args.xy.now in
    rw c.corner_at.ensures (near-at (corners_in ns) c.requires.1 c.args.i (omega (arith, corners_length ns)))

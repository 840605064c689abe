-- One number more is far or near; past the last one nothing is left.
use Rattle.std.proofs.Common.{rules, arith, sym, ◌∙◌, pos, get_or, FitsSigned, w32}
use Rattle.std.proofs.Math.Facts.{to_z-of_z}
use Rattle.outline.proofs.LawsWalk.{far-next, far-end}
use Rattle.outline.proofs.lent.far_among.Goals as goal

pub returns : goal.returns
returns c =
    let l = c.loop-z in
    sym (far-end c.args.xy.now l.z-index l.found (omega arith)) ∙ l.invariant

pub loop-z-preserved : goal.loop-z-preserved
loop-z-preserved c =
    let l = c.loop-z in
    let ns = c.args.xy.now in
    let f : FitsSigned w32 (get_or ns l.z-index (pos 0)) = search rules in
    rw (c.far-found.ensures, to_z-of_z f) (far-next ns l.z-index l.found (omega arith) ∙ l.invariant)

-- Two directions on an axis stand as the numbers of their axes do.
use Rattle.std.proofs.Common.{sym, ◌∙◌}
use Rattle.ends.specs.Inner.Axis.{axis_of}
use Rattle.ends.proofs.LawsAxis.{axis-order}
use Rattle.ends.proofs.LawsDirection.{by_cmp}
use Rattle.ends.proofs.edge_end.Dir.compare.Goals as goal

pub returns-then-on_axis-2 : goal.returns-then-on_axis-2
returns-then-on_axis-2 c =
    let d = c.args.self in
    let e = c.args.other in
    c.cmp.ensures ∙ rw (c.axis.ensures.0, c.axis-then-on_axis-2.ensures.0)
    (by_cmp (axis_of d) (axis_of e) ∙ sym (axis-order d e (sym c.if-on_axis.ensures) (sym c.if-on_axis-2.ensures)))

-- What was lent is all of the matrix, there and back.
use Rattle.traced.proofs.LawsLent.{back_from, whole_from}
use Rattle.traced.proofs.kept.Traced.with_record.Goals as goal

pub returns-in_default : goal.returns-in_default
returns-in_default c =
    let e = c.in_default.is in
    rw e (back_from c.args.self c.args.s.now _ _ _ (rw c.ten-ten.ensures at c.pour_into-answer.ensures) _ e)

pub returns : goal.returns
returns c =
    rw c.joined.ensures
    (whole_from c.args.self c.args.s.now _ _ _ (rw c.ten-ten.ensures at c.pour_into-answer.ensures) _ c.in-Ok.is)

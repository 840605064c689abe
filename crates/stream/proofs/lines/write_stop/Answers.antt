-- One line of `StopLine` for each reason.
use Rattle.std.proofs.Common.{rules}
use Rattle.stream.proofs.lines.write_stop.Goals as goal

pub returns-in-Refused : goal.returns-in-Refused
returns-in-Refused c = (c.write_refused.ensures.0, rw c.in-Refused.is c.write_refused.ensures.1)

pub returns-in-Unreadable : goal.returns-in-Unreadable
returns-in-Unreadable c = (search rules, rw c.in-Unreadable.is c.push.ensures.out_after)

use Rattle.std.proofs.Common.{◌≡◌, true, false}
use Rattle.poll_log.proofs.PollFacts.{not_due}
use Rattle.poll_log.proofs.log.PollLog.due.Goals as goal

pub returns-in-Err : goal.returns-in-Err
returns-in-Err c = (
  λ (is : false ≡ true). cc,
  λ due. absurd (not_due c.args.hint _ c.args.now.nanosecond c.in-Err.field-0 c.in-Err.ensures due),
)

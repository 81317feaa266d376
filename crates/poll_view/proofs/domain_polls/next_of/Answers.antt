use Rattle.std.proofs.Common.{Ok, subst}
use Rattle.poll_log.specs.Polling.{IsPollDue, IsNext, standing_in}
use Rattle.poll_view.proofs.NextPollFacts.{not_due, past_range}
use Rattle.poll_view.proofs.domain_polls.next_of.Goals as goal

pub returns-in-Ok-Some : goal.returns-in-Ok-Some
returns-in-Ok-Some c = (
  not_due (IsPollDue c.args.hint (standing_in c.args.log.now c.args.domain.now) c.args.now.nanosecond) c.due.result c.due.ensures.1 c.if-due.false,
  subst (λ next. IsNext c.args.hint (standing_in c.args.log.now c.args.domain.now) (Ok next)) c.in-Ok-Some.field-0-is c.in-Ok-Some.ensures,
)

pub returns-in-Err : goal.returns-in-Err
returns-in-Err c = past_range c.args.hint c.args.log.now c.args.domain.now c.in-Err.field-0 c.requires c.in-Err.ensures

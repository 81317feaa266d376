use Rattle.poll_log.proofs.PollFacts.{IsLog-new}
use Rattle.poll_log.proofs.log.PollLog.new.Goals as goal

pub invariant_of-result : goal.invariant_of-result
invariant_of-result c = IsLog-new c.args.config.now c.relationships.result.now _ c.domains.ensures.form c.relationships.ensures c.in_ok-never_polled.ensures

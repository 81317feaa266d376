use Rattle.poll_log.proofs.PollLawFacts as facts
use Rattle.poll_log.proofs.laws.one_log.Goals as goal

pub returns-clause-one : goal.returns-clause-one
returns-clause-one c = facts.one_log

pub returns-clause-none : goal.returns-clause-none
returns-clause-none c = facts.no_log

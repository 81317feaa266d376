use Rattle.replica_texts.proofs.GiveFacts.{one-give, give-read}
use Rattle.replica_texts.proofs.MessageFaultFacts.{one-give-cause}
use Rattle.replica_texts.proofs.laws.gives.Goals as goal

pub returns-clause-one : goal.returns-clause-one
returns-clause-one c = one-give

pub returns-clause-read : goal.returns-clause-read
returns-clause-read c = give-read

pub returns-clause-one_cause : goal.returns-clause-one_cause
returns-clause-one_cause c = one-give-cause

use Rattle.replica_texts.proofs.OneHaveFacts.{one-have, have-read}
use Rattle.replica_texts.proofs.MessageFaultFacts.{one-have-cause}
use Rattle.replica_texts.proofs.laws.haves.Goals as goal

pub returns-clause-one : goal.returns-clause-one
returns-clause-one c = one-have

pub returns-clause-read : goal.returns-clause-read
returns-clause-read c = have-read

pub returns-clause-one_cause : goal.returns-clause-one_cause
returns-clause-one_cause c = one-have-cause

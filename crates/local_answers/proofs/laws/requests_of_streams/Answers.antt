use Rattle.local_answers.proofs.PartFacts.{all_joined, all_one}
use Rattle.local_answers.proofs.laws.requests_of_streams.Goals as goal

pub returns-clause-joined : goal.returns-clause-joined
returns-clause-joined c = all_joined

pub returns-clause-one : goal.returns-clause-one
returns-clause-one c = all_one

use Rattle.wait_index.proofs.WorkFacts.{work-near, work-unopened, work-one}
use Rattle.wait_index.proofs.laws.work_of_a_close.Goals as goal

pub returns-clause-near : goal.returns-clause-near
returns-clause-near c old new labels work is reach h = work-near old new labels work is reach h

pub returns-clause-unopened : goal.returns-clause-unopened
returns-clause-unopened c = work-unopened

pub returns-clause-one : goal.returns-clause-one
returns-clause-one c = work-one

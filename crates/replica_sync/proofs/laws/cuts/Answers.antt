use Rattle.replica_sync.proofs.CutFacts.{lines_of-ended, lines_of-kept}
use Rattle.replica_sync.proofs.laws.cuts.Goals as goal

pub returns-clause-ends : goal.returns-clause-ends
returns-clause-ends c = lines_of-ended

pub returns-clause-rests : goal.returns-clause-rests
returns-clause-rests c = lines_of-kept

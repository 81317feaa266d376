use Rattle.replica_sync.proofs.WorldFacts.{cut-in-world, pull-in-world}
use Rattle.replica_sync.proofs.laws.world_of_sessions.Goals as goal

pub returns-clause-whole : goal.returns-clause-whole
returns-clause-whole c = pull-in-world

pub returns-clause-cut : goal.returns-clause-cut
returns-clause-cut c = cut-in-world

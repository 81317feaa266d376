use Rattle.replica_core.proofs.WorldJoins.{joins}
use Rattle.replica_core.proofs.WorldLawFacts.{grows, restarts-saved, saved-last, never-saved}
use Rattle.replica_core.proofs.laws.persistence.Goals as goal

pub returns-clause-grows : goal.returns-clause-grows
returns-clause-grows c = grows joins

pub returns-clause-restarts : goal.returns-clause-restarts
returns-clause-restarts c = restarts-saved

pub returns-clause-saves : goal.returns-clause-saves
returns-clause-saves c = saved-last

pub returns-clause-never_saved : goal.returns-clause-never_saved
returns-clause-never_saved c = never-saved

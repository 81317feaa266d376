use Rattle.replica_core.proofs.EffectFacts.{takes-held, revokes-held, absorbs-held, parts-held, joins-held}
use Rattle.replica_core.proofs.laws.effects.Goals as goal

pub returns-clause-takes : goal.returns-clause-takes
returns-clause-takes c = takes-held

pub returns-clause-revokes : goal.returns-clause-revokes
returns-clause-revokes c = revokes-held

pub returns-clause-absorbs : goal.returns-clause-absorbs
returns-clause-absorbs c = absorbs-held

pub returns-clause-parts : goal.returns-clause-parts
returns-clause-parts c = parts-held

pub returns-clause-joins : goal.returns-clause-joins
returns-clause-joins c = joins-held

use Rattle.side_by_side.proofs.PairWorldFacts.{each_side, side_events}
use Rattle.side_by_side.proofs.laws.pair_worlds.Goals as goal

pub returns-clause-each : goal.returns-clause-each
returns-clause-each c = each_side

pub returns-clause-events : goal.returns-clause-events
returns-clause-events c = side_events c.provenance.ensures.comes

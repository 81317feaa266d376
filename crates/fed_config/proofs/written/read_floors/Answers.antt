use Rattle.std.proofs.Common.{sym, subst}
use Rattle.fed_config.specs.Inside.Entries.{AreFloors}
use Rattle.fed_config.proofs.FloorFacts.{are_none}
use Rattle.fed_config.proofs.written.read_floors.Goals as goal

pub returns-then-has_count-clause-form : goal.returns-then-has_count-clause-form
returns-then-has_count-clause-form c = subst AreFloors (sym c.new.ensures.items) are_none

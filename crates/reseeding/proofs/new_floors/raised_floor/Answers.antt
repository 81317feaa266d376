use Rattle.std.proofs.Common.{rules, option_copied}
use Rattle.reseeding.proofs.FloorFacts.{raised_some, raised_none}
use Rattle.reseeding.proofs.new_floors.raised_floor.Goals as goal

pub returns-in-Some : goal.returns-in-Some
returns-in-Some g c =
    raised_some _ _ (option_copied c.current.result) c.in-Some.document.now _ (search rules) c.current.ensures c.rank.ensures

pub returns-in-None : goal.returns-in-None
returns-in-None g c =
    raised_none _ _ (option_copied c.current.result) c.config.result.now _ (search rules) c.current.ensures c.config.ensures.config
    c.floor.ensures

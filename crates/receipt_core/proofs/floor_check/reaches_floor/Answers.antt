use Rattle.receipt_core.proofs.FloorFacts.{no_floor, floor_stated}
use Rattle.receipt_core.proofs.floor_check.reaches_floor.Goals as goal

pub returns-in-Some : goal.returns-in-Some
returns-in-Some c =
    floor_stated c.args.config.now c.args.domain.now c.args.document.now c.in-Some.floor c.reaches.result c.in-Some.ensures c.reaches.ensures

pub returns-in-None : goal.returns-in-None
returns-in-None c = no_floor c.args.config.now c.args.domain.now c.args.document.now c.in-None.ensures

use Rattle.reseeding.proofs.StayFacts.{stays_lent}
use Rattle.reseeding.proofs.staying.is_staying.Goals as goal

pub returns : goal.returns
returns g c =
    stays_lent (g.C.Closure.state c.args.closure.now).meaning c.args.receipt.now c.domain.result.now c.document.result.now
    c.raised_floor.result c.reaches.result c.domain.ensures.domain c.document.ensures c.raised_floor.ensures c.reaches.ensures

use Rattle.std.proofs.Common.{take}
use Rattle.replica_view.specs.Inside.Offered.{AreOffersFrom}
use Rattle.replica_view.proofs.offered.list_offers.Given as goal

abbrev pub invariant-loop-domain : goal.invariant-loop-domain
invariant-loop-domain g l = AreOffersFrom (g.C.Closure.state l.closure).meaning (take l.domain-index l.domain-items) l.offers.items

use Rattle.std.proofs.lemmas.Result.{IfOk-weaker}
use Rattle.std.specs.BTreeSet.{IsFromIterResult}
use Rattle.receipt_core.specs.Receipt.{triple_cmp}
use Rattle.replica_view.specs.Inside.Offered.{IsOfferSet}
use Rattle.replica_view.proofs.OfferFacts.{offers_set}
use Rattle.replica_view.proofs.offered.offer_set.Goals as goal

pub returns : goal.returns
returns g c =
    let m = (g.C.Closure.state c.args.closure.now).meaning in
    IfOk-weaker c.set_of.result (IsFromIterResult triple_cmp c.in_ok-offers.offers.items) (IsOfferSet m)
    (λ set made. offers_set m c.in_ok-offers.offers.items set c.in_ok-offers.ensures made) c.set_of.ensures

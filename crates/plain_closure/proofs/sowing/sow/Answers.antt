-- One more document has its number and its offers.
use Rattle.std.proofs.Common.{◌++◌, ◌∷◌, [], List, length, ap, sym, subst}
use Rattle.receipt_core.specs.Receipt.{Receipt}
use Rattle.receipt_core.specs.Acceptance.{pair_of_seed}
use Rattle.closure_core.specs.Inside.Nodes.{pairs_of}
use Rattle.closure_parts.specs.Pairs.{IsDocumentTable}
use Rattle.closure_parts.proofs.PairFacts.{pairing-counts}
use Rattle.plain_closure.proofs.SownFacts.{sown-more}
use Rattle.plain_closure.proofs.sowing.sow.Goals as goal

pub add-requires-clause-pairing : goal.add-requires-clause-pairing
add-requires-clause-pairing c =
    subst (λ (rs : List Receipt). IsDocumentTable (pairs_of c.args.earlier.now rs) c.try_reserve.new.self) (sym c.arrived.ensures)
    (pairing-counts (pairs_of c.args.earlier.now c.args.held.now.arrived) c.args.pairs.now
    c.try_reserve.new.self c.requires.sown.pairing c.try_reserve.ensures.numbers
    c.try_reserve.ensures.heads (ap (λ fs. length fs) c.try_reserve.ensures.counts))

pub returns : goal.returns
returns c =
    let h = c.args.held.now in
    sown-more h c.args.earlier.now c.args.seed.now c.args.pairs.now c.try_reserve.new.self c.add.new.self
    c.args.seed_offers.now.items c.in_ok-offers.offers.items c.append.new.self.items c.add.ensures.heads.0
    c.requires.arrived c.requires.sown
    (subst (λ (rs : List Receipt). IsDocumentTable (pairs_of c.args.earlier.now rs ++ pair_of_seed c.args.seed.now ∷ [])
    c.add.new.self) c.arrived.ensures c.add.ensures.pairing)
    c.try_reserve.ensures.counts c.try_reserve.ensures.heads c.add.ensures.counts
    c.add.ensures.heads.1 c.in_ok-try_reserve.ensures.ok c.add.ensures.capacity
    c.in_ok-offers.ensures c.in_ok-append.ensures.items

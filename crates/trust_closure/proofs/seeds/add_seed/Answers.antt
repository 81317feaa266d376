-- A node is added; it is marked, and then it offers.
use Rattle.std.proofs.Common.{◌++◌, ◌∷◌, [], List, length, ap, sym, subst, ◌∙◌}
use Rattle.std.specs.List.{All}
use Rattle.fed_config.specs.Configuration.{HasDomain}
use Rattle.receipt_core.specs.declared.triple.Triple.{Triple}
use Rattle.receipt_core.specs.Receipt.{Receipt}
use Rattle.receipt_core.specs.Acceptance.{pair_of_seed}
use Rattle.closure_core.specs.Inside.Nodes.{pairs_of}
use Rattle.closure_parts.specs.Pairs.{IsDocumentTable}
use Rattle.trust_closure.proofs.LabelIndexFacts.{offers-domain}
use Rattle.closure_parts.proofs.PairFacts.{pairing-counts}
use Rattle.trust_closure.proofs.IndexFacts.{wired-seed, seeded-more}
use Rattle.trust_closure.proofs.seeds.add_seed.Goals as goal

pub add-requires-clause-pairing : goal.add-requires-clause-pairing
add-requires-clause-pairing c =
    subst (λ (rs : List Receipt). IsDocumentTable (pairs_of c.args.earlier.now rs) c.try_reserve.new.self) (sym c.arrived.ensures)
    (pairing-counts (pairs_of c.args.earlier.now c.args.held.now.arrived) c.args.pairs.now
    c.try_reserve.new.self c.requires.seeded.pairing c.try_reserve.ensures.numbers
    c.try_reserve.ensures.heads (ap length c.try_reserve.ensures.counts))

pub offer_triples-requires-clause-domains : goal.offer_triples-requires-clause-domains
offer_triples-requires-clause-domains c =
    subst (All (λ (t : Triple). HasDomain c.args.held.now.config t.domain)) (sym (c.as_slice.ensures.value ∙ c.in_ok-offers.ensures))
    (offers-domain (HasDomain c.args.held.now.config) (pair_of_seed c.args.seed.now) c.requires.domain)

pub returns : goal.returns
returns c =
    let h = c.args.held.now in
    let pairing =
    subst (λ (rs : List Receipt). IsDocumentTable (pairs_of c.args.earlier.now rs ++ pair_of_seed c.args.seed.now ∷ [])
    c.add.new.self) c.arrived.ensures c.add.ensures.pairing in
    seeded-more h c.args.earlier.now c.args.seed.now c.args.pairs.now c.try_reserve.new.self c.add.new.self
    c.args.label_index.now c.offer_triples.new.label_index c.add.ensures.heads.0 c.requires.arrived c.requires.seeded
    pairing c.try_reserve.ensures.counts c.try_reserve.ensures.heads c.add.ensures.counts
    c.add.ensures.heads.1 c.in_ok-try_reserve.ensures.ok c.add.ensures.capacity
    (wired-seed h c.args.earlier.now c.args.seed.now c.args.label_index.now c.try_reserve-2.new.self c.add_node-node.new.self
    c.mark.new.self c.offer_triples.new.label_index c.add_node-node.result c.as_slice.result.now
    c.requires.seeded.wired c.try_reserve-2.ensures.roomier c.add_node-node.ensures.node c.mark.ensures.rooted
    (c.as_slice.ensures.value ∙ c.in_ok-offers.ensures) c.offer_triples.ensures.wired)
    c.offer_triples.ensures.reached

-- A node is added; it awaits, and then it offers.
use Rattle.std.proofs.Common.{◌≡◌, ◌++◌, ◌∷◌, [], List, length, take, false, Some, arith, refl, sym, ap, ◌∙◌, subst}
use Rattle.std.specs.List.{All}
use Rattle.std.proofs.lemmas.List.{length_push, take_all}
use Rattle.fed_config.specs.Configuration.{HasDomain}
use Rattle.receipt_core.specs.declared.triple.Triple.{Triple}
use Rattle.receipt_core.specs.Receipt.{pair_of, offers_of}
use Rattle.trust_closure.specs.Inside.NodeSpecs.{NodeSpec, bare_node}
use Rattle.trust_closure.specs.Inside.NetOf.{IsLabelIndexOf, receipt_node}
use Rattle.trust_closure.proofs.LabelIndexFacts.{label_index-node, node-number, fitting-domain, fitting-endpoint, offers-domain, front-trans}
use Rattle.trust_closure.proofs.wire.add_receipt.Goals as goal

pub await_triple-requires-clause-domain : goal.await_triple-requires-clause-domain
await_triple-requires-clause-domain c =
    subst (λ (t : Triple). HasDomain c.args.held.now.config t.domain) (sym c.need.ensures)
    (fitting-endpoint c.args.held.now.config c.args.receipt.now c.requires.fits)

pub await_triple-requires-clause-node : goal.await_triple-requires-clause-node
await_triple-requires-clause-node c =
    omega (
      arith,
      c.add_node-node.ensures.node.number,
      ap (λ n. length n.roots) c.add_node-node.ensures.node.net,
      length_push c.args.label_index.now.net.roots false,
    )

pub offer_triples-requires-clause-domains : goal.offer_triples-requires-clause-domains
offer_triples-requires-clause-domains c =
    subst (All (λ (t : Triple). HasDomain c.args.held.now.config t.domain)) (sym c.offers.ensures)
    (offers-domain (HasDomain c.args.held.now.config) (pair_of c.args.receipt.now) (fitting-domain c.args.held.now.config c.args.receipt.now c.requires.fits))

pub offer_triples-requires-clause-room : goal.offer_triples-requires-clause-room
offer_triples-requires-clause-room c =
    omega (arith, c.requires.edges, ap length c.offers.ensures, c.await_triple.ensures.widens.room, c.add_node-node.ensures.node.edges)

pub offer_triples-requires-clause-node : goal.offer_triples-requires-clause-node
offer_triples-requires-clause-node c =
    omega (
      arith,
      c.await_triple.ensures.widens.roots,
      c.add_node-node.ensures.node.number,
      ap (λ n. length n.roots) c.add_node-node.ensures.node.net,
      length_push c.args.label_index.now.net.roots false,
    )

pub returns-clause-wired : goal.returns-clause-wired
returns-clause-wired c domains spots d h =
    let at : c.add_node-node.result ≡ length spots =
    c.add_node-node.ensures.node.number ∙ node-number domains c.args.held.now.records spots c.args.label_index.now h in
    let node = label_index-node domains d.rising c.args.held.now.records spots c.args.label_index.now c.add_node-node.new.self
    c.add_node-node.result h c.add_node-node.ensures.node in
    let waits = c.await_triple.ensures.wired domains spots bare_node d at refl node in
    let offers = c.offer_triples.ensures.wired domains spots (record { rooted = false; offers = []; awaits = Some c.need.result.now }) d at waits in
    let same : record { rooted = false; offers = [] ++ c.offers.result.now; awaits = Some c.need.result.now } ≡ receipt_node c.args.receipt.now =
    ap (λ (os : List Triple). let s : NodeSpec Triple = record { rooted = false; offers = os; awaits = Some c.need.result.now } in s) c.offers.ensures
    ∙ ap (λ (t : Triple). let s : NodeSpec Triple = record { rooted = false; offers = offers_of (pair_of c.args.receipt.now); awaits = Some t } in
    s) c.need.ensures
    in
    subst (λ (s : NodeSpec Triple). IsLabelIndexOf domains c.args.held.now.records (spots ++ s ∷ []) c.offer_triples.new.label_index) same offers

pub returns-clause-front : goal.returns-clause-front
returns-clause-front c =
    let first : take (length c.args.label_index.now.marked) c.add_node-node.new.self.marked ≡ c.args.label_index.now.marked =
    ap (take (length c.args.label_index.now.marked)) c.add_node-node.ensures.node.marked
    ∙ take_all (length c.args.label_index.now.marked) c.args.label_index.now.marked (omega arith)
    in
    front-trans c.args.label_index.now.marked c.add_node-node.new.self.marked c.offer_triples.new.label_index.marked first
    (front-trans c.add_node-node.new.self.marked c.await_triple.new.label_index.marked c.offer_triples.new.label_index.marked
    c.await_triple.ensures.widens.front c.offer_triples.ensures.widens.front)

pub returns-clause-nodes : goal.returns-clause-nodes
returns-clause-nodes c = omega (arith, c.add_node-node.ensures.node.nodes, c.await_triple.ensures.widens.nodes, c.offer_triples.ensures.widens.nodes)

pub returns-clause-edges : goal.returns-clause-edges
returns-clause-edges c =
    omega (arith, c.add_node-node.ensures.node.edges, c.await_triple.ensures.widens.room, c.offer_triples.ensures.widens.room, ap length c.offers.ensures)

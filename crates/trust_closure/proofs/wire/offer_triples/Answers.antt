-- Triples are offered one after another.
use Rattle.std.proofs.Common.{◌++◌, take, arith, subst, sym}
use Rattle.fed_config.specs.Configuration.{HasDomain}
use Rattle.receipt_core.specs.declared.triple.Triple.{Triple}
use Rattle.trust_closure.proofs.LabelIndexFacts.{offers-none, offers-more, offers-all, Widens-none, Widens-more}
use Rattle.trust_closure.proofs.wire.offer_triples.Goals as goal

pub offer_triple-requires-clause-domain : goal.offer_triple-requires-clause-domain
offer_triple-requires-clause-domain c =
    subst (λ (t : Triple). HasDomain c.args.held.now.config t.domain) (sym c.triple-item.is)
    (c.requires.domains c.loop-triple.triple-index c.triple-item.result (omega arith))

pub offer_triple-requires-clause-room : goal.offer_triple-requires-clause-room
offer_triple-requires-clause-room c = omega (arith, c.requires.room, c.loop-triple.invariant.widens.room)

pub offer_triple-requires-clause-node : goal.offer_triple-requires-clause-node
offer_triple-requires-clause-node c = omega (arith, c.requires.node, c.loop-triple.invariant.widens.roots)

pub loop-triple-init : goal.loop-triple-init
loop-triple-init c = record {
  wired = λ domains spots spot d at h. offers-none domains c.args.held.now.records spots spot c.args.triples.now c.args.label_index.now h;
  widens = Widens-none c.args.label_index.now;
  reached = c.requires.reached;
}

pub loop-triple-preserved : goal.loop-triple-preserved
loop-triple-preserved c = record {
  wired = λ domains spots spot d at h.
      offers-more domains c.args.held.now.records spots spot c.args.triples.now c.offer_triple.new.label_index
      c.loop-triple.triple-index c.triple-item.result (omega arith) c.triple-item.is
      (c.offer_triple.ensures.wired domains spots
      (record spot { offers = spot.offers ++ take c.loop-triple.triple-index c.args.triples.now }) d at
      (c.loop-triple.invariant.wired domains spots spot d at h));
  widens = Widens-more c.loop-triple.triple-index 1 c.args.label_index.now c.loop-triple.label_index c.offer_triple.new.label_index
      c.loop-triple.invariant.widens c.offer_triple.ensures.widens;
  reached = c.offer_triple.ensures.reached;
}

pub returns-clause-wired : goal.returns-clause-wired
returns-clause-wired c domains spots spot d at h =
    offers-all domains c.args.held.now.records spots spot c.args.triples.now c.loop-triple.label_index
    c.loop-triple.triple-index (omega arith) (c.loop-triple.invariant.wired domains spots spot d at h)

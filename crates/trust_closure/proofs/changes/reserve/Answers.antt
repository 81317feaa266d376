-- If a growth is refused, the room is as it was.
use Rattle.std.proofs.Common.{refl, arith}
use Rattle.trust_closure.proofs.IndexFacts.{reserves-pairs, reserves-kept, reserves-from}
use Rattle.trust_closure.proofs.changes.reserve.Goals as goal

pub returns-in_err-try_reserve-clause-reserves : goal.returns-in_err-try_reserve-clause-reserves
returns-in_err-try_reserve-clause-reserves c =
    reserves-pairs c.args.held.now c.args.held.now c.args.pairs.now c.try_reserve.new.self c.args.label_index.now
    c.args.spare.now c.requires refl (omega arith) c.try_reserve.ensures.numbers c.try_reserve.ensures.heads
    c.try_reserve.ensures.counts c.try_reserve.ensures.capacity

pub returns-in_err-try_reserve-2-clause-reserves : goal.returns-in_err-try_reserve-2-clause-reserves
returns-in_err-try_reserve-2-clause-reserves c =
    reserves-pairs c.args.held.now c.try_reserve-2.new.self c.args.pairs.now c.try_reserve.new.self c.args.label_index.now
    c.args.spare.now c.requires c.try_reserve-2.ensures.same c.try_reserve-2.ensures.capacity
    c.try_reserve.ensures.numbers c.try_reserve.ensures.heads c.try_reserve.ensures.counts
    c.try_reserve.ensures.capacity

pub returns-in_err-try_reserve-3-clause-reserves : goal.returns-in_err-try_reserve-3-clause-reserves
returns-in_err-try_reserve-3-clause-reserves c =
    reserves-kept c.args.held.now c.try_reserve-2.new.self c.args.pairs.now c.try_reserve.new.self c.args.label_index.now
    c.try_reserve-3.new.self c.args.spare.now c.requires c.try_reserve-2.ensures.same c.try_reserve-2.ensures.capacity
    c.try_reserve.ensures.numbers c.try_reserve.ensures.heads c.try_reserve.ensures.counts
    c.try_reserve.ensures.capacity c.try_reserve-3.ensures.roomier

pub returns-clause-reserves : goal.returns-clause-reserves
returns-clause-reserves c =
    reserves-from c.args.held.now c.try_reserve-2.new.self c.args.pairs.now c.try_reserve.new.self c.args.label_index.now
    c.try_reserve-3.new.self c.args.spare.now
    (record { receipts = c.max-receipts.result; offers = c.max-offers.result }) c.requires
    c.try_reserve-2.ensures.same
    c.try_reserve.ensures.numbers c.try_reserve.ensures.heads c.try_reserve.ensures.counts
    c.try_reserve-3.ensures.roomier
    (record {
      held = c.in_ok-try_reserve-2.ensures.ok;
      pairs = c.in_ok-try_reserve.ensures.ok;
      nodes = c.in_ok-try_reserve-3.ensures.nodes;
      edges = grind (arith, c.in_ok-try_reserve-3.ensures.edges, c.in_ok-try_reserve-3.ensures.few, c.saturating_add.ensures);
      few = c.in_ok-try_reserve.ensures.few;
    })
    (omega (arith, c.max-receipts.ensures)) (omega (arith, c.max-offers.ensures))

use Rattle.std.proofs.Common.{arith, ◌∙◌}
use Rattle.closure_core.specs.Inside.Nodes.{flags_of, pairs_of}
use Rattle.closure_core.proofs.NodeFacts.{next_kept, next_skips, zero-lowered}
use Rattle.closure_core.proofs.lending.Accepted.next_with_id.Goals as goal

pub invariant_of-self : goal.invariant_of-self
invariant_of-self c =
    next_kept (pairs_of c.loop-number.self-inside.seeds.now c.loop-number.self-inside.receipts.now)
    (flags_of c.loop-number.self-inside.counts.now) c.loop-number.self-inside.numbers
    c.next.new.self c.in-Some.number c.loop-number.invariant.0 c.in-Some.ensures.steps

pub loop-number-preserved : goal.loop-number-preserved
loop-number-preserved c = (
  next_kept (pairs_of c.loop-number.self-inside.seeds.now c.loop-number.self-inside.receipts.now)
      (flags_of c.loop-number.self-inside.counts.now) c.loop-number.self-inside.numbers
      c.next.new.self c.in-Some.number c.loop-number.invariant.0 c.in-Some.ensures.steps,
  next_skips (pairs_of c.loop-number.self-inside.seeds.now c.loop-number.self-inside.receipts.now)
      (flags_of c.loop-number.self-inside.counts.now) c.loop-number.self-inside.numbers
      c.next.new.self c.in-Some.number c.in-Some.ensures.steps
      (zero-lowered c.loop-number.self-inside.counts.now c.in-Some.number
      (omega (arith, c.if-self-number-ne0.false))) ∙ c.loop-number.invariant.1,
)

use Rattle.std.proofs.Common.{◌≡◌, ◌∙◌, ap, sym, map, true, false, arith, length, ◌∷◌, ◌<◌}
use Rattle.replica_core.specs.Lacking.{not_named}
use Rattle.replica_core.proofs.HaveFacts.{bytes_of}
use Rattle.replica_core.proofs.LentGiveFacts.{reports-named, named-skipped, unnamed-given}
use Rattle.replica_core.proofs.lent_answer.LackingIterator.next.Goals as goal

pub returns-then-not-is_named-clause-steps : goal.returns-then-not-is_named-clause-steps
returns-then-not-is_named-clause-steps c =
    let ids = map bytes_of c.loop-receipt.self-inside.ids.now in
    let named = reports-named ids c.in-Some.receipt.now c.id.result.0 c.is_named.result c.id.ensures c.is_named.ensures in
    let unnamed : c.is_named.result ≡ false = c.if-not-is_named.true in
    sym c.self.view_is ∙ sym c.loop-receipt.invariant.1
    ∙ unnamed-given ids c.in-Some.receipt.now c.loop-receipt.self-inside.receipts c.next.new.self c.in-Some.ensures.steps (named ∙ unnamed)

pub returns-then-not-is_named-clause-goes : goal.returns-then-not-is_named-clause-goes
returns-then-not-is_named-clause-goes c =
    let ids = map bytes_of c.loop-receipt.self-inside.ids.now in
    let named = reports-named ids c.in-Some.receipt.now c.id.result.0 c.is_named.result c.id.ensures c.is_named.ensures in
    let unnamed : c.is_named.result ≡ false = c.if-not-is_named.true in
    let same : c.args.self.now ≡ c.in-Some.receipt.now ∷ not_named ids c.next.new.self =
    sym c.self.view_is ∙ sym c.loop-receipt.invariant.1
    ∙ unnamed-given ids c.in-Some.receipt.now c.loop-receipt.self-inside.receipts c.next.new.self c.in-Some.ensures.steps (named ∙ unnamed) in
    let fewer : length (not_named ids c.next.new.self) < length c.args.self.now = omega (arith, ap length same) in
    record { on = λ f. (tt, tt, fewer); keeps = tt; rests = λ f. tt }

pub loop-receipt-preserved : goal.loop-receipt-preserved
loop-receipt-preserved c =
    let ids = map bytes_of c.loop-receipt.self-inside.ids.now in
    let named = reports-named ids c.in-Some.receipt.now c.id.result.0 c.is_named.result c.id.ensures c.is_named.ensures in
    let is : c.is_named.result ≡ true = c.if-not-is_named.false in (
      c.loop-receipt.invariant.0,
      named-skipped ids c.in-Some.receipt.now c.loop-receipt.self-inside.receipts c.next.new.self
          c.in-Some.ensures.steps (named ∙ is) ∙ c.loop-receipt.invariant.1,
    )

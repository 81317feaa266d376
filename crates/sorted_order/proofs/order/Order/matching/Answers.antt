use Rattle.std.proofs.Common.{◌∙◌, ℕ, sym}
use Rattle.sorted_order.specs.Sought.{IsGap}
use Rattle.sorted_order.specs.Inside.Seeking.{past}
use Rattle.sorted_order.proofs.SearchFacts.{past_rises, matching_is}
use Rattle.sorted_order.proofs.order.Order.matching.Goals as goal

pub before-end-requires-clause-rising : goal.before-end-requires-clause-rising
before-end-requires-clause-rising g c =
    rw c.new.ensures (past_rises (g.P.Probe.compared c.args.probe.now) c.args.self.now.items c.requires.rising)

pub returns : goal.returns
returns g c =
    let compared = g.P.Probe.compared c.args.probe.now in
    let end : IsGap (λ (n : ℕ). past (compared n)) c.args.self.now.items c.before-end.result = rw c.new.ensures at c.before-end.ensures in
    c.range.ensures ∙ sym (matching_is compared c.args.self.now.items c.before-first.result c.before-end.result c.before-first.ensures end)

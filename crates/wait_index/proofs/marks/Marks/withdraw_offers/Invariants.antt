use Rattle.std.proofs.Common.{◌≡◌}
use Rattle.wait_index.specs.Inside.Tally.{net_of, tally_of, marks_capacity}
use Rattle.wait_index.proofs.WithdrawalFacts.{WithdrawsFrom}
use Rattle.wait_index.proofs.marks.Marks.withdraw_offers.Given as goal

abbrev pub invariant-offers : goal.invariant-offers
invariant-offers l = WithdrawsFrom (net_of l.graph) l.node l.link (tally_of l.initial.self) (tally_of l.self)
    × (marks_capacity l.self ≡ marks_capacity l.initial.self)

abbrev pub decreases-offers : goal.decreases-offers
decreases-offers l = l.link

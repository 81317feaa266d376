use Rattle.std.proofs.Common.{take}
use Rattle.std.specs.List.{AllZip}
use Rattle.poll_view.specs.NextPolls.{IsDomainPoll}
use Rattle.poll_view.proofs.domain_polls.next_polls.Given as goal

abbrev pub invariant-loop-relationship : goal.invariant-loop-relationship
invariant-loop-relationship g l =
    AllZip (λ r p. IsDomainPoll (record { meaning = (g.C.Closure.state l.closure).meaning; log = l.log; now = l.now.nanosecond }) r.domain p)
    (take l.relationship-index l.relationship-items) l.polls.items

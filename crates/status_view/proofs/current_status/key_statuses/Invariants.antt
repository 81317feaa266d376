use Rattle.std.proofs.Common.{◌≡◌, ◌++◌, drop, map}
use Rattle.receipt_core.specs.declared.triple.Triple.{Triple}
use Rattle.status_view.specs.Status.{key_status}
use Rattle.status_view.proofs.current_status.key_statuses.Given as goal

abbrev pub invariant-loop-offer : goal.invariant-loop-offer
invariant-loop-offer g l =
    l.keys.items ++ map (λ (t : Triple). key_status (g.C.Closure.state l.closure).meaning.records l.domain t.key) (drop l.offer-index l.offer-items)
    ≡ map (λ (t : Triple). key_status (g.C.Closure.state l.closure).meaning.records l.domain t.key) l.offer-items

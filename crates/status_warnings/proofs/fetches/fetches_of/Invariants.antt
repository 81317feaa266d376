-- There is a fetch of each relationship so far.
use Rattle.std.proofs.Common.{take}
use Rattle.std.specs.List.{AllZip}
use Rattle.status_warnings.specs.Fetches.{IsFetch}
use Rattle.status_warnings.proofs.fetches.fetches_of.Given as goal

abbrev pub invariant-loop-relationship : goal.invariant-loop-relationship
invariant-loop-relationship g l =
    AllZip (λ r f. IsFetch (g.C.Closure.state l.closure).meaning l.log r.domain f) (take l.relationship-index l.relationship-items) l.fetches.items

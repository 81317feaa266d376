use Rattle.std.proofs.Common.{[], drop}
use Rattle.status_warnings.specs.SameKeys.{AreSameKeysIn}
use Rattle.status_warnings.proofs.PartFacts.{IsBegun}
use Rattle.status_warnings.proofs.same_keys.find_same_keys.Given as goal

abbrev pub invariant-loop-domain : goal.invariant-loop-domain
invariant-loop-domain g l =
    IsBegun (AreSameKeysIn (g.C.Closure.state l.closure).meaning) l.domain-items (drop l.domain-index l.domain-items) [] l.found.items

use Rattle.std.proofs.Common.{take}
use Rattle.key_view.specs.Inside.KeysSoFar.{AreKeysOf}
use Rattle.key_view.proofs.key_listing.domain_keys.Given as goal

abbrev pub invariant-loop-domain : goal.invariant-loop-domain
invariant-loop-domain g l =
    AreKeysOf (g.C.Closure.state l.closure).meaning (take l.domain-index l.domain-items) l.all.items

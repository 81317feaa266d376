use Rattle.std.proofs.Common.{◌≡◌, drop}
use Rattle.key_view.specs.KnownKeys.{with_authorities}
use Rattle.key_view.specs.Inside.MetIds.{HasIds}
use Rattle.key_view.proofs.met_keys.push_authorities.Given as goal

abbrev pub invariant-loop-authority : goal.invariant-loop-authority
invariant-loop-authority l =
    (with_authorities l.met.keys.items (drop l.authority-index l.authorities) ≡ with_authorities l.fn.met.keys.items l.authorities)
    × HasIds l.met

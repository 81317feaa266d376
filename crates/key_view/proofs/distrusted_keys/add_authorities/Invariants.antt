use Rattle.std.proofs.Common.{List, drop}
use Rattle.key_view.specs.declared.met_keys.KnownKey.{KnownKey}
use Rattle.key_view.specs.KnownKeys.{with_authorities}
use Rattle.key_view.specs.Inside.Distrusted.{FindsDistrusted}
use Rattle.key_view.proofs.DistrustedFacts.{LeadsTo}
use Rattle.key_view.proofs.distrusted_keys.add_authorities.Given as goal

abbrev pub invariant-loop-authority : goal.invariant-loop-authority
invariant-loop-authority g l =
    (known : List KnownKey) → FindsDistrusted l.domain (g.C.Closure.state l.closure).meaning.records known l.fn.found
    → LeadsTo l.domain (g.C.Closure.state l.closure).meaning.records with_authorities (drop l.authority-index l.authorities)
    (with_authorities known l.authorities) l.found

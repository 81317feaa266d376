use Rattle.std.proofs.Common.{take}
use Rattle.key_view.specs.Inside.Distrusted.{AreTrustedWith}
use Rattle.key_view.proofs.matching_keys.trusted_with.Given as goal

abbrev pub invariant-loop-one : goal.invariant-loop-one
invariant-loop-one g l =
    AreTrustedWith l.domain (g.C.Closure.state l.closure).meaning.records l.public_keys (take l.one-index l.known) l.ids.items

use Rattle.std.proofs.Common.{take}
use Rattle.key_view.specs.Inside.PublicKeys.{HasPublicKeys}
use Rattle.key_view.proofs.domain_entries.public_keys_of.Given as goal

abbrev pub invariant-loop-entry : goal.invariant-loop-entry
invariant-loop-entry l = HasPublicKeys (take l.entry-index l.entries) l.public_keys

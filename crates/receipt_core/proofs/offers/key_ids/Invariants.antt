use Rattle.std.proofs.Common.{◌≡◌, take}
use Rattle.receipt_core.specs.Receipt.{key_ids}
use Rattle.receipt_core.proofs.offers.key_ids.Given as goal

abbrev pub invariant-loop-authority : goal.invariant-loop-authority
invariant-loop-authority l = l.keys.keys ≡ key_ids (take l.authority-index l.authorities)

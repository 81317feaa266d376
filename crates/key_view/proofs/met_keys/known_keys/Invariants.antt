use Rattle.std.proofs.Common.{◌≡◌}
use Rattle.key_view.specs.KnownKeys.{with_keys_of_receipts}
use Rattle.key_view.specs.Inside.MetIds.{HasIds}
use Rattle.key_view.proofs.met_keys.known_keys.Given as goal

abbrev pub invariant-loop-receipt : goal.invariant-loop-receipt
invariant-loop-receipt g l =
    (with_keys_of_receipts l.domain l.met.keys.items l.receipt-iterator
    ≡ with_keys_of_receipts l.domain l.initial.met.keys.items l.initial.receipt-iterator)
    × HasIds l.met

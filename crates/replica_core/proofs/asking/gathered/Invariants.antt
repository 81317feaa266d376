-- The ids of the receipts so far, with those of the receipts still to come, are all.
use Rattle.std.proofs.Common.{◌≡◌, ◌++◌, map}
use Rattle.receipt_core.specs.Receipt.{receipt_id_of}
use Rattle.replica_core.proofs.asking.gathered.Given as goal

abbrev pub invariant-loop-receipt : goal.invariant-loop-receipt
invariant-loop-receipt g l = map (λ id. id.0) l.ids.items ++ map receipt_id_of l.receipt-iterator ≡ map receipt_id_of l.initial.receipt-iterator

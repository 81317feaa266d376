-- The receipts so far were passed over.
use Rattle.std.proofs.Common.{◌≡◌, drop}
use Rattle.snapshot_pieces.proofs.places.passed_over.Given as goal

abbrev pub invariant-passed : goal.invariant-passed
invariant-passed g l = l.rest ≡ drop l.counter l.initial.rest

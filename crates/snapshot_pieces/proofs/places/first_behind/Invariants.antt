-- None of the receipts so far is behind the last one.
use Rattle.std.proofs.Common.{◌≡◌, Some, length}
use Rattle.std.specs.List.Sorted.{IsStrictlySortedBy}
use Rattle.receipt_core.specs.Receipt.{receipt_cmp}
use Rattle.snapshot_pieces.specs.Pieces.{receipts_after}
use Rattle.snapshot_pieces.proofs.places.first_behind.Given as goal

abbrev pub invariant-receipts : goal.invariant-receipts
invariant-receipts l = record {
  rising : IsStrictlySortedBy receipt_cmp l.rest;
  after : receipts_after (Some l.last) l.rest ≡ receipts_after (Some l.last) l.initial.rest;
}

abbrev pub decreases-receipts : goal.decreases-receipts
decreases-receipts l = length l.rest

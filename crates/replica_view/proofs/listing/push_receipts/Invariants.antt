use Rattle.std.proofs.Common.{option_copied}
use Rattle.replica_view.specs.Inside.ShownForms.{ShowsReceiptIn}
use Rattle.replica_view.specs.HeldTexts.{IsReceiptOfOther}
use Rattle.replica_view.proofs.MadeLineFacts.{LinesSoFar}
use Rattle.replica_view.proofs.listing.push_receipts.Given as goal

abbrev pub invariant-loop-receipt : goal.invariant-loop-receipt
invariant-loop-receipt g l = LinesSoFar (IsReceiptOfOther (option_copied l.chosen)) (ShowsReceiptIn l.form (g.C.Closure.state l.closure).meaning)
    l.initial.receipt-iterator l.receipt-iterator l.initial.lines.items l.lines.items

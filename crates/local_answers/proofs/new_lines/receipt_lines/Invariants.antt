-- The lines so far are those of the receipts so far that are not held.
use Rattle.local_answers.specs.Inside.NewLineSteps.{SiftsReceipts}
use Rattle.local_answers.proofs.new_lines.receipt_lines.Given as goal

abbrev pub invariant-loop-receipt : goal.invariant-loop-receipt
invariant-loop-receipt g l = SiftsReceipts (g.C.Closure.state l.closure).meaning l.initial.receipt-iterator l.receipt-iterator l.text.items l.receipts

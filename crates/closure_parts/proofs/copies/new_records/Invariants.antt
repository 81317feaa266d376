-- The count is that of the records so far that are not held.
use Rattle.closure_parts.proofs.MergeFacts.{IsCounted}
use Rattle.receipt_core.specs.Limits.{most_records}
use Rattle.closure_parts.proofs.copies.new_records.Given as goal

abbrev pub invariant-loop-domain : goal.invariant-loop-domain
invariant-loop-domain l = IsCounted l.held.records l.initial.domain-iterator l.domain-iterator l.count most_records

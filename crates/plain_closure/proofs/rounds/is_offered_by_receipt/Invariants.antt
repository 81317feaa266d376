-- No receipt so far offers it.
use Rattle.plain_closure.specs.Plain.{IsOfferedBelow}
use Rattle.plain_closure.proofs.rounds.is_offered_by_receipt.Given as goal

abbrev pub invariant-loop-place : goal.invariant-loop-place
invariant-loop-place l = IsOfferedBelow l.receipts l.released l.need l.place → ⊥

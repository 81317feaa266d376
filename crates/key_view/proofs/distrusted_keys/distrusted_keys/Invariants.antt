use Rattle.key_view.specs.KnownKeys.{known_keys, with_keys_of_receipts}
use Rattle.key_view.proofs.DistrustedFacts.{LeadsTo}
use Rattle.key_view.proofs.distrusted_keys.distrusted_keys.Given as goal

abbrev pub invariant-loop-receipt : goal.invariant-loop-receipt
invariant-loop-receipt g l =
    LeadsTo l.domain (g.C.Closure.state l.closure).meaning.records (with_keys_of_receipts l.domain) l.receipt-iterator
    (known_keys (g.C.Closure.state l.closure).meaning.held l.domain l.accepted) l.found

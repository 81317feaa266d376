use Rattle.std.proofs.Common.{◌≡◌, length, map}
use Rattle.std.specs.List.Sorted.{IsStrictlySortedBy}
use Rattle.replica_core.specs.State.{id_cmp}
use Rattle.replica_core.specs.Lacking.{not_named}
use Rattle.replica_core.proofs.HaveFacts.{bytes_of}
use Rattle.replica_core.proofs.lent_answer.LackingIterator.next.Given as goal

abbrev pub invariant-loop-receipt : goal.invariant-loop-receipt
invariant-loop-receipt l =
    IsStrictlySortedBy id_cmp (map bytes_of l.self-inside.ids.now)
    × (not_named (map bytes_of l.self-inside.ids.now) l.self-inside.receipts
    ≡ not_named (map bytes_of l.initial.self-inside.ids.now) l.initial.self-inside.receipts)

abbrev pub decreases-loop-receipt : goal.decreases-loop-receipt
decreases-loop-receipt l = length l.self-inside.receipts

use Rattle.std.proofs.Common.{◌≡◌, length}
use Rattle.closure_core.specs.Inside.Nodes.{flags_of, pairs_of, raised_documents, AreNumbers}
use Rattle.closure_core.proofs.lending.Accepted.next_with_id.Given as goal

abbrev pub invariant-loop-number : goal.invariant-loop-number
invariant-loop-number l =
    AreNumbers (pairs_of l.self-inside.seeds.now l.self-inside.receipts.now)
    (flags_of l.self-inside.counts.now) l.self-inside.numbers
    × (raised_documents (pairs_of l.self-inside.seeds.now l.self-inside.receipts.now)
    (flags_of l.self-inside.counts.now) l.self-inside.numbers
    ≡ raised_documents (pairs_of l.initial.self-inside.seeds.now l.initial.self-inside.receipts.now)
    (flags_of l.initial.self-inside.counts.now) l.initial.self-inside.numbers)

abbrev pub decreases-loop-number : goal.decreases-loop-number
decreases-loop-number l = length l.self-inside.numbers

use Rattle.std.proofs.Common.{◌≡◌}
use Rattle.closure_core.specs.Inside.Nodes.{flags_of, pairs_of, raised_documents, AreNumbers}
use Rattle.closure_core.proofs.lending.Accepted.into_last.Given as goal

abbrev pub invariant-loop-number : goal.invariant-loop-number
invariant-loop-number l =
    AreNumbers (pairs_of l.self-inside.seeds.now l.self-inside.receipts.now)
    (flags_of l.self-inside.counts.now) l.numbers
    × (raised_documents (pairs_of l.self-inside.seeds.now l.self-inside.receipts.now)
    (flags_of l.self-inside.counts.now) l.numbers ≡ l.fn.self)

-- If a count was 0, one more is above 0.
use Rattle.std.proofs.Common.{◌≡◌, ℕ, ◌+◌, List, set, get_or, arith}
use Rattle.std.proofs.lemmas.List.{get_or-set_same}
use Rattle.closure_core.specs.Inside.Nodes.{count_at}
use Rattle.closure_parts.proofs.NodeCountFacts.{count-stays, count-rises}
use Rattle.closure_parts.proofs.document_counts.raise.Goals as goal

pub returns-then-counts-number-gt1-clause-count : goal.returns-then-counts-number-gt1-clause-count
returns-then-counts-number-gt1-clause-count c =
    let counts : List ℕ = c.args.counts.now in
    let number : ℕ = c.args.number in
    let value : ℕ = count_at counts number + 1 in
    let at : get_or (set counts number value) number 0 ≡ value = get_or-set_same counts number value
    0 c.requires.number in
    omega (
      arith,
      count-stays counts number value c.requires.number
          (omega (arith, at, c.if-counts-number-gt1.true)) (omega arith),
    )

pub returns-clause-count : goal.returns-clause-count
returns-clause-count c =
    let counts : List ℕ = c.args.counts.now in
    let number : ℕ = c.args.number in
    let value : ℕ = count_at counts number + 1 in
    let at : get_or (set counts number value) number 0 ≡ value = get_or-set_same counts number value
    0 c.requires.number in
    count-rises counts number value c.requires.number
    (omega (arith, at, c.if-counts-number-gt1.false)) (omega arith)

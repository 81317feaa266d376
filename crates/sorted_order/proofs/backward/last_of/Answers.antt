use Rattle.std.proofs.Common.{◌∙◌, sym, arith}
use Rattle.sorted_order.proofs.BackwardFacts.{to_last, half_others}
use Rattle.sorted_order.proofs.backward.last_of.Goals as goal

pub returns-in-Some-clause-numbers : goal.returns-in-Some-clause-numbers
returns-in-Some-clause-numbers c =
    to_last c.args.first.now c.args.last.now c.args.blocks.now c.in-Some.others.now c.in-Some.block.now c.as_slice.result.now
    (sym c.is_empty.ensures ∙ c.if-not-is_empty.false) c.in-Some.ensures.cases.0 c.as_slice.ensures

pub returns-in-Some-clause-filled : goal.returns-in-Some-clause-filled
returns-in-Some-clause-filled c =
    (half_others c.args.blocks.now c.in-Some.others.now c.in-Some.block.now c.as_slice.result.now
    c.in-Some.ensures.cases.0 c.as_slice.ensures c.requires.filled).0

pub returns-in-Some-clause-some : goal.returns-in-Some-clause-some
returns-in-Some-clause-some c = λ none.
    let some = half_others c.args.blocks.now c.in-Some.others.now c.in-Some.block.now c.as_slice.result.now
    c.in-Some.ensures.cases.0 c.as_slice.ensures c.requires.filled in
    absurd (omega (arith, some.1, none))

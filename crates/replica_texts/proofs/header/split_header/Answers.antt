use Rattle.replica_texts.proofs.HeaderFacts.{has_first, long_rest, after_second, after_third, split_whole}
use Rattle.std.proofs.Common.{List, ℕ, ◌∙◌, sym, subst}
use Rattle.replica_texts.specs.Inside.Reading.{IsSplit}
use Rattle.replica_texts.proofs.header.split_header.Goals as goal

pub returns-in_default : goal.returns-in_default
returns-in_default c = λ digits number s. c.in_default.ensures _ (has_first c.args.text.now digits number s)

pub returns-then-rest-lt64 : goal.returns-then-rest-lt64
returns-then-rest-lt64 c = λ digits number s. long_rest c.args.text.now c.in-Some.rest.now digits number c.in-Some.ensures c.if-rest-lt64.true s

pub returns-in_default-after : goal.returns-in_default-after
returns-in_default-after c =
    λ digits number s. c.in_default-after.ensures _ (c.split_at.ensures.back
    ∙ after_second c.args.text.now c.in-Some.rest.now digits number c.in-Some.ensures s)

pub returns-in-Some-before_end : goal.returns-in-Some-before_end
returns-in-Some-before_end c =
    subst (λ (digits : List ℕ). IsSplit c.args.text.now digits c.in-Some-before_end.number.now) (sym c.split_at.ensures.front)
    (split_whole c.args.text.now c.in-Some.rest.now c.in-Some-after.rest.now c.in-Some-before_end.number.now c.in-Some.ensures c.if-rest-lt64.false
    (sym c.split_at.ensures.back ∙ c.in-Some-after.ensures) c.in-Some-before_end.ensures)

pub returns-in-None : goal.returns-in-None
returns-in-None c =
    λ digits number s. c.in-None.ensures _
    (after_third c.args.text.now c.in-Some.rest.now c.in-Some-after.rest.now digits number c.in-Some.ensures
    (sym c.split_at.ensures.back ∙ c.in-Some-after.ensures) s)

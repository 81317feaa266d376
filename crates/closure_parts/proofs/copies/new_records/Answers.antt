-- One more is not held.
use Rattle.std.proofs.Common.{List, length, ◌≤◌, ◌∙◌, ap, subst, arith}
use Rattle.std.specs.List.{Contains}
use Rattle.receipt_core.specs.declared.distrust.Distrust.{Distrust}
use Rattle.closure_parts.specs.Held.{meaning_of}
use Rattle.closure_parts.proofs.MergeFacts.{IsCounted, IsCounted-start, IsCounted-new, counted_records, lacks_of}
use Rattle.receipt_core.proofs.LimitFacts.{record_limit-most}
use Rattle.receipt_core.specs.Limits.{most_records}
use Rattle.closure_parts.proofs.copies.new_records.Goals as goal

pub loop-domain-init : goal.loop-domain-init
loop-domain-init c =
    let all = c.into_iter-domain-iterator.result in
    let few : length all ≤ most_records = omega (
      arith,
      ap length (c.into_iter-domain-iterator.ensures.into_iter_gives ∙ c.distrusts-domain-items.ensures),
      c.config-other_valid.ensures.valid.few_records,
      record_limit-most c.args.other.now.config,
    ) in
    IsCounted-start c.args.held.now.records all most_records few

pub loop-domain-preserved-then-not-is_distrusted : goal.loop-domain-preserved-then-not-is_distrusted
loop-domain-preserved-then-not-is_distrusted c =
    let records = c.args.held.now.records in
    let x : Distrust = record { domain = c.in-Some.domain.now; key = c.in-Some.key.now } in
    IsCounted-new records c.into_iter-domain-iterator.result c.loop-domain.domain-iterator c.next.new.self x
    c.loop-domain.count most_records c.loop-domain.invariant c.in-Some.ensures.steps
    (lacks_of c.is_distrusted.result (Contains records x) c.if-not-is_distrusted.true c.is_distrusted.ensures)

pub returns : goal.returns
returns c =
    let m = meaning_of c.args.held.now in
    counted_records m (meaning_of c.args.other.now) c.loop-domain.domain-iterator c.loop-domain.count most_records
    c.config-valid.ensures.valid c.config-other_valid.ensures.valid
    (subst (λ (all : List Distrust). IsCounted m.records all c.loop-domain.domain-iterator c.loop-domain.count most_records)
    (c.into_iter-domain-iterator.ensures.into_iter_gives ∙ c.distrusts-domain-items.ensures)
    c.loop-domain.invariant)
    c.in-None.ensures.steps.0

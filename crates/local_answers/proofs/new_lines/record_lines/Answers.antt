use Rattle.std.proofs.Common.{rules, ◌∙◌, ap, subst, List}
use Rattle.receipt_core.specs.declared.distrust.Distrust.{Distrust}
use Rattle.receipt_core.proofs.ChainFacts.{not_stated}
use Rattle.replica_texts.specs.Snapshots.{ended}
use Rattle.local_answers.specs.Inside.NewLineSteps.{SiftsRecords}
use Rattle.local_answers.proofs.NewLineFacts.{records_begin, record_held, record_new, records_end}
use Rattle.local_answers.proofs.new_lines.record_lines.Goals as goal

pub loop-domain-init : goal.loop-domain-init
loop-domain-init g c =
    records_begin _ (g.C.Closure.state c.args.other.now).meaning _ c.new-text.result.items c.config-other_valid.ensures.valid
    (c.into_iter-domain-iterator.ensures.into_iter_gives ∙ c.distrusts-domain-items.ensures) (search rules)

pub loop-domain-preserved-then-is_distrusted : goal.loop-domain-preserved-then-is_distrusted
loop-domain-preserved-then-is_distrusted g c =
    record_held _ c.into_iter-domain-iterator.result c.loop-domain.domain-iterator c.next.new.self
    (record { domain = c.in-Some.domain.now; key = c.in-Some.key.now }) c.loop-domain.text.items
    c.config-valid.ensures.valid.records_rising c.loop-domain.invariant c.in-Some.ensures.steps (c.is_distrusted.ensures.0 c.if-is_distrusted.true)

pub loop-domain-preserved : goal.loop-domain-preserved
loop-domain-preserved g c =
    record_new _ c.into_iter-domain-iterator.result c.loop-domain.domain-iterator c.next.new.self
    (record { domain = c.in-Some.domain.now; key = c.in-Some.key.now }) c.loop-domain.text.items
    (ended c.in_ok-record_line.field-0.items) c.push_line.new.text.items c.loop-domain.invariant c.in-Some.ensures.steps
    (not_stated _ _ c.is_distrusted.ensures c.if-is_distrusted.false) (ap ended c.in_ok-record_line.ensures) c.in_ok-push_line.ensures

pub returns : goal.returns
returns g c =
    let m = (g.C.Closure.state c.args.closure.now).meaning in
    let other = (g.C.Closure.state c.args.other.now).meaning in
    records_end m other c.loop-domain.domain-iterator c.loop-domain.text.items
    (subst (λ (all : List Distrust). SiftsRecords m all c.loop-domain.domain-iterator c.loop-domain.text.items)
    (c.into_iter-domain-iterator.ensures.into_iter_gives ∙ c.distrusts-domain-items.ensures) c.loop-domain.invariant)
    c.in-None.ensures.steps.0

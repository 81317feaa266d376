use Rattle.std.proofs.Common.{◌∙◌, ◌++◌, ◌∷◌, List, [], ap, append-nil, Bor, map, sym, subst, ℕ}
use Rattle.std.proofs.lemmas.List.{drop_all, map-append}
use Rattle.byte_lines.specs.Lines.{lines_of}
use Rattle.change_view.specs.TurnTexts.{AreReportedAt, ComesInOrder, audit_at, part_journal}
use Rattle.change_view.proofs.TurnFacts.{in_order, next_lines, next_report, next_reported, whole_turn}
use Rattle.change_view.proofs.turn_lines.turn_texts.Goals as goal

abbrev bytes_at : Bor (List ℕ) → List ℕ
bytes_at r = r.now

pub loop-part-preserved : goal.loop-part-preserved
loop-part-preserved c =
    let turn = c.args.turn.now in
    let part = c.part-item.result in
    let k = c.loop-part.part-index in
    let before = c.loop-part.invariant in (
      next_lines turn k part (map bytes_at c.loop-part.journal.items) _ _ c.loop-part-test.true c.part-item.is before.0
          (ap (map bytes_at) c.in_ok-push.ensures.items ∙ map-append bytes_at c.loop-part.journal.items (part.lines ∷ [])),
      next_report c.args.moment turn k part c.loop-part.audit.items _ _ c.loop-part-test.true c.part-item.is before.1
          c.in_ok-push_report.ensures.line,
      next_reported c.args.moment turn k part c.loop-part-test.true c.part-item.is before.2 c.in_ok-push_report.ensures.reported,
    )

pub returns-clause-journal : goal.returns-clause-journal
returns-clause-journal c =
    let items = map bytes_at c.loop-part.journal.items in
    sym (append-nil items) ∙ ap (λ t. items ++ map part_journal t) (sym (drop_all c.loop-part.part-index c.args.turn.now c.loop-part-test.false))
    ∙ c.loop-part.invariant.0

pub returns-clause-audit : goal.returns-clause-audit
returns-clause-audit c =
    let items = c.loop-part.audit.items in
    sym (append-nil items)
    ∙ ap (λ t. items ++ audit_at c.args.moment t) (sym (drop_all c.loop-part.part-index c.args.turn.now c.loop-part-test.false))
    ∙ c.loop-part.invariant.1

pub returns-clause-reported : goal.returns-clause-reported
returns-clause-reported c = c.loop-part.invariant.2
    (subst (AreReportedAt c.args.moment) (sym (drop_all c.loop-part.part-index c.args.turn.now c.loop-part-test.false)) tt)

pub returns-clause-whole : goal.returns-clause-whole
returns-clause-whole c = ap (λ t. (lines_of t).rest) (returns-clause-audit c) ∙ whole_turn c.args.moment c.args.turn.now

pub returns-clause-in_order : goal.returns-clause-in_order
returns-clause-in_order c = subst (ComesInOrder c.args.moment c.args.turn.now) (sym (returns-clause-audit c)) (in_order c.args.moment c.args.turn.now)

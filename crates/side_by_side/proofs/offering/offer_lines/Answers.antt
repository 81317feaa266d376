use Rattle.std.proofs.Common.{◌≡◌, ◌+◌, sym, ap, subst, arith, ◌∙◌}
use Rattle.byte_lines.specs.Lines.{lines_of}
use Rattle.side_by_side.specs.Offering.{as_kept}
use Rattle.side_by_side.specs.Inside.Steps.{offered_count}
use Rattle.side_by_side.proofs.StepFacts.{HasOfferedSome, all_adds, all_takes, counted_one, first_shorter, on_err, part_adds}
use Rattle.side_by_side.proofs.StepFacts.{some_all, some_more, some_none, some_part}
use Rattle.side_by_side.proofs.offering.offer_lines.Goals as goal

pub lines-init : goal.lines-init
lines-init g c =
    let start = as_kept (g.C.Closure.state c.args.to.now).meaning c.args.journal.now.items in
    let none : offered_count c.no_lines-offered.result ≡ 0 = ap offered_count c.no_lines-offered.ensures in
    record {
      some = subst (HasOfferedSome start c.args.lines.now start c.args.lines.now) (sym c.no_lines-offered.ensures) (some_none start c.args.lines.now);
      size = omega (arith, none);
    }

pub returns-in_err-offer_line-clause-begun : goal.returns-in_err-offer_line-clause-begun
returns-in_err-offer_line-clause-begun g c =
    on_err c.from_residual.result _ (some_part
    (as_kept (g.C.Closure.state c.args.to.now).meaning c.args.journal.now.items) c.args.lines.now
    (as_kept (g.C.Closure.state c.lines.to).meaning c.lines.journal.items)
    (as_kept (g.C.Closure.state c.offer_line.new.to).meaning c.offer_line.new.journal.items)
    c.lines.rest.now c.lines.offered c.in-Some.line.text.now c.in-Some.line.after.now
    c.lines.invariant.some c.in-Some.ensures c.in_err-offer_line.ensures)

pub returns-in_err-offer_line-clause-adds : goal.returns-in_err-offer_line-clause-adds
returns-in_err-offer_line-clause-adds g c =
    let start = as_kept (g.C.Closure.state c.args.to.now).meaning c.args.journal.now.items in
    let new = as_kept (g.C.Closure.state c.offer_line.new.to).meaning c.offer_line.new.journal.items in
    part_adds (record { receipts = c.sets.ensures.receipts; records = c.sets.ensures.records }) start
    (lines_of c.args.lines.now).whole new c.config-old.ensures.valid
    (some_part start c.args.lines.now (as_kept (g.C.Closure.state c.lines.to).meaning c.lines.journal.items) new
    c.lines.rest.now c.lines.offered c.in-Some.line.text.now c.in-Some.line.after.now
    c.lines.invariant.some c.in-Some.ensures c.in_err-offer_line.ensures)

pub lines-preserved : goal.lines-preserved
lines-preserved g c =
    let fate = c.in_ok-offer_line.field-0 in
    let before = c.lines.invariant.size in
    let shorter = first_shorter c.lines.rest.now c.in-Some.line.text.now c.in-Some.line.after.now c.in-Some.ensures in
    let one : offered_count c.count_line-offered.result ≡ offered_count c.lines.offered + 1 =
    ap offered_count c.count_line-offered.ensures ∙ counted_one fate c.lines.offered in
    record {
      some = some_more
          (as_kept (g.C.Closure.state c.args.to.now).meaning c.args.journal.now.items) c.args.lines.now
          (as_kept (g.C.Closure.state c.lines.to).meaning c.lines.journal.items) c.lines.rest.now c.lines.offered
          c.in-Some.line.text.now c.in-Some.line.after.now
          (as_kept (g.C.Closure.state c.offer_line.new.to).meaning c.offer_line.new.journal.items) fate c.count_line-offered.result
          c.lines.invariant.some c.in-Some.ensures c.in_ok-offer_line.ensures c.count_line-offered.ensures;
      size = omega (arith, before, shorter, one);
    }

pub returns-clause-offers : goal.returns-clause-offers
returns-clause-offers g c =
    some_all (as_kept (g.C.Closure.state c.args.to.now).meaning c.args.journal.now.items) c.args.lines.now
    (as_kept (g.C.Closure.state c.lines.to).meaning c.lines.journal.items) c.lines.rest.now c.lines.offered
    c.lines.invariant.some c.in_default.ensures

pub returns-clause-adds : goal.returns-clause-adds
returns-clause-adds g c =
    let start = as_kept (g.C.Closure.state c.args.to.now).meaning c.args.journal.now.items in
    let now = as_kept (g.C.Closure.state c.lines.to).meaning c.lines.journal.items in
    all_adds (record { receipts = c.sets.ensures.receipts; records = c.sets.ensures.records }) start (lines_of c.args.lines.now).whole now c.lines.offered
    c.config-old.ensures.valid
    (some_all start c.args.lines.now now c.lines.rest.now c.lines.offered c.lines.invariant.some c.in_default.ensures)

pub returns-clause-takes : goal.returns-clause-takes
returns-clause-takes g c =
    let start = as_kept (g.C.Closure.state c.args.to.now).meaning c.args.journal.now.items in
    let now = as_kept (g.C.Closure.state c.lines.to).meaning c.lines.journal.items in
    all_takes (record { receipts = c.sets.ensures.receipts; records = c.sets.ensures.records }) start (lines_of c.args.lines.now).whole now c.lines.offered
    c.config-old.ensures.valid
    (some_all start c.args.lines.now now c.lines.rest.now c.lines.offered c.lines.invariant.some c.in_default.ensures)

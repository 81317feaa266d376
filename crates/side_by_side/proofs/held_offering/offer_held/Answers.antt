use Rattle.std.proofs.Common.{map}
use Rattle.receipt_core.specs.Receipt.{distrust_line, line}
use Rattle.replica_texts.specs.Snapshots.{held_lines}
use Rattle.side_by_side.specs.Offering.{as_kept}
use Rattle.side_by_side.proofs.HeldOfferFacts.{both_offered, first_part, then_part}
use Rattle.side_by_side.proofs.StepFacts.{all_adds, all_takes, on_err, part_adds}
use Rattle.side_by_side.proofs.held_offering.offer_held.Goals as goal

pub returns-in_err-records-clause-adds : goal.returns-in_err-records-clause-adds
returns-in_err-records-clause-adds g c =
    let m = (g.C.Closure.state c.args.from.now).meaning in
    let start = as_kept (g.C.Closure.state c.args.to.now).meaning c.args.journal.now.items in
    let new = as_kept (g.C.Closure.state c.offer_records.new.to).meaning c.offer_records.new.journal.items in
    part_adds (record { receipts = c.sets.ensures.receipts; records = c.sets.ensures.records }) start (held_lines m) new c.config-old.ensures.valid
    (first_part start (map distrust_line m.records) (map line m.held) new c.in_err-records.ensures.begun)

pub returns-in_err-all-clause-begun : goal.returns-in_err-all-clause-begun
returns-in_err-all-clause-begun g c =
    let m = (g.C.Closure.state c.args.from.now).meaning in
    on_err c.from_residual-in_err-all.result _ (then_part
    (as_kept (g.C.Closure.state c.args.to.now).meaning c.args.journal.now.items) (map distrust_line m.records)
    (as_kept (g.C.Closure.state c.offer_records.new.to).meaning c.offer_records.new.journal.items) (map line m.held)
    (as_kept (g.C.Closure.state c.offer_receipts.new.to).meaning c.offer_receipts.new.journal.items) _
    c.in_ok-records.ensures.offers c.in_err-all.ensures.begun)

pub returns-in_err-all-clause-adds : goal.returns-in_err-all-clause-adds
returns-in_err-all-clause-adds g c =
    let m = (g.C.Closure.state c.args.from.now).meaning in
    let start = as_kept (g.C.Closure.state c.args.to.now).meaning c.args.journal.now.items in
    let new = as_kept (g.C.Closure.state c.offer_receipts.new.to).meaning c.offer_receipts.new.journal.items in
    part_adds (record { receipts = c.sets.ensures.receipts; records = c.sets.ensures.records }) start (held_lines m) new c.config-old.ensures.valid
    (then_part start (map distrust_line m.records)
    (as_kept (g.C.Closure.state c.offer_records.new.to).meaning c.offer_records.new.journal.items) (map line m.held) new _
    c.in_ok-records.ensures.offers c.in_err-all.ensures.begun)

pub returns-clause-offers : goal.returns-clause-offers
returns-clause-offers g c =
    let m = (g.C.Closure.state c.args.from.now).meaning in
    both_offered
    (as_kept (g.C.Closure.state c.args.to.now).meaning c.args.journal.now.items) (map distrust_line m.records)
    (as_kept (g.C.Closure.state c.offer_records.new.to).meaning c.offer_records.new.journal.items) (map line m.held)
    (as_kept (g.C.Closure.state c.offer_receipts.new.to).meaning c.offer_receipts.new.journal.items) _ _
    c.in_ok-records.ensures.offers c.in_ok-all.ensures.offers

pub returns-clause-adds : goal.returns-clause-adds
returns-clause-adds g c =
    let m = (g.C.Closure.state c.args.from.now).meaning in
    let start = as_kept (g.C.Closure.state c.args.to.now).meaning c.args.journal.now.items in
    let new = as_kept (g.C.Closure.state c.offer_receipts.new.to).meaning c.offer_receipts.new.journal.items in
    all_adds (record { receipts = c.sets.ensures.receipts; records = c.sets.ensures.records }) start (held_lines m) new _ c.config-old.ensures.valid
    (both_offered start (map distrust_line m.records)
    (as_kept (g.C.Closure.state c.offer_records.new.to).meaning c.offer_records.new.journal.items) (map line m.held) new _ _
    c.in_ok-records.ensures.offers c.in_ok-all.ensures.offers)

pub returns-clause-takes : goal.returns-clause-takes
returns-clause-takes g c =
    let m = (g.C.Closure.state c.args.from.now).meaning in
    let start = as_kept (g.C.Closure.state c.args.to.now).meaning c.args.journal.now.items in
    let new = as_kept (g.C.Closure.state c.offer_receipts.new.to).meaning c.offer_receipts.new.journal.items in
    all_takes (record { receipts = c.sets.ensures.receipts; records = c.sets.ensures.records }) start (held_lines m) new _ c.config-old.ensures.valid
    (both_offered start (map distrust_line m.records)
    (as_kept (g.C.Closure.state c.offer_records.new.to).meaning c.offer_records.new.journal.items) (map line m.held) new _ _
    c.in_ok-records.ensures.offers c.in_ok-all.ensures.offers)

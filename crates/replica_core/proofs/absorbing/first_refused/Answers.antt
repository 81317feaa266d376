-- The first of the records, or else the first of the receipts.
use Rattle.std.proofs.Common.{◌+◌, ◌^◌, ◌<◌, ◌++◌, List, length, length-append, ap, subst, arith}
use Rattle.std.proofs.lemmas.List.{length-map}
use Rattle.receipt_core.specs.declared.distrust.Distrust.{Distrust}
use Rattle.receipt_core.specs.Receipt.{Receipt, distrust_cmp}
use Rattle.receipt_core.specs.Rising.{with_items}
use Rattle.replica_core.specs.Absorbing.{AreWelcome, IsFirstRefused, of_receipts, of_records}
use Rattle.replica_core.specs.declared.entry.Entry.TheVariants.{Record}
use Rattle.replica_core.proofs.AbsorbFacts.{all-welcome, first-bound, first-receipt}
use Rattle.replica_core.proofs.absorbing.first_refused.Goals as goal

pub overflow_add-result : goal.overflow_add-result
overflow_add-result g c =
    let m = (g.C.Closure.state c.args.closure.now).meaning in
    let content = c.args.give.now.content in
    let first = c.in-Some-first_receipt.ensures in
    let bound = first-bound (record m { records = with_items distrust_cmp content.records m.records })
    (of_receipts c.receipts.result.now) c.in-Some-first_receipt.number c.in-Some-first_receipt.why
    (first (with_items distrust_cmp content.records m.records)) in
    let records = ap length c.distrusts.ensures in
    let receipts = ap (λ (rs : List Receipt). length (of_receipts rs)) c.receipts.ensures in
    let room : length (of_records content.records ++ of_receipts content.held) + 2 < 2 ^ 64 = c.requires in
    let count = length-append (of_records content.records) (of_receipts content.held) in
    let same = length-map content.records Record in
    omega (arith, bound, records, receipts, room, count, same)

pub returns-in-Some-first_receipt : goal.returns-in-Some-first_receipt
returns-in-Some-first_receipt g c =
    let m = (g.C.Closure.state c.args.closure.now).meaning in
    let content = c.args.give.now.content in
    first-receipt m content.records content.held (length c.distrusts.result.now) c.in-Some-first_receipt.number
    c.in-Some-first_receipt.why (ap length c.distrusts.ensures)
    (subst (λ (xs : List Distrust). AreWelcome m (of_records xs)) c.distrusts-2.ensures c.in-None.ensures)
    (subst (λ (rs : List Receipt). IsFirstRefused
    (record m { records = with_items distrust_cmp content.records m.records }) (of_receipts rs)
    c.in-Some-first_receipt.number c.in-Some-first_receipt.why) c.receipts.ensures
    (c.in-Some-first_receipt.ensures (with_items distrust_cmp content.records m.records)))

pub returns-in-None-first_receipt : goal.returns-in-None-first_receipt
returns-in-None-first_receipt g c =
    let m = (g.C.Closure.state c.args.closure.now).meaning in
    let content = c.args.give.now.content in
    all-welcome m content.records content.held
    (subst (λ (xs : List Distrust). AreWelcome m (of_records xs)) c.distrusts-2.ensures c.in-None.ensures)
    (subst (λ (rs : List Receipt). AreWelcome (record m { records = with_items distrust_cmp content.records m.records }) (of_receipts rs)) c.receipts.ensures
    (c.in-None-first_receipt.ensures (with_items distrust_cmp content.records m.records)))

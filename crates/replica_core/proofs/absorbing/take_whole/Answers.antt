-- Records are held first, and then receipts.
use Rattle.std.proofs.Common.{◌≡◌, List, length, sym, ap, subst, arith}
use Rattle.receipt_core.specs.declared.distrust.Distrust.{Distrust}
use Rattle.receipt_core.specs.Receipt.{Receipt, receipt_cmp, distrust_cmp}
use Rattle.receipt_core.specs.Rising.{with_items}
use Rattle.receipt_core.specs.Acceptance.{Meaning}
use Rattle.closure_core.specs.Refusals.{IsRoomier}
use Rattle.replica_core.specs.Absorbing.{AreWelcome, of_receipts, of_records, room_for}
use Rattle.replica_core.specs.Session.{GiveMessage}
use Rattle.replica_core.proofs.AbsorbFacts.{welcome-front, receipts-welcome}
use Rattle.replica_core.proofs.JoiningFacts.{still-roomy}
use Rattle.replica_core.proofs.PlaceFacts.{with_items-grows}
use Rattle.replica_core.proofs.absorbing.take_whole.Goals as goal

pub distrust_all-requires : goal.distrust_all-requires
distrust_all-requires g c =
    let m = (g.C.Closure.state c.args.closure.now).meaning in
    let content = c.args.give.content in
    subst (λ (xs : List Distrust). AreWelcome m (of_records xs)) (sym c.distrusts.ensures)
    (welcome-front m (of_records content.records) (of_receipts content.held) c.requires.welcome)

pub take_all-requires-clause-welcome : goal.take_all-requires-clause-welcome
take_all-requires-clause-welcome g c =
    let m = (g.C.Closure.state c.args.closure.now).meaning in
    let content = c.args.give.content in
    let held : c.give.inside.receipts.items ≡ content.held = ap (λ (r : GiveMessage). r.content.held) c.give.view_is in
    subst (λ (rs : List Receipt). AreWelcome (g.C.Closure.state c.distrust_all.new.closure).meaning (of_receipts rs)) (sym held)
    (subst (λ (k : Meaning). AreWelcome k (of_receipts content.held)) (sym c.distrust_all.ensures.meaning)
    (subst (λ (xs : List Distrust). AreWelcome (record m { records = with_items distrust_cmp xs m.records })
    (of_receipts content.held)) (sym c.distrusts.ensures)
    (receipts-welcome m content.records content.held c.requires.welcome)))

pub take_all-requires-clause-room : goal.take_all-requires-clause-room
take_all-requires-clause-room g c =
    let m = (g.C.Closure.state c.args.closure.now).meaning in
    let content = c.args.give.content in
    let held : c.give.inside.receipts.items ≡ content.held = ap (λ (r : GiveMessage). r.content.held) c.give.view_is in
    let now = g.C.Closure.state c.distrust_all.new.closure in
    subst (λ (rs : List Receipt). IsRoomier (room_for now.meaning rs) now.room) (sym held)
    (subst (λ (k : Meaning). IsRoomier (room_for k content.held) now.room) (sym c.distrust_all.ensures.meaning)
    (still-roomy (room_for m content.held) (g.C.Closure.state c.args.closure.now).room now.room c.requires.room
    c.distrust_all.ensures.room))

pub overflow_sub-result : goal.overflow_sub-result
overflow_sub-result g c =
    let m = (g.C.Closure.state c.args.closure.now).meaning in
    let before : (g.C.Closure.state c.distrust_all.new.closure).meaning.held ≡ m.held = ap (λ (k : Meaning). k.held) c.distrust_all.ensures.meaning in
    let after : (g.C.Closure.state c.take_all.new.closure).meaning.held
    ≡ with_items receipt_cmp c.give.inside.receipts.items
    (g.C.Closure.state c.distrust_all.new.closure).meaning.held = ap (λ (k : Meaning). k.held) c.take_all.ensures in
    let grown = with_items-grows receipt_cmp c.give.inside.receipts.items (g.C.Closure.state c.distrust_all.new.closure).meaning.held in
    omega (arith, c.receipt_count-held.ensures, c.receipt_count.ensures, ap length before, ap length after, grown)

pub returns-clause-count : goal.returns-clause-count
returns-clause-count g c =
    let m = (g.C.Closure.state c.args.closure.now).meaning in
    let before : (g.C.Closure.state c.distrust_all.new.closure).meaning.held ≡ m.held = ap (λ (k : Meaning). k.held) c.distrust_all.ensures.meaning in
    let after : (g.C.Closure.state c.take_all.new.closure).meaning.held
    ≡ with_items receipt_cmp c.give.inside.receipts.items
    (g.C.Closure.state c.distrust_all.new.closure).meaning.held = ap (λ (k : Meaning). k.held) c.take_all.ensures in
    let grown = with_items-grows receipt_cmp c.give.inside.receipts.items (g.C.Closure.state c.distrust_all.new.closure).meaning.held in
    omega (arith, c.receipt_count-held.ensures, c.receipt_count.ensures, ap length before, ap length after, grown)

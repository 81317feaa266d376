use Rattle.std.proofs.Common.{◌≡◌, List, subst, sym, false}
use Rattle.std.specs.List.Sorted.{IsStrictlySortedBy}
use Rattle.std.specs.Ordering.{is_lt}
use Rattle.receipt_core.specs.Receipt.{Receipt, receipt_cmp}
use Rattle.receipt_core.specs.Order.{receipt_total}
use Rattle.snapshot_pieces.specs.Inside.Steps.{AreLent}
use Rattle.snapshot_pieces.proofs.PlaceFacts.{behind_rest, rising_drop, rising_rest, tested}
use Rattle.snapshot_pieces.proofs.places.receipts_behind.Goals as goal

pub first_behind-requires : goal.first_behind-requires
first_behind-requires g c =
    let held = (g.C.Closure.state c.args.closure.now).meaning.held in
    rising_rest receipt_cmp c.in-Some.receipt.now c.passed_over-rest.result c.next.new.self c.in-Some.ensures.steps
    (subst (λ (rs : List Receipt). IsStrictlySortedBy receipt_cmp rs) (sym c.passed_over-rest.ensures)
    (rising_drop receipt_cmp c.saturating_sub.result held c.config-config.ensures.valid.rising))

pub returns-in-Some : goal.returns-in-Some
returns-in-Some g c =
    let held = (g.C.Closure.state c.args.closure.now).meaning.held in
    let before : is_lt (receipt_cmp c.args.last.now c.in-Some.receipt.now) ≡ false =
    tested c.cmp.result (receipt_cmp c.args.last.now c.in-Some.receipt.now) c.is_lt.result false c.cmp.ensures c.is_lt.ensures c.if-not-is_lt.true in
    subst (λ (rs : List Receipt). AreLent rs c.first_behind.result)
    (behind_rest receipt_total c.args.last.now held c.saturating_sub.result c.in-Some.receipt.now c.passed_over-rest.result c.next.new.self
    c.config-config.ensures.valid.rising c.passed_over-rest.ensures c.in-Some.ensures.steps before) c.first_behind.ensures

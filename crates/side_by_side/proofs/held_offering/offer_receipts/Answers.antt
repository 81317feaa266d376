use Rattle.std.proofs.Common.{◌≡◌, List, sym, subst, ap, length, rules, arith}
use Rattle.std.specs.List.{AllByRecursion}
use Rattle.receipt_core.specs.Receipt.{Receipt, IsReceipt, line}
use Rattle.receipt_core.proofs.LimitFacts.{receipt_limit-most}
use Rattle.replica_core.specs.declared.entry.Entry.TheVariants.{Receipt as AReceipt}
use Rattle.side_by_side.specs.Offering.{as_kept}
use Rattle.side_by_side.proofs.HeldOfferFacts.{item_form, item_more, item_none, item_place, own_line}
use Rattle.side_by_side.proofs.held_offering.offer_receipts.Goals as goal

pub receipts-init : goal.receipts-init
receipts-init g c =
    item_none line (as_kept (g.C.Closure.state c.args.to.now).meaning c.args.journal.now.items) c.into_iter-receipt-iterator.result c.args.before

pub count_line-offered-requires : goal.count_line-offered-requires
count_line-offered-requires g c =
    let all : c.into_iter-receipt-iterator.result ≡ (g.C.Closure.state c.args.from.now).meaning.held = first_of (cc, search rules) in
    let place = item_place line (as_kept (g.C.Closure.state c.args.to.now).meaning c.args.journal.now.items) c.into_iter-receipt-iterator.result
    c.receipts.receipt-iterator c.next.new.self c.in-Some.receipt.now (as_kept (g.C.Closure.state c.receipts.to).meaning c.receipts.journal.items)
    c.args.before c.receipts.offered c.receipts.invariant c.in-Some.ensures.steps in
    let size = ap length all in
    let few = c.config-valid.ensures.valid.few in
    let most = receipt_limit-most (g.C.Closure.state c.args.from.now).meaning.config in
    let first = c.requires in
    omega (arith, place, size, few, most, first)

pub receipts-preserved : goal.receipts-preserved
receipts-preserved g c =
    let start = as_kept (g.C.Closure.state c.args.to.now).meaning c.args.journal.now.items in
    let now = as_kept (g.C.Closure.state c.receipts.to).meaning c.receipts.journal.items in
    let new = as_kept (g.C.Closure.state c.offer_receipt.new.to).meaning c.offer_receipt.new.journal.items in
    let r : Receipt = c.in-Some.receipt.now in
    let fate = c.in_ok-offer_receipt.field-0 in
    let all : c.into_iter-receipt-iterator.result ≡ (g.C.Closure.state c.args.from.now).meaning.held = first_of (cc, search rules) in
    let form : IsReceipt r = item_form IsReceipt line start c.into_iter-receipt-iterator.result c.receipts.receipt-iterator c.next.new.self r now
    c.args.before c.receipts.offered c.receipts.invariant c.in-Some.ensures.steps
    (subst (λ (xs : List Receipt). AllByRecursion IsReceipt xs) (sym all) c.config-valid.ensures.valid.receipts) in
    item_more line start c.into_iter-receipt-iterator.result c.receipts.receipt-iterator c.next.new.self r now new c.args.before c.receipts.offered
    c.count_line-offered.result fate c.receipts.invariant c.in-Some.ensures.steps
    (own_line now (AReceipt r) new fate form c.in_ok-offer_receipt.ensures) c.count_line-offered.ensures

use Rattle.std.proofs.Common.{◌≡◌, List, ap, arith, length, rules, subst, sym}
use Rattle.std.specs.List.{AllByRecursion}
use Rattle.receipt_core.specs.Acceptance.{IsFitting}
use Rattle.receipt_core.specs.Receipt.{Receipt}
use Rattle.receipt_core.proofs.LimitFacts.{receipt_limit-most}
use Rattle.reseeding.proofs.StayFacts.{stay_all, stay_more, stay_none, stay_passed, stay_room}
use Rattle.reseeding.proofs.staying.count_staying.Goals as goal

pub receipts-init : goal.receipts-init
receipts-init g c =
    let m = (g.C.Closure.state c.args.closure.now).meaning in
    let all : c.into_iter-receipt-iterator.result ≡ m.held = first_of (cc, search rules) in
    stay_none m c.into_iter-receipt-iterator.result
    (subst (λ (rs : List Receipt). AllByRecursion (IsFitting m.config) rs) (sym all) c.config-valid.ensures.valid.fitting)

pub overflow_add-count : goal.overflow_add-count
overflow_add-count g c =
    let m = (g.C.Closure.state c.args.closure.now).meaning in
    let all : c.into_iter-receipt-iterator.result ≡ m.held = first_of (cc, search rules) in
    let room = stay_room m _ _ c.in-Some.receipt.now _ c.receipts.count c.in-Some.ensures.steps c.receipts.invariant in
    let size = ap length all in
    let few = c.config-valid.ensures.valid.few in
    omega (arith, room, size, few, receipt_limit-most m.config)

pub receipts-preserved-then-is_staying : goal.receipts-preserved-then-is_staying
receipts-preserved-then-is_staying g c =
    stay_more _ _ _ c.in-Some.receipt.now _ _ c.is_staying.result c.in-Some.ensures.steps c.is_staying.ensures c.if-is_staying.true
    c.receipts.invariant

pub receipts-preserved : goal.receipts-preserved
receipts-preserved g c =
    stay_passed _ _ _ c.in-Some.receipt.now _ _ c.is_staying.result c.in-Some.ensures.steps c.is_staying.ensures c.if-is_staying.false
    c.receipts.invariant

pub returns : goal.returns
returns g c =
    let m = (g.C.Closure.state c.args.closure.now).meaning in
    let all : c.into_iter-receipt-iterator.result ≡ m.held = first_of (cc, search rules) in
    stay_all m _ _ c.receipts.count c.config-valid.ensures.valid all c.in-None.ensures.steps.0 c.receipts.invariant

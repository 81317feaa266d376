use Rattle.std.proofs.Common.{◌≡◌, ◌∙◌, ◌<◌, ◌++◌, ◌∷◌, [], sym, ap, ap₂, subst, length, arith, List, Option, Some}
use Rattle.std.specs.Prelude.{min, IfSome}
use Rattle.std.specs.List.{insert}
use Rattle.receipt_core.specs.Receipt.{Receipt, receipt_cmp, with_receipt}
use Rattle.receipt_core.specs.Acceptance.{IsFitting}
use Rattle.sorted_order.specs.Sequence.{Sequence}
use Rattle.sorted_order.specs.ArenaView.{in_order, compared_at}
use Rattle.sorted_order.specs.Sought.{IsMissing, IsGap}
use Rattle.closure_parts.specs.Held.{HeldReceipts, IsWellHeld, AreBucketed, bucket_cmp, capacity_with}
use Rattle.closure_parts.proofs.HeldFacts.{bucket_sought, length_in_order, missing_inserts, bucketed_more, hoard_more}
use Rattle.closure_parts.proofs.held.Held.insert.Goals as goal
use Rattle.receipt_core.specs.Limits.{receipt_limit}

pub before-spot-requires-clause-rising : goal.before-spot-requires-clause-rising
before-spot-requires-clause-rising c =
    let hoard : IsWellHeld c.self.inside.config c.self.inside.receipts (Some c.in-Some.buckets) c.self.inside.records =
    subst (λ (b : Option Sequence). IsWellHeld c.self.inside.config c.self.inside.receipts b c.self.inside.records) c.in-Some.is c.self.invariant in
    bucket_sought c.self.inside.receipts.items c.new.result.receipts.now c.in-Some.buckets.items c.args.receipt c.new.result.receipt.now
    hoard.bucketed.arranged hoard.bucketed.rising (c.new.ensures.receipts ∙ c.items-in-Some.ensures) (c.new.ensures.receipt ∙ c.keep_id-receipt.ensures)

pub insert_with_hint-number-requires-clause-place : goal.insert_with_hint-number-requires-clause-place
insert_with_hint-number-requires-clause-place c =
    let missing : IsMissing (λ s. receipt_cmp s c.args.receipt) (in_order c.self.inside.receipts) c.args.place =
    subst (λ (h : HeldReceipts). IsMissing (λ s. receipt_cmp s c.args.receipt) h.held c.args.place) (sym c.self.view_is) c.requires.absent.missing in
    let size : length (in_order c.self.inside.receipts) ≡ length c.self.inside.receipts.items =
    length_in_order c.self.inside.receipts c.self.invariant.arranged in
    let within = missing.within in
    omega arith

pub invariant_of-self : goal.invariant_of-self
invariant_of-self c =
    let hoard : IsWellHeld c.self.inside.config c.self.inside.receipts (Some c.in-Some.buckets) c.self.inside.records =
    subst (λ (b : Option Sequence). IsWellHeld c.self.inside.config c.self.inside.receipts b c.self.inside.records) c.in-Some.is c.self.invariant in
    let missing : IsMissing (λ s. receipt_cmp s c.args.receipt) (in_order c.self.inside.receipts) c.args.place =
    subst (λ (h : HeldReceipts). IsMissing (λ s. receipt_cmp s c.args.receipt) h.held c.args.place) (sym c.self.view_is) c.requires.absent.missing in
    let fits : IsFitting c.self.inside.config c.args.receipt =
    subst (λ (h : HeldReceipts). IsFitting h.config c.args.receipt) (sym c.self.view_is) c.requires.absent.fits in
    let few : length (in_order c.self.inside.receipts) < receipt_limit c.self.inside.config =
    subst (λ (h : HeldReceipts). length h.held < receipt_limit h.config) (sym c.self.view_is) c.requires.absent.few in
    let size : length (in_order c.self.inside.receipts) ≡ length c.self.inside.receipts.items =
    length_in_order c.self.inside.receipts c.self.invariant.arranged in
    let gap : IsGap (λ n. compared_at (λ x. bucket_cmp x c.args.receipt) c.self.inside.receipts.items n) c.in-Some.buckets.items c.before-spot.result =
    subst (λ (r : Receipt). IsGap (λ n. compared_at (λ x. bucket_cmp x r) c.self.inside.receipts.items n)
    c.in-Some.buckets.items c.before-spot.result) (c.new.ensures.receipt ∙ c.keep_id-receipt.ensures)
    (subst (λ (xs : List Receipt). IsGap (λ n. compared_at (λ x. bucket_cmp x c.new.result.receipt.now) xs n)
    c.in-Some.buckets.items c.before-spot.result) (c.new.ensures.receipts ∙ c.items-in-Some.ensures)
    c.before-spot.ensures) in
    let items = c.insert_with_hint-number.ensures.items ∙ ap (λ r. c.self.inside.receipts.items ++ r ∷ []) c.keep_id-receipt.ensures in
    hoard_more c.self.inside.config c.self.inside.receipts c.insert_with_hint-number.new.self (Some c.in-Some.buckets)
    (Some c.insert.new.self) c.self.inside.records c.args.receipt c.args.place
    hoard c.requires.absent.is fits (omega arith) missing items
    (c.insert_with_hint-number.ensures.in_order ∙ ap (insert (in_order c.self.inside.receipts) c.args.place) c.keep_id-receipt.ensures)
    c.insert_with_hint-number.ensures.order
    (bucketed_more c.self.inside.config c.self.inside.receipts c.in-Some.buckets c.insert.new.self
    c.insert_with_hint-number.new.self.items c.self.inside.records c.args.receipt c.args.place c.before-spot.result hoard
    c.requires.absent.is missing gap items
    (c.insert.ensures.items ∙ ap (λ n. insert c.in-Some.buckets.items c.before-spot.result n) c.insert_with_hint-number.ensures.number))

pub returns-in-Some : goal.returns-in-Some
returns-in-Some c =
    let missing : IsMissing (λ s. receipt_cmp s c.args.receipt) (in_order c.self.inside.receipts) c.args.place =
    subst (λ (h : HeldReceipts). IsMissing (λ s. receipt_cmp s c.args.receipt) h.held c.args.place) (sym c.self.view_is) c.requires.absent.missing in
    let arrived = c.insert_with_hint-number.ensures.items ∙ ap (λ r. c.self.inside.receipts.items ++ r ∷ []) c.keep_id-receipt.ensures
    ∙ ap (λ (h : HeldReceipts). h.arrived ++ c.args.receipt ∷ []) c.self.view_is in
    let held = c.insert_with_hint-number.ensures.in_order ∙ ap (insert (in_order c.self.inside.receipts) c.args.place) c.keep_id-receipt.ensures
    ∙ sym (missing_inserts (in_order c.self.inside.receipts) c.args.receipt c.args.place missing)
    ∙ ap (λ (h : HeldReceipts). with_receipt c.args.receipt h.held) c.self.view_is in
    let config = ap (λ (h : HeldReceipts). h.config) c.self.view_is in
    let records = ap (λ (h : HeldReceipts). h.records) c.self.view_is in
    let capacity = ap₂ (λ a b. min a b) c.insert_with_hint-number.ensures.capacity c.insert.ensures.capacity
    ∙ ap (capacity_with c.self.inside.receipts.capacity) (sym c.in-Some.is)
    ∙ ap (λ (h : HeldReceipts). h.capacity) c.self.view_is in
    λ i. record { config = config i; arrived = arrived i; held = held i; records = records i; capacity = capacity i }

pub insert_with_hint-requires-clause-place : goal.insert_with_hint-requires-clause-place
insert_with_hint-requires-clause-place c =
    let missing : IsMissing (λ s. receipt_cmp s c.args.receipt) (in_order c.self.inside.receipts) c.args.place =
    subst (λ (h : HeldReceipts). IsMissing (λ s. receipt_cmp s c.args.receipt) h.held c.args.place) (sym c.self.view_is) c.requires.absent.missing in
    let size : length (in_order c.self.inside.receipts) ≡ length c.self.inside.receipts.items =
    length_in_order c.self.inside.receipts c.self.invariant.arranged in
    let within = missing.within in
    omega arith

pub invariant_of-self-in-None : goal.invariant_of-self-in-None
invariant_of-self-in-None c =
    let missing : IsMissing (λ s. receipt_cmp s c.args.receipt) (in_order c.self.inside.receipts) c.args.place =
    subst (λ (h : HeldReceipts). IsMissing (λ s. receipt_cmp s c.args.receipt) h.held c.args.place) (sym c.self.view_is) c.requires.absent.missing in
    let fits : IsFitting c.self.inside.config c.args.receipt =
    subst (λ (h : HeldReceipts). IsFitting h.config c.args.receipt) (sym c.self.view_is) c.requires.absent.fits in
    let few : length (in_order c.self.inside.receipts) < receipt_limit c.self.inside.config =
    subst (λ (h : HeldReceipts). length h.held < receipt_limit h.config) (sym c.self.view_is) c.requires.absent.few in
    let size : length (in_order c.self.inside.receipts) ≡ length c.self.inside.receipts.items =
    length_in_order c.self.inside.receipts c.self.invariant.arranged in
    hoard_more c.self.inside.config c.self.inside.receipts c.insert_with_hint.new.self c.self.inside.buckets
    c.self.inside.buckets c.self.inside.records c.args.receipt c.args.place
    c.self.invariant c.requires.absent.is fits (omega arith) missing c.insert_with_hint.ensures.items
    c.insert_with_hint.ensures.in_order c.insert_with_hint.ensures.order
    (subst (λ (b : Option Sequence). IfSome b (AreBucketed c.insert_with_hint.new.self.items)) (sym c.in-None.is) tt)

pub returns-in-None : goal.returns-in-None
returns-in-None c =
    let missing : IsMissing (λ s. receipt_cmp s c.args.receipt) (in_order c.self.inside.receipts) c.args.place =
    subst (λ (h : HeldReceipts). IsMissing (λ s. receipt_cmp s c.args.receipt) h.held c.args.place) (sym c.self.view_is) c.requires.absent.missing in
    let arrived = c.insert_with_hint.ensures.items ∙ ap (λ (h : HeldReceipts). h.arrived ++ c.args.receipt ∷ []) c.self.view_is in
    let held = c.insert_with_hint.ensures.in_order
    ∙ sym (missing_inserts (in_order c.self.inside.receipts) c.args.receipt c.args.place missing)
    ∙ ap (λ (h : HeldReceipts). with_receipt c.args.receipt h.held) c.self.view_is in
    let config = ap (λ (h : HeldReceipts). h.config) c.self.view_is in
    let records = ap (λ (h : HeldReceipts). h.records) c.self.view_is in
    let capacity = ap (λ n. capacity_with n c.self.inside.buckets) c.insert_with_hint.ensures.capacity
    ∙ ap (λ (h : HeldReceipts). h.capacity) c.self.view_is in
    λ i. record { config = config i; arrived = arrived i; held = held i; records = records i; capacity = capacity i }

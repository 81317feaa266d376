use Rattle.std.proofs.Common.{◌≡◌, ◌∙◌, ◌<◌, ℕ, List, Option, Some, sym, ap, subst, length}
use Rattle.std.specs.Ordering.{nat_cmp}
use Rattle.std.specs.List.{All, filter}
use Rattle.receipt_core.specs.Receipt.{Receipt}
use Rattle.sorted_order.specs.Sequence.{Sequence}
use Rattle.sorted_order.specs.Sought.{is_equal}
use Rattle.sorted_order.specs.ArenaView.{picked, compared_at}
use Rattle.sorted_order.proofs.PickedFacts.{filter_within}
use Rattle.closure_parts.specs.Held.{HeldReceipts, IsWellHeld, bucket_of}
use Rattle.closure_core.specs.AcceptedList.{receipts_in}
use Rattle.closure_parts.proofs.HeldFacts.{buckets_rise, bucket_list}
use Rattle.closure_parts.proofs.held.Held.receipts_of.Goals as goal

pub matching-numbers-requires-clause-rising : goal.matching-numbers-requires-clause-rising
matching-numbers-requires-clause-rising c =
    let hoard : IsWellHeld c.self.inside.config c.self.inside.receipts (Some c.in-Some.buckets) c.self.inside.records =
    subst (λ (b : Option Sequence). IsWellHeld c.self.inside.config c.self.inside.receipts b c.self.inside.records) c.in-Some.is c.self.invariant in
    buckets_rise c.self.inside.receipts.items c.new.result.receipts.now c.in-Some.buckets.items c.args.bucket c.new.result.bucket
    hoard.bucketed.arranged hoard.bucketed.rising (c.new.ensures.receipts ∙ c.items-items.ensures) c.new.ensures.bucket

pub new-requires-in-Some : goal.new-requires-in-Some
new-requires-in-Some c =
    let hoard : IsWellHeld c.self.inside.config c.self.inside.receipts (Some c.in-Some.buckets) c.self.inside.records =
    subst (λ (b : Option Sequence). IsWellHeld c.self.inside.config c.self.inside.receipts b c.self.inside.records) c.in-Some.is c.self.invariant in
    subst (λ (xs : List Receipt). All (λ n. n < length xs) c.matching-numbers.result) (sym c.items-items.ensures)
    (subst (All (λ n. n < length c.self.inside.receipts.items)) (sym c.matching-numbers.ensures)
    (filter_within
    (λ n. is_equal (compared_at (λ r. nat_cmp (bucket_of r) c.new.result.bucket) c.new.result.receipts.now n))
    (length c.self.inside.receipts.items) c.in-Some.buckets.items hoard.bucketed.arranged.within))

pub returns-in-Some : goal.returns-in-Some
returns-in-Some c =
    let hoard : IsWellHeld c.self.inside.config c.self.inside.receipts (Some c.in-Some.buckets) c.self.inside.records =
    subst (λ (b : Option Sequence). IsWellHeld c.self.inside.config c.self.inside.receipts b c.self.inside.records) c.in-Some.is c.self.invariant in
    let lent : c.items-items.result.now ≡ c.self.inside.receipts.items = c.items-items.ensures in
    let numbers : c.matching-numbers.result ≡ filter
    (λ n. is_equal (compared_at (λ r. nat_cmp (bucket_of r) c.args.bucket) c.self.inside.receipts.items n))
    c.in-Some.buckets.items =
    c.matching-numbers.ensures
    ∙ ap (λ (b : ℕ). filter (λ n. is_equal (compared_at (λ r. nat_cmp (bucket_of r) b) c.new.result.receipts.now n))
    c.in-Some.buckets.items) c.new.ensures.bucket
    ∙ ap (λ (xs : List Receipt). filter (λ n. is_equal (compared_at (λ r. nat_cmp (bucket_of r) c.args.bucket) xs n))
    c.in-Some.buckets.items) (c.new.ensures.receipts ∙ lent) in
    c.new-in-Some-2.ensures ∙ c.new-in-Some.ensures ∙ ap (λ xs. picked xs c.matching-numbers.result) lent ∙ ap (picked c.self.inside.receipts.items) numbers
    ∙ bucket_list c.self.inside.receipts c.in-Some.buckets.items c.args.bucket c.self.invariant.arranged
    hoard.bucketed.arranged c.self.invariant.rising hoard.bucketed.rising
    ∙ ap (λ (h : HeldReceipts). receipts_in c.args.bucket h.held) c.self.view_is

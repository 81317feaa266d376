-- If the next does not need it, or was visited before, all that need it were visited.
use Rattle.std.proofs.Common.{◌≡◌, ◌+◌, Some, length, rules, sym, ap, ◌∙◌, subst, refl}
use Rattle.std.specs.Prelude.{slice_get}
use Rattle.std.specs.Ordering.{is_lt}
use Rattle.std.proofs.lemmas.Bool.{both_ways}
use Rattle.std.proofs.lemmas.Option.{slice_get_read, slice_get_within}
use Rattle.std.proofs.lemmas.List.Sorted.{IsPartitionPoint-from_clause}
use Rattle.receipt_core.specs.Receipt.{Receipt, need_of, triple_cmp}
use Rattle.bundle_view.proofs.SearchFacts.{Gathers, gathers_none, gathers_more, gathers_all, parted}
use Rattle.bundle_view.proofs.steps.follow_offer.Goals as goal

pub receipts-init : goal.receipts-init
receipts-init c = gathers_none _ _ _ _ _ _ _ c.partition_point-place.ensures.bound c.requires.visits

pub receipts-preserved : goal.receipts-preserved
receipts-preserved c =
    let due = c.is_due.ensures.0 c.receipts-test.true in
    let here : slice_get c.args.waiting.now c.receipts.place ≡ Some c.receipt.result.now =
    slice_get_read c.args.waiting.now (length c.args.waiting.now) c.receipts.place c.index-waiting-place.result refl
    (slice_get_within c.args.waiting.now c.receipts.place due.receipt due.at) c.index-waiting-place.is
    ∙ ap (λ (r : Receipt). Some r) (sym c.receipt.ensures)
    in
    subst (Gathers c.args.waiting.now c.args.offer.now c.args.before c.args.chain_len c.args.visited.now
    c.args.steps.now.items c.partition_point-place.result (c.receipts.place + 1) c.visit.new.visited)
    (sym c.in_ok-push.ensures.items)
    (gathers_more _ _ _ _ _ _ _ _ _ _ c.receipts.invariant c.requires.early due c.receipt.result.now here
    c.visit.new.visited c.visit.ensures.flags c.visit.ensures.count)

pub returns : goal.returns
returns c =
    gathers_all _ _ _ _ _ _ _ _ _ _ c.receipts.invariant c.requires.sorted
    (IsPartitionPoint-from_clause (λ (r : Receipt). is_lt (triple_cmp (need_of r) c.args.offer.now)) c.args.waiting.now
    c.partition_point-place.result c.partition_point-place.ensures.partitioned
    (parted c.args.waiting.now c.args.offer.now c.requires.sorted) (λ a r f q. search rules))
    c.requires.visits (λ due. both_ways c.is_due.result c.receipts-test.false (c.is_due.ensures.1 due))

use Rattle.std.proofs.Common.{◌≡◌, ◌∙◌, true, false}
use Rattle.std.specs.Ordering.{is_lt}
use Rattle.receipt_core.specs.Receipt.{receipt_cmp}
use Rattle.receipt_core.specs.Order.{receipt_total}
use Rattle.snapshot_pieces.proofs.PlaceFacts.{found_behind, one_skipped, rising_rest, tested}
use Rattle.snapshot_pieces.proofs.places.first_behind.Goals as goal

pub returns-then-is_lt : goal.returns-then-is_lt
returns-then-is_lt c =
    let behind : is_lt (receipt_cmp c.args.last.now c.in-Some.receipt.now) ≡ true =
    tested c.cmp.result (receipt_cmp c.args.last.now c.in-Some.receipt.now) c.is_lt.result true c.cmp.ensures c.is_lt.ensures c.if-is_lt.true in
    record {
      lent = found_behind receipt_total c.args.last.now c.in-Some.receipt.now c.receipts.rest c.next.new.self c.args.rest
          c.receipts.invariant.rising c.in-Some.ensures.steps c.receipts.invariant.after behind;
      ends = λ e. absurd (cc);
    }

pub receipts-preserved : goal.receipts-preserved
receipts-preserved c =
    let before : is_lt (receipt_cmp c.args.last.now c.in-Some.receipt.now) ≡ false =
    tested c.cmp.result (receipt_cmp c.args.last.now c.in-Some.receipt.now) c.is_lt.result false c.cmp.ensures c.is_lt.ensures c.if-is_lt.false in
    record {
      rising = rising_rest receipt_cmp c.in-Some.receipt.now c.receipts.rest c.next.new.self c.in-Some.ensures.steps c.receipts.invariant.rising;
      after = one_skipped receipt_total c.args.last.now c.in-Some.receipt.now c.receipts.rest c.next.new.self c.in-Some.ensures.steps before
          ∙ c.receipts.invariant.after;
    }

-- Those so far are welcome, and places are counted for the others.
use Rattle.std.proofs.Common.{◌≡◌, ◌-◌, List, length, take}
use Rattle.std.specs.List.{AllByRecursion}
use Rattle.receipt_core.specs.declared.distrust.Distrust.{Distrust}
use Rattle.receipt_core.specs.Receipt.{IsReceipt, receipt_cmp}
use Rattle.receipt_core.specs.Rising.{with_items}
use Rattle.replica_core.specs.Absorbing.{AreWelcome, of_receipts}
use Rattle.replica_core.specs.Inside.FreePlaces.{HasPlaces}
use Rattle.replica_core.proofs.first_unwelcome.first_receipt.Given as goal
use Rattle.receipt_core.specs.Limits.{receipt_limit}

abbrev pub invariant-loop-receipt : goal.invariant-loop-receipt
invariant-loop-receipt g l =
    let m = (g.C.Closure.state l.closure).meaning in
    record {
      place : l.place ≡ l.receipt-index;
      front : l.before ≡ record { items = l.receipts; count = l.receipt-index };
      places : HasPlaces (receipt_limit m.config) (length (with_items receipt_cmp (take l.receipt-index l.receipts) m.held)) l.free
          (length l.receipts - l.receipt-index);
      welcome : (records : List Distrust) → AreWelcome (record m { records = records }) (of_receipts (take l.receipt-index l.receipts));
      forms : AllByRecursion IsReceipt (take l.receipt-index l.receipts);
    }

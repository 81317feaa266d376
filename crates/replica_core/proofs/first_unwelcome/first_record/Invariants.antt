-- Those so far are welcome, and places are counted for the others.
use Rattle.std.proofs.Common.{◌≡◌, ◌-◌, length, take}
use Rattle.receipt_core.specs.Receipt.{distrust_cmp}
use Rattle.receipt_core.specs.Rising.{with_items}
use Rattle.replica_core.specs.Absorbing.{AreWelcome, of_records}
use Rattle.replica_core.specs.Inside.FreePlaces.{HasPlaces}
use Rattle.replica_core.proofs.first_unwelcome.first_record.Given as goal
use Rattle.receipt_core.specs.Limits.{record_limit}

abbrev pub invariant-loop-record : goal.invariant-loop-record
invariant-loop-record g l =
    let m = (g.C.Closure.state l.closure).meaning in
    record {
      place : l.place ≡ l.record-index;
      front : l.before ≡ record { items = l.records; count = l.record-index };
      places : HasPlaces (record_limit m.config) (length (with_items distrust_cmp (take l.record-index l.records) m.records)) l.free
          (length l.records - l.record-index);
      welcome : AreWelcome m (of_records (take l.record-index l.records));
    }

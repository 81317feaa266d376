-- What was written, with the lines of the records still to come, is the text of all.
use Rattle.std.proofs.Common.{◌≡◌, ◌+◌, ◌++◌, length, map}
use Rattle.receipt_core.specs.Receipt.{distrust_line}
use Rattle.replica_texts.specs.Snapshots.{text_of_lines}
use Rattle.snapshot_pieces.proofs.lines.push_records.Given as goal

abbrev pub invariant-records : goal.invariant-records
invariant-records g l = record {
  text : l.text.items ++ text_of_lines (map distrust_line l.domain-iterator)
      ≡ l.initial.text.items ++ text_of_lines (map distrust_line l.initial.domain-iterator);
  count : l.count + length l.domain-iterator ≡ length l.initial.domain-iterator;
}

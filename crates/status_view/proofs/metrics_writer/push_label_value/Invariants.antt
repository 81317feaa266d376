use Rattle.std.proofs.Common.{◌≡◌, ◌++◌, drop, flat_map}
use Rattle.status_view.specs.StatusMetrics.{label_byte}
use Rattle.status_view.proofs.metrics_writer.push_label_value.Given as goal

abbrev pub invariant-loop-byte : goal.invariant-loop-byte
invariant-loop-byte l =
    l.out.items ++ flat_map label_byte (drop l.byte-index l.byte-items) ≡ l.initial.out.items ++ flat_map label_byte l.byte-items

-- What was written is a beginning of the bytes, and the sink is as sound as it was.
use Rattle.std.proofs.Common.{length, ◌-◌, ◌≡◌, ◌<◌, ◌≤◌, take, false}
use Rattle.std.specs.Io.KnownBytes.{Appends}
use Rattle.byte_lines.proofs.sink.write_all.Given as goal

abbrev pub invariant-pieces : goal.invariant-pieces
invariant-pieces g l = record {
  in_range : l.written ≤ length l.bytes;
  appended : Appends (g.W.Sink.contents l.initial.sink) (g.W.Sink.contents l.sink) (take l.written l.bytes);
  tried : 0 < l.written → g.W.Sink.has_failed l.initial.sink ≡ false;
  sound : g.W.Sink.has_failed l.sink ≡ g.W.Sink.has_failed l.initial.sink;
}

abbrev pub decreases-pieces : goal.decreases-pieces
decreases-pieces g l = length l.bytes - l.written

-- The haves so far were answered, nothing is due, and each took at least one byte.
use Rattle.std.proofs.Common.{◌≡◌, ◌+◌, ◌^◌, ◌<◌, ◌++◌, [], length, None}
use Rattle.std.specs.Io.KnownBytes.{prepend_known}
use Rattle.byte_lines.specs.Ahead.{ahead_of, chunk_room}
use Rattle.replica_sync.specs.Inside.Serving.{Served}
use Rattle.replica_sync.specs.ServedPieces.{due_give, fault_of_serving, kept_have, records_answered}
use Rattle.replica_sync.specs.declared.answer_records.AnswerRecords.TheVariants.{All}
use Rattle.replica_sync.proofs.serving.serve_one.Given as goal

abbrev pub invariant-pieces : goal.invariant-pieces
invariant-pieces g l = record {
  served : Served (g.C.Closure.state l.closure).meaning (g.R.Source.remaining l.fn.source)
      (prepend_known (kept_have l.serving ++ ahead_of l.ahead) (g.R.Source.remaining l.source))
      (g.W.Sink.contents l.fn.sink) (g.W.Sink.contents l.sink) l.count;
  sound : fault_of_serving l.serving ≡ None;
  idle : due_give l.serving ≡ [];
  records : records_answered l.serving ≡ All;
  room : 0 < chunk_room l.ahead;
  below : l.count + (length (ahead_of l.ahead) + g.R.Source.budget l.source) < 2 ^ 64;
  source : g.R.Source.has_failed l.source ≡ g.R.Source.has_failed l.fn.source;
  sink : g.W.Sink.has_failed l.sink ≡ g.W.Sink.has_failed l.fn.sink;
}

abbrev pub decreases-pieces : goal.decreases-pieces
decreases-pieces g l = length (ahead_of l.ahead) + g.R.Source.budget l.source

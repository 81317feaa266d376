-- A part of what was due is written, and nothing else changed.
use Rattle.std.proofs.Common.{◌≡◌}
use Rattle.bucket_sums.specs.Quiet.{fault_of_quiet}
use Rattle.bucket_sums.specs.Inside.QuietTurns.{GivesQuietly, bytes_owed, turns_left}
use Rattle.bucket_sums.proofs.quiet_session.give_due.Given as goal

abbrev pub invariant-pieces : goal.invariant-pieces
invariant-pieces g l = record {
  gives : GivesQuietly l.fn.session (g.W.Sink.contents l.fn.sink) (g.W.Sink.contents l.sink) l.session;
  turns : turns_left l.session ≡ turns_left l.fn.session;
  found : fault_of_quiet l.session ≡ fault_of_quiet l.fn.session;
  sink : g.W.Sink.has_failed l.sink ≡ g.W.Sink.has_failed l.fn.sink;
}

abbrev pub decreases-pieces : goal.decreases-pieces
decreases-pieces g l = bytes_owed l.session

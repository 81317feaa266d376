-- What is kept so far is the log of no polls of the relationships' domains so far.
use Rattle.std.proofs.Common.{◌≡◌, [], map, take}
use Rattle.poll_log.specs.Polling.{log_of}
use Rattle.poll_log.specs.Inside.Statuses.{kept_status}
use Rattle.poll_log.proofs.log.never_polled.Given as goal

abbrev pub invariant-loop-relationship : goal.invariant-loop-relationship
invariant-loop-relationship l = map kept_status l.statuses.items ≡ log_of (map (λ r. r.domain) (take l.relationship-index l.relationships)) []

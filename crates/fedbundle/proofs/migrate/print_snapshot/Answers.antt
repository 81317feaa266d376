use Rattle.std.proofs.Common.{◌||◌, ◌∙◌, ap}
use Rattle.fedbundle.proofs.DeviceFacts.{snapshot_fault}
use Rattle.fedbundle.proofs.migrate.print_snapshot.Goals as goal

pub returns-in-Err-clause-fault : goal.returns-in-Err-clause-fault
returns-in-Err-clause-fault g c =
    rw c.device_error.ensures (c.in-Err.ensures.fault ∙ ap (λ b. b || g.W.Sink.has_failed c.args.sink.now)
    (snapshot_fault (Unit {0}) (Unit {0}) c.in-Err.error))

use Rattle.std.proofs.Common.{subst}
use Rattle.std.proofs.lemmas.Result.{err_from_is_err_and}
use Rattle.fed_config.specs.Configuration.{Configuration}
use Rattle.replica_c_calls.specs.Opening.{RefusesSnapshotText}
use Rattle.replica_c_calls.proofs.MemoryFacts.{merge_refused}
use Rattle.replica_c_calls.proofs.snapshot_merging.merge_bytes.Goals as goal

pub returns-in_err-other : goal.returns-in_err-other
returns-in_err-other g c =
    let exit = err_from_is_err_and c.from_residual.result c.from_residual.ensures.1 in
    rw (exit.1, exit.2) (merge_refused (g.C.Closure.state c.args.closure.now) c.args.snapshot.now c.in_err-other.field-0.0
    (subst (λ (k : Configuration). RefusesSnapshotText k c.args.snapshot.now c.in_err-other.field-0.0) c.config.ensures.config c.in_err-other.ensures))

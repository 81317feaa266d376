use Rattle.std.proofs.Common.{ℕ, refl, rules}
use Rattle.std.specs.Prelude.{Some}
use Rattle.replica_texts.specs.Snapshots.{RefusesSnapshot}
use Rattle.replica_c_calls.proofs.MemoryFacts.{no_fault, snapshot_refused}
use Rattle.replica_c_calls.proofs.snapshot_merging.snapshot_of.Goals as goal

pub returns : goal.returns
returns g c =
    let refused : RefusesSnapshot c.args.config.now (Some c.args.snapshot.now) c.in-Err.why = search rules in
    snapshot_refused c.args.config.now c.args.snapshot.now c.in-Err.why (no_fault ℕ c.in-Err.why _ _ refl refl c.in-Err.ensures.fault) refused

use Rattle.replica_c_calls.proofs.MemoryFacts.{not_empty, opened}
use Rattle.replica_c_calls.proofs.opening.open_bytes.Goals as goal

pub returns : goal.returns
returns g c =
    opened (λ t. (g.C.Closure.state t).meaning) c.args.config.now c.args.snapshot.now c.in_ok-config.config c.snapshot_of.result c.in_ok-config.ensures
    (not_empty _ _ c.is_empty.ensures c.if-is_empty.false) c.snapshot_of.ensures

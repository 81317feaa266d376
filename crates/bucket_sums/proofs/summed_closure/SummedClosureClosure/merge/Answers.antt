use Rattle.replica_core.specs.Session.{state_of}
use Rattle.bucket_sums.proofs.GrownFacts.{merges_grown}
use Rattle.bucket_sums.proofs.KeptFacts.{kept_grown}
use Rattle.bucket_sums.proofs.summed_closure.SummedClosureClosure.merge.Goals as goal

pub invariant_of-self : goal.invariant_of-self
invariant_of-self g c =
    let old = g.C.Closure.state c.self.inside.closure in
    let new = g.C.Closure.state c.merge.new.self in
    kept_grown c.self.inside.kept (state_of old.meaning) (state_of new.meaning) c.self.invariant
    (merges_grown old new (g.C.Closure.state c.other.inside.closure).meaning c.merge.result c.merge.ensures)

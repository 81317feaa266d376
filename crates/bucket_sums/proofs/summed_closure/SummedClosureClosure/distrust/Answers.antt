use Rattle.replica_core.specs.Session.{state_of}
use Rattle.bucket_sums.proofs.GrownFacts.{distrusts_grown}
use Rattle.bucket_sums.proofs.KeptFacts.{kept_grown}
use Rattle.bucket_sums.proofs.summed_closure.SummedClosureClosure.distrust.Goals as goal

pub invariant_of-self : goal.invariant_of-self
invariant_of-self g c =
    let old = (g.C.Closure.state c.self.inside.closure).meaning in
    let new = (g.C.Closure.state c.distrust.new.self).meaning in
    kept_grown c.self.inside.kept (state_of old) (state_of new) c.self.invariant
    (distrusts_grown old new _ c.distrust.result c.distrust.ensures.meaning)

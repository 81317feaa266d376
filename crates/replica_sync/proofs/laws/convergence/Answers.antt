use Rattle.std.proofs.Common.{refl, ap}
use Rattle.closure_core.specs.Alike.{AreAlike}
use Rattle.replica_core.specs.State.{State}
use Rattle.replica_core.specs.World.{followed_by, meant_by}
use Rattle.replica_sync.proofs.laws.convergence.Goals as goal

pub returns : goal.returns
returns c = record {
  same_snapshots = λ past since i j events l n settles.
      let held = c.agreement.ensures.agreed past since i j events l n settles in
      let then = followed_by past since in
      let alike : AreAlike (meant_by then i) (meant_by then j) = record {
        trust = record { relationships = refl; seeds = refl; floors = refl };
        held = ap (λ (s : State). s.held) held;
        records = ap (λ (s : State). s.records) held;
      } in
      let same = c.snapshots.ensures.same in
      search (same, alike);
}

use Rattle.std.proofs.Common.{refl, ap}
use Rattle.replica_core.specs.State.{State}
use Rattle.replica_core.specs.World.{followed_by, meant_by}
use Rattle.fedbundle.proofs.laws.settled_reports.Goals as goal

pub returns : goal.returns
returns c past since i j s t events here there settles one other =
    let held = c.agreement.ensures.agreed past since i j events here there settles in
    let then = followed_by past since in
    c.one_view.ensures.report (meant_by then i) (meant_by then j) s t (record {
      trust = record { relationships = refl; seeds = refl; floors = refl };
      held = ap (λ (s : State). s.held) held;
      records = ap (λ (s : State). s.records) held;
    }) one other

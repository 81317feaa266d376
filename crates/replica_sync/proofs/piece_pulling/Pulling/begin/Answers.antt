use Rattle.std.proofs.Common.{◌∙◌, refl, true}
use Rattle.replica_sync.specs.Plans.{answered_of, plan_of}
use Rattle.replica_sync.proofs.PullStepFacts.{begun_pieces, next_at, over_asks}
use Rattle.replica_sync.proofs.piece_pulling.Pulling.begin.Goals as goal

pub returns-clause-ok : goal.returns-clause-ok
returns-clause-ok g c =
    let plan = c.args.plan in
    let lines = c.wait_for.new.self in
    let next = next_at c.next.result (plan_of plan) (answered_of plan) lines c.next.ensures c.wait_for.ensures.at in
    record {
      plan_is = refl;
      pulls = begun_pieces (plan_of plan) (answered_of plan) c.new-lines.result lines (g.C.Closure.state c.args.closure.now).meaning _
          c.in_ok-have.have.items c.requires c.new.ensures.empty c.new-lines.ensures c.wait_for.ensures.counts next c.in_ok-have.ensures;
      taken = c.wait_for.ensures.counts.taken ∙ c.new-lines.ensures.taken;
      idle = λ stopped. absurd (stopped refl);
      ended = λ over. over_asks true (g.C.Closure.state c.args.closure.now).meaning lines c.in_ok-have.have.items c.in_ok-have.ensures over;
    }

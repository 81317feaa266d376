use Rattle.replica_sync.specs.Plans.{answered_of, plan_of}
use Rattle.replica_sync.proofs.PullStepFacts.{next_at}
use Rattle.replica_sync.proofs.piece_pulling.Pulling.move_on.Goals as goal

pub returns-clause-next : goal.returns-clause-next
returns-clause-next c =
    let plan = c.pass.new.self in
    next_at c.next.result (plan_of plan) (answered_of plan) c.wait_for.new.self c.next.ensures c.wait_for.ensures.at

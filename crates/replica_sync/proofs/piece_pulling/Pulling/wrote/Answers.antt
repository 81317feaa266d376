use Rattle.std.proofs.Common.{sym, drop-drop}
use Rattle.replica_sync.specs.PullSessions.{due_have}
use Rattle.replica_sync.proofs.PullStepFacts.{none_left, wrote_have}
use Rattle.replica_sync.proofs.piece_pulling.Pulling.wrote.Goals as goal

pub returns-else-self-len-clause-pulls : goal.returns-else-self-len-clause-pulls
returns-else-self-len-clause-pulls c plan start came written h =
    let self = c.args.self.now in
    let later = sym (drop-drop c.args.count self.written self.have.items) in
    record {
      plan_is = h.plan_is;
      pulls = wrote_have plan self.fault self.plan.answered self.lines start came _ written (due_have self) _ c.args.count later h.pulls;
      taken = h.taken;
      idle = λ stopped. none_left (due_have self) _ c.args.count later (h.idle stopped);
      ended = λ over. none_left (due_have self) _ c.args.count later (h.ended over);
    }

use Rattle.replica_sync.specs.PullSessions.{kept_answer}
use Rattle.replica_sync.proofs.PullLawFacts.{cut_pulls, over_pulls, stopped_pulls}
use Rattle.replica_sync.proofs.ServedPieceFacts.{kept_plain}
use Rattle.replica_sync.proofs.laws.pulled_pieces.Goals as goal

pub returns-clause-all : goal.returns-clause-all
returns-clause-all c p m held came written h alone sound over idle =
    over_pulls p.fault p.plan.answered p.lines m held came (kept_answer p) written _ _ sound over idle h.taken h.pulls alone

pub returns-clause-cut : goal.returns-clause-cut
returns-clause-cut c p m held came written h alone sound more idle =
    cut_pulls p.fault p.plan.answered p.lines m held came (kept_answer p) written _ _ sound more idle h.taken p.lines.some
    (kept_plain p.part.has_ended p.part.line.items p.part.unbroken) h.pulls alone

pub returns-clause-stopped : goal.returns-clause-stopped
returns-clause-stopped c p m held came written more after e h alone stopped =
    stopped_pulls p.fault p.plan.answered p.lines m held came (kept_answer p) written _ more after _ e stopped h.idle h.taken h.pulls alone

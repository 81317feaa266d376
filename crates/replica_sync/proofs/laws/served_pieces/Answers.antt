use Rattle.replica_sync.specs.ServedPieces.{kept_have}
use Rattle.replica_sync.proofs.ServeLawFacts.{serves_cut, serves_stopped, serves_whole}
use Rattle.replica_sync.proofs.ServedPieceFacts.{kept_plain}
use Rattle.replica_sync.proofs.laws.served_pieces.Goals as goal

pub returns-clause-all : goal.returns-clause-all
returns-clause-all c s m came written h still sound none idle = serves_whole s.fault m came (kept_have s) written _ sound none idle h still

pub returns-clause-cut : goal.returns-clause-cut
returns-clause-cut c s m came written h still sound more idle =
    serves_cut s.fault m came (kept_have s) written _ sound more idle (kept_plain s.part.has_ended s.part.line.items s.part.unbroken) h still

pub returns-clause-stopped : goal.returns-clause-stopped
returns-clause-stopped c s m came written more after e h still stopped idle =
    serves_stopped s.fault m came (kept_have s) written _ more after e stopped idle h still

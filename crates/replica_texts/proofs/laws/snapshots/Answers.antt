use Rattle.replica_texts.proofs.OneFacts.{one_set, snapshot_alike}
use Rattle.replica_texts.proofs.ApartFacts.{not_refused}
use Rattle.replica_texts.proofs.SnapshotFaultFacts.{one-snapshot-cause}
use Rattle.replica_texts.proofs.laws.snapshots.Goals as goal

pub returns-clause-same : goal.returns-clause-same
returns-clause-same c = snapshot_alike

pub returns-clause-one : goal.returns-clause-one
returns-clause-one c = one_set

pub returns-clause-read : goal.returns-clause-read
returns-clause-read c = not_refused

pub returns-clause-one_cause : goal.returns-clause-one_cause
returns-clause-one_cause c = one-snapshot-cause

use Rattle.replica_sync.proofs.SessionFacts.{pulled-once, pulled-or-not, served-once, served-or-not, taken-or-not}
use Rattle.replica_sync.proofs.laws.sessions.Goals as goal

pub returns-clause-served : goal.returns-clause-served
returns-clause-served c = served-or-not

pub returns-clause-served_once : goal.returns-clause-served_once
returns-clause-served_once c = served-once

pub returns-clause-pulled : goal.returns-clause-pulled
returns-clause-pulled c = pulled-or-not

pub returns-clause-pulled_once : goal.returns-clause-pulled_once
returns-clause-pulled_once c = pulled-once

pub returns-clause-taken : goal.returns-clause-taken
returns-clause-taken c = taken-or-not

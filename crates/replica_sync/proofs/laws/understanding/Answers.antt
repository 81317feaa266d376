use Rattle.replica_sync.proofs.OwnMessageFacts.{answer-given, askable-have}
use Rattle.replica_sync.proofs.UnderstandingFacts.{answered-pulled, answered-taken, pull-served}
use Rattle.replica_sync.proofs.BringsFacts.{all-brought, both-held}
use Rattle.replica_sync.proofs.laws.understanding.Goals as goal

pub returns-clause-asks : goal.returns-clause-asks
returns-clause-asks c = askable-have

pub returns-clause-answers : goal.returns-clause-answers
returns-clause-answers c = answer-given

pub returns-clause-served : goal.returns-clause-served
returns-clause-served c = pull-served

pub returns-clause-pulled : goal.returns-clause-pulled
returns-clause-pulled c = answered-pulled

pub returns-clause-taken : goal.returns-clause-taken
returns-clause-taken c = answered-taken

pub returns-clause-brings : goal.returns-clause-brings
returns-clause-brings c m k held asked replied rest count bucket valid other kept same all pulls =
    all-brought m k held asked replied rest count valid other kept same all pulls bucket

pub returns-clause-joins : goal.returns-clause-joins
returns-clause-joins c = both-held

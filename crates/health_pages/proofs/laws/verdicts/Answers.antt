use Rattle.health_pages.proofs.VerdictFacts.{joined_pieces, kept_verdict, one_verdict, whole_verdict}
use Rattle.health_pages.proofs.laws.verdicts.Goals as goal

pub returns-clause-joined : goal.returns-clause-joined
returns-clause-joined c = joined_pieces

pub returns-clause-kept : goal.returns-clause-kept
returns-clause-kept c = kept_verdict

pub returns-clause-one : goal.returns-clause-one
returns-clause-one c = one_verdict

pub returns-clause-whole : goal.returns-clause-whole
returns-clause-whole c = whole_verdict

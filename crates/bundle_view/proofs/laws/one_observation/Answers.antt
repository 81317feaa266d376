use Rattle.bundle_view.proofs.ObservationLawFacts.{one_receipt, one_cause, refused_or_observed}
use Rattle.bundle_view.proofs.laws.one_observation.Goals as goal

pub returns-clause-receipt : goal.returns-clause-receipt
returns-clause-receipt c call r s p q = one_receipt call.meaning call.fetched call.documents call.form call.list r s p q

pub returns-clause-cause : goal.returns-clause-cause
returns-clause-cause c call d e p q n k = one_cause call.meaning call.fetched call.documents call.form call.list d e p q n k

pub returns-clause-store : goal.returns-clause-store
returns-clause-store c call r e is h n k = refused_or_observed call.meaning call.fetched call.documents call.form call.list r e is h n k

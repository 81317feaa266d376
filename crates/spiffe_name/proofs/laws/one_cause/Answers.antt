use Rattle.spiffe_name.proofs.FaultFacts.{one_domain_error}
use Rattle.spiffe_name.proofs.IdFacts.{one_id_error}
use Rattle.spiffe_name.proofs.laws.one_cause.Goals as goal

pub returns-clause-domain : goal.returns-clause-domain
returns-clause-domain c = one_domain_error

pub returns-clause-id : goal.returns-clause-id
returns-clause-id c = one_id_error

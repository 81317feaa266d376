use Rattle.spiffe_name.proofs.IdFacts.{one_value}
use Rattle.spiffe_name.proofs.laws.one_reading.Goals as goal

pub returns : goal.returns
returns c = one_value

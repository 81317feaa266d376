use Rattle.receipt_core.proofs.ChainFacts.{accepted_end}
use Rattle.receipt_core.proofs.laws.chains.Goals as goal

pub returns : goal.returns
returns c = accepted_end

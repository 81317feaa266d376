use Rattle.receipt_core.proofs.VouchingFacts.{Vouches-by_offers}
use Rattle.receipt_core.proofs.laws.vouching.Goals as goal

pub returns : goal.returns
returns c = Vouches-by_offers

use Rattle.fedbundle.proofs.LineErrorOrderFacts.{too_many_for_all}
use Rattle.fedbundle.proofs.laws.too_many.Goals as goal

pub returns : goal.returns
returns c = too_many_for_all

use Rattle.closure_core.proofs.AlikeFacts.{chain_alike, fits_alike, one_digest}
use Rattle.closure_core.proofs.laws.same_trust.Goals as goal

pub returns-clause-digest : goal.returns-clause-digest
returns-clause-digest c = one_digest

pub returns-clause-fitting : goal.returns-clause-fitting
returns-clause-fitting c b d r same fits = fits_alike b d same r fits

pub returns-clause-chains : goal.returns-clause-chains
returns-clause-chains c b d records chain same is = chain_alike b d same records chain is

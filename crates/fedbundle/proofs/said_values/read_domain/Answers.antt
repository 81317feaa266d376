use Rattle.std.proofs.Common.{refl}
use Rattle.fedbundle.proofs.said_values.read_domain.Goals as goal

pub returns-in-Err-clause-refused : goal.returns-in-Err-clause-refused
returns-in-Err-clause-refused c = (c.in-Err.error, refl, c.in-Err.ensures.answer)

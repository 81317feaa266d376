use Rattle.std.proofs.Common.{refl}
use Rattle.fedbundle.proofs.said_values.read_endpoint.Goals as goal

pub returns-in-Err-clause-refused : goal.returns-in-Err-clause-refused
returns-in-Err-clause-refused c = (c.in-Err.why, refl, c.in-Err.ensures.answer)

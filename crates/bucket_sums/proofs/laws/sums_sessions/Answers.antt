use Rattle.bucket_sums.proofs.SessionFacts.{both-held}
use Rattle.bucket_sums.proofs.laws.sums_sessions.Goals as goal

pub returns : goal.returns
returns c = both-held

use Rattle.bucket_sums.proofs.QuietLawFacts.{listed_joins}
use Rattle.bucket_sums.proofs.laws.quiet_sessions.Goals as goal

pub returns : goal.returns
returns c = listed_joins

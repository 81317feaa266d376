use Rattle.bucket_sums.proofs.QuietLawFacts.{asked_below, asked_few}
use Rattle.bucket_sums.proofs.laws.asked_buckets.Goals as goal

pub returns-clause-few : goal.returns-clause-few
returns-clause-few c = asked_few

pub returns-clause-each : goal.returns-clause-each
returns-clause-each c = asked_below

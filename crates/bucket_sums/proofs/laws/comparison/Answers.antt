use Rattle.bucket_sums.proofs.LawFacts.{ids_apart, same_ids, same_records}
use Rattle.bucket_sums.proofs.laws.comparison.Goals as goal

pub returns-clause-ids : goal.returns-clause-ids
returns-clause-ids c = same_ids

pub returns-clause-records : goal.returns-clause-records
returns-clause-records c = same_records

pub returns-clause-apart : goal.returns-clause-apart
returns-clause-apart c = ids_apart

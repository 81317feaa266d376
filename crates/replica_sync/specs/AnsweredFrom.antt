-- Which records of distrust the answers have.
use Rattle.std.specs.Prelude.{List, []}
use Rattle.receipt_core.specs.Acceptance.{Meaning}
use Rattle.receipt_core.specs.declared.distrust.Distrust.{Distrust}
use Rattle.replica_sync.specs.declared.answer_records.AnswerRecords.{AnswerRecords}
use Rattle.replica_sync.specs.declared.answer_records.AnswerRecords.TheVariants.{All, LeftOut}

abbrev pub kept_records : AnswerRecords → List Distrust → List Distrust
kept_records All records = records
kept_records LeftOut records = []

-- what is held, with these records
abbrev pub answered_from : AnswerRecords → Meaning → Meaning
answered_from records m = record m { records = kept_records records m.records }

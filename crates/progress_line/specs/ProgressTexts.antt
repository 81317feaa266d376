-- What long work prints of itself, and when.
use Rattle.std.specs.Prelude.{◌≡◌, ◌<◌, ◌≤◌, ◌++◌, ◌/◌, ℕ, List, Option, None, Some, codes, decimal}
use Rattle.std.specs.Prelude.{string_bytes}
use Rattle.progress_line.specs.declared.long_work.LongWork.{LongWork}
use Rattle.progress_line.specs.declared.long_work.LongWork.TheVariants.{ReadingState}
use Rattle.progress_line.specs.declared.long_work.LongWork.TheVariants.{ReadingOtherState}
use Rattle.progress_line.specs.declared.long_work.LongWork.TheVariants.{WritingState}
use Rattle.progress_line.specs.declared.long_work.LongWork.TheVariants.{WritingMigratedState}
use Rattle.progress_line.specs.declared.long_work.LongWork.TheVariants.{Pulling, Serving}
use Rattle.progress_line.specs.declared.work_count.WorkCount.{WorkCount}

-- what the work is called
abbrev pub work_text : LongWork → List ℕ
work_text ReadingState = codes "reading the state"
work_text ReadingOtherState = codes "reading the other state"
work_text WritingState = codes "writing the state"
work_text WritingMigratedState = codes "writing the migrated state"
work_text Pulling = codes "pulling"
work_text Serving = codes "serving"

-- how many receipts there are so far
unfoldable pub receipts_text : ℕ → List ℕ
receipts_text receipts = decimal receipts ++ codes " receipts, "

-- how many whole megabytes, with the line feed
unfoldable pub megabytes_text : ℕ → List ℕ
megabytes_text bytes = decimal (bytes / 1000000) ++ codes " MB so far\n"

unfoldable pub progress_text : LongWork → ℕ → ℕ → List ℕ
progress_text work receipts bytes = codes "fedbundle: "
    ++ (work_text work ++ (codes ": " ++ (receipts_text receipts ++ megabytes_text bytes)))

-- Why records are not taken, of the causes for which an answer is not.
use Rattle.replica_core.specs.declared.error.SyncError.{SyncError}
use Rattle.replica_core.specs.declared.error.SyncError.TheVariants as answer
use Rattle.command_exits.specs.declared.error.CommandError.{CommandError}
use Rattle.command_exits.specs.declared.error.CommandError.TheVariants.{NoMemory, Take}

-- A record is refused for its cause, and anything else is a lack of memory.
abbrev pub records_refusal : SyncError → CommandError
records_refusal (answer.Refused number why) = Take why
records_refusal why = NoMemory

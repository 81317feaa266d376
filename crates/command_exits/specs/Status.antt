-- The exit status of each refusal.
use Rattle.std.specs.Prelude.{ℕ}
use Rattle.spiffe_name.specs.declared.error.NameError.TheVariants.{NoMemory as NoMemoryForName}
use Rattle.bundle_doc.specs.declared.error.DocError.TheVariants.{NoMemory as NoMemoryForDocument}
use Rattle.fed_config.specs.declared.error.ConfigError.TheVariants.{NoMemory as NoMemoryForConfig}
use Rattle.closure_core.specs.declared.error.TakeError.TheVariants.{NoMemory as NoMemoryToTake}
use Rattle.bundle_view.specs.declared.observe_error.ObserveError.TheVariants.{Take as TakeFailed}
use Rattle.bundle_view.specs.declared.observe_error.ObserveError.TheVariants.{Document as NotRead}
use Rattle.poll_log.specs.declared.error.PollError.TheVariants.{NoMemory as NoMemoryToPoll}
use Rattle.poll_log.specs.declared.error.PollError.TheVariants.{Io as PollIo}
use Rattle.replica_core.specs.declared.error.SyncError.{SyncError}
use Rattle.replica_core.specs.declared.error.SyncError.TheVariants.{NoMemory as NoMemoryToSync}
use Rattle.replica_core.specs.declared.error.SyncError.TheVariants.{Io as SyncIo, Refused}
use Rattle.command_exits.specs.declared.error.CommandError.{CommandError}
use Rattle.command_exits.specs.declared.error.CommandError.TheVariants.{Name, Document, Config}
use Rattle.command_exits.specs.declared.error.CommandError.TheVariants.{Take}
use Rattle.command_exits.specs.declared.error.CommandError.TheVariants.{Observe, Poll, Sync, Pull}
use Rattle.command_exits.specs.declared.error.CommandError.TheVariants.{Full}
use Rattle.command_exits.specs.declared.error.CommandError.TheVariants.{Journal}
use Rattle.command_exits.specs.declared.error.CommandError.TheVariants.{NoMemory, Io}

abbrev pub status_of_sync : SyncError → ℕ
status_of_sync (Refused line NoMemoryToTake) = 4
status_of_sync NoMemoryToSync = 4
status_of_sync SyncIo = 3
status_of_sync e = 1

-- 4 for out of memory of any kind, 3 for a failed device, else 1
abbrev pub status_of : CommandError → ℕ
status_of (Name NoMemoryForName) = 4
status_of (Name e) = 1
status_of (Document NoMemoryForDocument) = 4
status_of (Document e) = 1
status_of (Config NoMemoryForConfig) = 4
status_of (Config e) = 1
status_of (Take NoMemoryToTake) = 4
status_of (Take e) = 1
status_of (Observe (NotRead NoMemoryForDocument)) = 4
status_of (Observe (TakeFailed NoMemoryToTake)) = 4
status_of (Observe e) = 1
status_of (Poll NoMemoryToPoll) = 4
status_of (Poll PollIo) = 3
status_of (Poll e) = 1
status_of (Sync why) = status_of_sync why
status_of (Journal why) = status_of_sync why
status_of (Pull fault) = status_of_sync fault.why
status_of Full = 1
status_of NoMemory = 4
status_of Io = 3

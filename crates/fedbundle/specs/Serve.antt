-- What a run of `serve` does in one session.
use Rattle.std.specs.Prelude.{◌≡◌, ℕ, ◌⊎◌, List, codes, Result, Ok, Err}
use Rattle.receipt_core.specs.Acceptance.{Meaning}
use Rattle.replica_sync.specs.SessionRun.{session_run}
use Rattle.replica_sync.specs.Serving.{Serves}
use Rattle.replica_core.specs.declared.error.SyncError.{SyncError}
use Rattle.replica_core.specs.declared.error.SyncError.TheVariants.{Io as StreamFailed}
use Rattle.fedbundle.specs.CommandRun.{CommandRun}
use Rattle.command_exits.specs.DeviceRuns.{HasFailed}
use Rattle.fedbundle.specs.Counts.{counted}
use Rattle.command_exits.specs.declared.error.CommandError.{CommandError}
use Rattle.command_exits.specs.declared.error.CommandError.TheVariants.{Sync}

abbrev pub served_text : ℕ → List ℕ
served_text n = counted (codes "served ") n

-- The haves of the source are answered on the sink, as `serve_one` says by cases on how the
-- session ended.
abbrev pub HasServed : CommandRun → Meaning → Result ℕ SyncError → Type 0
HasServed run m ended = Serves
    (session_run run.source.before run.sink.before run.sink.after) m ended

-- By the answer: every have is answered, and this is their number; or those before this error.
-- There is no other error.
abbrev pub RunsServe : CommandRun → Meaning → Result ℕ CommandError → Type 0
RunsServe run m (Ok count) = HasServed run m (Ok count)
RunsServe run m (Err (Sync why)) = HasServed run m (Err why)
    × (why ≡ StreamFailed → HasFailed run.source ⊎ HasFailed run.sink)
RunsServe run m (Err _) = ⊥

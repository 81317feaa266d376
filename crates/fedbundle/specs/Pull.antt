-- What a run of `pull` does. `peer` is the sink on which the other replica is asked, and the source
-- of the run has its answers.
use Rattle.std.specs.Prelude.{◌≡◌, ℕ, ◌⊎◌, Result, Ok, Err}
use Rattle.replica_core.specs.declared.error.SyncError.TheVariants.{Io as StreamFailed}
use Rattle.replica_sync.specs.SessionRun.{session_run}
use Rattle.replica_sync.specs.Pulling.{Pulls}
use Rattle.replica_core.specs.declared.error.PullFault.{PullFault}
use Rattle.fedbundle.specs.CommandRun.{CommandRun, StateRun, PrintsText, WritesNothing}
use Rattle.command_exits.specs.DeviceRuns.{DeviceRun}
use Rattle.fedbundle.specs.CommandRun.{CutsOff}
use Rattle.command_exits.specs.DeviceRuns.{HasFailed}
use Rattle.fedbundle.specs.Merge.{count_text}
use Rattle.command_exits.specs.declared.error.CommandError.{CommandError}
use Rattle.command_exits.specs.declared.error.CommandError.TheVariants.{Pull, Io}

-- What the answers have is held, as the call of `pull` says by cases on how the session ended.
abbrev pub HasPulled : CommandRun → DeviceRun → StateRun → Result ℕ PullFault → Type 0
HasPulled run peer state ended = Pulls
    (session_run run.source.before peer.before peer.after) state.old.meaning state.new.meaning ended

-- All buckets were asked about, and how many receipts were not held was written and nothing else.
pub record PrintsPull (run : CommandRun) (peer : DeviceRun) (state : StateRun) : Type 0 where
  pub count : ℕ
  pub pulls : HasPulled run peer state (Ok count)
  pub written : PrintsText run.sink (count_text count)

-- All were, and the sink failed after a beginning of the number's line.
pub record CutsPull (run : CommandRun) (peer : DeviceRun) (state : StateRun) : Type 0 where
  pub count : ℕ
  pub pulls : HasPulled run peer state (Ok count)
  pub cut : CutsOff run.sink (count_text count)

-- What the answers before this error have is held, and nothing was written.
pub record PullsBefore (run : CommandRun) (peer : DeviceRun) (state : StateRun)
    (fault : PullFault) : Type 0 where
  pub pulls : HasPulled run peer state (Err fault)
  pub failed : fault.why ≡ StreamFailed → HasFailed run.source ⊎ HasFailed peer
  pub unwritten : WritesNothing run.sink

-- By the answer: all answers are taken, and the number was written; the sink failed after that; the
-- session ended at an error. There is no other error.
abbrev pub RunsPull : CommandRun → DeviceRun → StateRun → Result (Unit {0}) CommandError → Type 0
RunsPull run peer state (Ok _) = PrintsPull run peer state
RunsPull run peer state (Err Io) = CutsPull run peer state
RunsPull run peer state (Err (Pull fault)) = PullsBefore run peer state fault
RunsPull run peer state (Err _) = ⊥

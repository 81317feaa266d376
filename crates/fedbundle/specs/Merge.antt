-- What a run of `merge` does.
use Rattle.std.specs.Prelude.{◌≡◌, ℕ, List, codes, Result, Ok, Err}
use Rattle.receipt_core.specs.Acceptance.{Meaning}
use Rattle.closure_core.specs.Changes.{HasMerged, HasRefusedMerge}
use Rattle.closure_core.specs.declared.error.TakeError.{TakeError}
use Rattle.replica_texts.specs.Snapshots.{IsSnapshot, RefusesSnapshot}
use Rattle.replica_core.specs.declared.error.SyncError.{SyncError}
use Rattle.replica_core.specs.declared.error.SyncError.TheVariants.{Io as StreamFailed}
use Rattle.fedbundle.specs.CommandRun.{CommandRun, StateRun, IsReadOut, PrintsText, WritesNothing}
use Rattle.fedbundle.specs.CommandRun.{CutsOff}
use Rattle.command_exits.specs.DeviceRuns.{DeviceRun, HasFailed}
use Rattle.fedbundle.specs.Counts.{counted}
use Rattle.command_exits.specs.declared.error.CommandError.{CommandError}
use Rattle.command_exits.specs.declared.error.CommandError.TheVariants.{Sync, Take, Io}

abbrev pub count_text : ℕ → List ℕ
count_text n = counted (codes "new ") n

-- The stream is a snapshot, and what is held has become the union with what it holds; n receipts
-- were not held.
pub record Joins (run : CommandRun) (state : StateRun) (n : ℕ) : Type 0 where
  pub other : Meaning
  pub is : IsSnapshot state.old.meaning.config run.source.before other
  pub merged : HasMerged state.old.meaning other state.new.meaning n

-- That was done, and the number was written and nothing else.
pub record PrintsMerge (run : CommandRun) (state : StateRun) : Type 0 where
  pub count : ℕ
  pub joins : Joins run state count
  pub read : IsReadOut run.source
  pub written : PrintsText run.sink (count_text count)

-- That was done, and the sink failed after a beginning of the number's line.
pub record CutsMerge (run : CommandRun) (state : StateRun) : Type 0 where
  pub count : ℕ
  pub joins : Joins run state count
  pub cut : CutsOff run.sink (count_text count)

-- The stream is not a snapshot of this configuration, for this cause, and nothing has changed.
pub record RefusesStream (run : CommandRun) (state : StateRun) (why : SyncError) : Type 0 where
  pub cause : RefusesSnapshot state.old.meaning.config run.source.before why
  pub fault : why ≡ StreamFailed → HasFailed run.source
  pub unchanged : state.new ≡ state.old
  pub unwritten : WritesNothing run.sink

-- It is one, and what it holds is not taken, for this cause.
pub record RefusesOther (run : CommandRun) (state : StateRun) (why : TakeError) : Type 0 where
  pub other : Meaning
  pub snapshot : IsSnapshot state.old.meaning.config run.source.before other
  pub refused : HasRefusedMerge state.old other state.new why
  pub unwritten : WritesNothing run.sink

-- By the answer: all that the snapshot holds is held, and the number was written; the sink failed
-- after that; the stream is not a snapshot; what it holds is not taken. There is no other error.
abbrev pub RunsMerge : CommandRun → StateRun → Result (Unit {0}) CommandError → Type 0
RunsMerge run state (Ok _) = PrintsMerge run state
RunsMerge run state (Err Io) = CutsMerge run state
RunsMerge run state (Err (Sync why)) = RefusesStream run state why
RunsMerge run state (Err (Take why)) = RefusesOther run state why
RunsMerge run state (Err _) = ⊥

-- ---- what another closure holds, taken

-- What both hold is held, and how many of the receipts were not was written and nothing else.
pub record PrintsJoin (other : Meaning) (sink : DeviceRun) (state : StateRun) : Type 0 where
  pub count : ℕ
  pub merged : HasMerged state.old.meaning other state.new.meaning count
  pub written : PrintsText sink (count_text count)

-- What both hold is held, and the sink failed after a beginning of the number's line.
pub record CutsJoin (other : Meaning) (sink : DeviceRun) (state : StateRun) : Type 0 where
  pub count : ℕ
  pub merged : HasMerged state.old.meaning other state.new.meaning count
  pub cut : CutsOff sink (count_text count)

-- Nothing is taken, for this cause, and nothing was written.
pub record RefusesJoin (other : Meaning) (sink : DeviceRun) (state : StateRun)
    (why : TakeError) : Type 0 where
  pub refused : HasRefusedMerge state.old other state.new why
  pub unwritten : WritesNothing sink

-- by the answer, one of these; there is no other error
abbrev pub TakesOther : Meaning → DeviceRun → StateRun → Result (Unit {0}) CommandError → Type 0
TakesOther other sink state (Ok _) = PrintsJoin other sink state
TakesOther other sink state (Err Io) = CutsJoin other sink state
TakesOther other sink state (Err (Take why)) = RefusesJoin other sink state why
TakesOther other sink state (Err _) = ⊥

-- What a run of `observe` does.
use Rattle.std.specs.Prelude.{◌≡◌, ℕ, ◌⊎◌, List, Result, Ok, Err}
use Rattle.receipt_core.specs.Receipt.{Receipt}
use Rattle.receipt_core.specs.Acceptance.{Meaning}
use Rattle.bundle_view.specs.Observe.{FetchedBundle, HasObserved, HasNotObserved, IsObservation}
use Rattle.bundle_view.specs.Observe.{RefusesObservation}
use Rattle.bundle_view.specs.declared.observation.Verdict.{Verdict}
use Rattle.bundle_view.specs.declared.observe_error.ObserveError.{ObserveError}
use Rattle.fedbundle.specs.CommandRun.{CommandRun, StateRun, Reads, PrintsText}
use Rattle.command_exits.specs.DeviceRuns.{DeviceRun}
use Rattle.fedbundle.specs.CommandRun.{CutsOff, FailsToRead, WritesNothing}
use Rattle.command_exits.specs.DeviceRuns.{HasFailed}
use Rattle.fedbundle.specs.Explain.{receipt_line}
use Rattle.command_exits.specs.declared.error.CommandError.{CommandError}
use Rattle.command_exits.specs.declared.error.CommandError.TheVariants.{Observe, NoMemory, Io}

-- whose bundle was fetched, and what TLS says of the endpoint that served it
pub record Fetched : Type 0 where
  pub domain : List ℕ
  pub verdict : Verdict

abbrev pub fetched_bundle : Fetched → List ℕ → FetchedBundle
fetched_bundle fetched bytes =
    record { domain = fetched.domain; bytes = bytes; verdict = fetched.verdict }

abbrev pub IsAsHeld : StateRun → Type 0
IsAsHeld state = state.new.meaning ≡ state.old.meaning

-- The bytes read make this receipt, of what is held.
pub record MakesReceipt (source : DeviceRun) (m : Meaning) (fetched : Fetched)
    (receipt : Receipt) : Type 0 where
  pub bytes : List ℕ
  pub read : Reads source bytes
  pub observation : IsObservation m (fetched_bundle fetched bytes) receipt

-- They make none, for this cause.
pub record MakesNone (source : DeviceRun) (m : Meaning) (fetched : Fetched)
    (why : ObserveError) : Type 0 where
  pub bytes : List ℕ
  pub read : Reads source bytes
  pub cause : RefusesObservation m (fetched_bundle fetched bytes) why

-- By the error: the source failed; memory ran out; they make none. There is no other error.
abbrev pub RefusesToMake : DeviceRun → Meaning → Fetched → CommandError → Type 0
RefusesToMake source m fetched Io = HasFailed source
RefusesToMake source m fetched NoMemory = Unit {0}
RefusesToMake source m fetched (Observe why) = MakesNone source m fetched why
RefusesToMake source m fetched _ = ⊥

-- The bytes read were observed as this receipt.
pub record ObservesAs (run : CommandRun) (state : StateRun) (fetched : Fetched)
    (receipt : Receipt) : Type 0 where
  pub bytes : List ℕ
  pub read : Reads run.source bytes
  pub observed : HasObserved state.old.meaning (fetched_bundle fetched bytes) state.new.meaning
      receipt

-- They were, and the receipt's line was written and nothing else.
pub record PrintsObservation (run : CommandRun) (state : StateRun)
    (fetched : Fetched) : Type 0 where
  pub receipt : Receipt
  pub observes : ObservesAs run state fetched receipt
  pub written : PrintsText run.sink (receipt_line receipt)

-- They were, and the sink failed after a beginning of the line.
pub record CutsObservation (run : CommandRun) (state : StateRun) (fetched : Fetched) : Type 0 where
  pub receipt : Receipt
  pub observes : ObservesAs run state fetched receipt
  pub cut : CutsOff run.sink (receipt_line receipt)

-- They were not, for this cause, and nothing was written.
pub record RefusesBundle (run : CommandRun) (state : StateRun) (fetched : Fetched)
    (why : ObserveError) : Type 0 where
  pub bytes : List ℕ
  pub read : Reads run.source bytes
  pub refused : HasNotObserved state.old (fetched_bundle fetched bytes) state.new why
  pub unwritten : WritesNothing run.sink

-- By the answer: the bundle was observed, and its receipt's line written; the source failed before
-- anything was observed or written, or the sink failed; memory ran out before anything was observed
-- or written; nothing was observed. There is no other error.
abbrev pub RunsObserve : CommandRun → StateRun → Fetched → Result (Unit {0}) CommandError → Type 0
RunsObserve run state fetched (Ok _) = PrintsObservation run state fetched
RunsObserve run state fetched (Err Io) = (FailsToRead run × IsAsHeld state)
    ⊎ CutsObservation run state fetched
RunsObserve run state fetched (Err NoMemory) = WritesNothing run.sink × IsAsHeld state
RunsObserve run state fetched (Err (Observe why)) = RefusesBundle run state fetched why
RunsObserve run state fetched (Err _) = ⊥

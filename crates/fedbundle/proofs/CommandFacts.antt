-- What a command answers if its source gave no bytes.
use Rattle.std.proofs.Common.{◌≡◌, inl, inr, Ok, Err, Result, refl, List, ℕ, arith}
use Rattle.receipt_core.specs.Acceptance.{Meaning}
use Rattle.byte_lines.specs.declared.error.DeviceError.{DeviceError}
use Rattle.byte_lines.specs.declared.error.DeviceError.TheVariants.{Io as SourceFailed}
use Rattle.byte_lines.specs.declared.error.DeviceError.TheVariants.{NoMemory as NoMemoryForBytes}
use Rattle.closure_core.specs.Changes.{HeldAndRoom, IsUnchanged}
use Rattle.fedbundle.specs.CommandRun.{CommandRun, Reads, WritesNothing, run_of, state_run}
use Rattle.command_exits.specs.DeviceRuns.{DeviceRun, HasFailed}
use Rattle.fedbundle.specs.Canon.{RunsCanon, RunsCanonOn, canon_call}
use Rattle.command_exits.specs.Errors.{of_read}
use Rattle.fedbundle.specs.Explain.{ExplanationCall, RunsExplain}
use Rattle.fedbundle.specs.Observe.{Fetched, RefusesToMake, RunsObserve}
use Rattle.command_line.specs.declared.option_texts.OutputForm.{OutputForm}
use Rattle.command_exits.specs.declared.error.CommandError.{CommandError}
use Rattle.command_exits.specs.declared.error.CommandError.TheVariants.{Config, Document, Full, Io, Journal, Name}
use Rattle.command_exits.specs.declared.error.CommandError.TheVariants.{NoMemory, Observe, Poll, Pull, Sync, Take}

-- If the source failed or memory ran out, nothing was written: the promise of `canon` at both.
pub canon_unread : (run : CommandRun) (domain : List ℕ) (form : OutputForm) (e : DeviceError) → (e ≡ SourceFailed → HasFailed run.source)
    → WritesNothing run.sink → RunsCanon run domain form (Err (of_read e))
canon_unread run domain form SourceFailed failed same = inl (failed refl, same)
canon_unread run domain form NoMemoryForBytes failed same = same

-- If the source gave these bytes, what `canon` does to its sink on them is what it does.
pub canon_read : (run : CommandRun) (bytes domain : List ℕ) (form : OutputForm) (r : Result (Unit {0}) CommandError) → Reads run.source bytes
    → RunsCanonOn bytes run.sink (canon_call domain form) r → RunsCanon run domain form r
canon_read run bytes domain form (Ok u) read (d, is, written) =
    record { document = d; read = record { bytes = bytes; read = read; is = is }; written = written }
canon_read run bytes domain form (Err Io) read (d, is, cut) = inr (record { document = d; read = record { bytes = bytes; read = read; is = is }; cut = cut })
canon_read run bytes domain form (Err NoMemory) read h = h
canon_read run bytes domain form (Err (Document why)) read (cause, unwritten) =
    record { bytes = bytes; read = read; cause = cause; unwritten = unwritten }
canon_read run bytes domain form (Err (Name e)) read h = absurd h
canon_read run bytes domain form (Err (Config e)) read h = absurd h
canon_read run bytes domain form (Err (Take e)) read h = absurd h
canon_read run bytes domain form (Err (Observe e)) read h = absurd h
canon_read run bytes domain form (Err (Poll e)) read h = absurd h
canon_read run bytes domain form (Err (Sync e)) read h = absurd h
canon_read run bytes domain form (Err (Journal e)) read h = absurd h
canon_read run bytes domain form (Err (Pull e)) read h = absurd h
canon_read run bytes domain form (Err Full) read h = absurd h

-- the same for `explain`
pub explain_unread : (run : CommandRun) (m : Meaning) (call : ExplanationCall) (e : DeviceError)
    → (e ≡ SourceFailed → HasFailed run.source) → WritesNothing run.sink → RunsExplain run m call (Err (of_read e))
explain_unread run m call SourceFailed failed same = inl (failed refl, same)
explain_unread run m call NoMemoryForBytes failed same = same

-- if a source gave no bytes, no receipt is made
pub observe_unread : (source : DeviceRun) (m : Meaning) (fetched : Fetched) (e : DeviceError)
    → (e ≡ SourceFailed → HasFailed source) → RefusesToMake source m fetched (of_read e)
observe_unread source m fetched SourceFailed failed = failed refl
observe_unread source m fetched NoMemoryForBytes failed = tt

-- if nothing was done, nothing is changed
as_before : (s : HeldAndRoom) → IsUnchanged s s
as_before s = record { meaning = refl; room = record { receipts = omega arith; offers = omega arith } }

-- If no receipt is made, `observe` has observed and written nothing.
pub observe_unmade : (source sink : DeviceRun) (s : HeldAndRoom) (fetched : Fetched) (e : CommandError)
    → RefusesToMake source s.meaning fetched e → WritesNothing sink
    → RunsObserve (run_of source sink) (state_run s s) fetched (Err e)
observe_unmade source sink s fetched Io failed same = inl ((failed, same), refl)
observe_unmade source sink s fetched NoMemory none same = (same, refl)
observe_unmade source sink s fetched (Observe why) none same = record {
  bytes = none.bytes;
  read = none.read;
  refused = record { cause = none.cause; unchanged = as_before s };
  unwritten = same;
}
observe_unmade source sink s fetched _ none same = absurd none

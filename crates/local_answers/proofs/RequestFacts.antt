-- What a command's function answers over memory, as what is replied.
use Rattle.std.proofs.Common.{◌≡◌, ℕ, List, [], ◌∷◌, refl, sym, ap, ◌∙◌, arith, false, Some}
use Rattle.std.specs.Io.KnownBytes.{IsAtEnd}
use Rattle.receipt_core.specs.Acceptance.{Meaning}
use Rattle.receipt_core.specs.Receipt.{Receipt}
use Rattle.closure_core.specs.Changes.{HeldAndRoom, HasMergedInRoom, HasRefusedMerge, IsUnchanged}
use Rattle.closure_core.specs.declared.error.TakeError.{TakeError}
use Rattle.bundle_view.specs.Observe.{HasNotObserved, HasObserved}
use Rattle.bundle_view.specs.declared.observe_error.ObserveError.{ObserveError}
use Rattle.replica_core.specs.Absorbing.{with_entries}
use Rattle.replica_core.specs.declared.entry.Entry.{Entry}
use Rattle.replica_core.specs.declared.error.SyncError.{SyncError}
use Rattle.replica_core.specs.declared.error.SyncError.TheVariants.{Io as StreamFailed}
use Rattle.replica_texts.specs.Snapshots.{IsSnapshot, RefusesSnapshot}
use Rattle.fedbundle.specs.CommandRun.{run_of, state_run}
use Rattle.command_exits.specs.DeviceRuns.{DeviceRun, HasFailed}
use Rattle.fedbundle.specs.Explain.{receipt_line}
use Rattle.fedbundle.specs.Merge.{count_text}
use Rattle.fedbundle.specs.Observe.{Fetched, MakesReceipt, RefusesToMake, fetched_bundle}
use Rattle.command_exits.specs.declared.error.CommandError.{CommandError}
use Rattle.command_exits.specs.declared.error.CommandError.TheVariants.{Io, NoMemory, Observe, Take}
use Rattle.command_exits.specs.declared.exits.Exit.TheVariants.{Refused}
use Rattle.local_answers.specs.Journalling.{AreLinesOfOther, IsLineIfNew, JournalsChange}
use Rattle.local_answers.specs.RequestRun.{AnswersMerge, AnswersObserve, EndsMerge, EndsObserve, change_run, exit_of_unread, memory_exit}

-- ---- what is journalled

-- the line of an entry that is held now
pub entry_journals : (old new : HeldAndRoom) (entry : Entry) (text : List ℕ) → IsLineIfNew old.meaning entry text
    → new.meaning ≡ with_entries (entry ∷ []) old.meaning → JournalsChange text (state_run old new)
entry_journals old new entry text line is = record { entries = line.entries; lines = line.lines; meaning = is ∙ sym line.meaning }

-- the lines of what another replica held
pub merge_journals : (old new : HeldAndRoom) (other : Meaning) (text : List ℕ) (receipts count : ℕ) → AreLinesOfOther old.meaning other text receipts
    → HasMergedInRoom old other new count → JournalsChange text (state_run old new)
merge_journals old new other text receipts count lines merged =
    record { entries = lines.entries; lines = lines.lines; meaning = merged.merged.meaning ∙ sym lines.union }

-- the same, if what is held is the same
pub same_journalled : (old new : HeldAndRoom) (text : List ℕ) → text ≡ [] → new.meaning ≡ old.meaning → JournalsChange text (state_run old new)
same_journalled old new text none same = record { entries = []; lines = record { each = tt; fresh = tt; spelt = none }; meaning = same }

-- ---- commands that change what is held

-- a sink in memory that holds this
abbrev memory_sink : List ℕ → DeviceRun
memory_sink output = record { before = Some []; after = Some output; had_failed = false; has_failed = false }

-- if nothing was done nothing is changed
as_before : (s : HeldAndRoom) → IsUnchanged s s
as_before s = record { meaning = refl; room = record { receipts = omega arith; offers = omega arith } }

-- if no receipt is made nothing is observed
pub observe_unmade : (s : HeldAndRoom) (source : DeviceRun) (input : List ℕ) (fetched : Fetched) (e : CommandError) → source.before ≡ Some input
    → RefusesToMake source s.meaning fetched e → EndsObserve (change_run (state_run s s) input) fetched (memory_exit e)
observe_unmade s source input fetched Io is none = refl
observe_unmade s source input fetched NoMemory is none = refl
observe_unmade s source input fetched (Observe why) is none = record {
  devices = run_of source (memory_sink []);
  over = record { source = is; empty = refl; filled = refl };
  runs = record {
    bytes = none.bytes;
    read = none.read;
    refused = record { cause = none.cause; unchanged = as_before s };
    unwritten = refl;
  };
}
observe_unmade s source input fetched e is none = absurd none

-- nor if it is not taken
pub observe_untaken : (old new : HeldAndRoom) (source : DeviceRun) (input : List ℕ) (fetched : Fetched) (r : Receipt) (why : ObserveError)
    → source.before ≡ Some input → (made : MakesReceipt source old.meaning fetched r)
    → HasNotObserved old (fetched_bundle fetched made.bytes) new why
    → EndsObserve (change_run (state_run old new) input) fetched (Refused (Observe why))
observe_untaken old new source input fetched r why is made refused = record {
  devices = run_of source (memory_sink []);
  over = record { source = is; empty = refl; filled = refl };
  runs = record { bytes = made.bytes; read = made.read; refused = refused; unwritten = refl };
}

-- if it is taken its line is the output
pub observe_taken : (old new : HeldAndRoom) (source : DeviceRun) (input : List ℕ) (fetched : Fetched) (r : Receipt) (text : List ℕ)
    → source.before ≡ Some input → (made : MakesReceipt source old.meaning fetched r)
    → HasObserved old.meaning (fetched_bundle fetched made.bytes) new.meaning r → text ≡ receipt_line r
    → AnswersObserve (change_run (state_run old new) input) fetched text
observe_taken old new source input fetched r text is made observed line = record {
  devices = run_of source (memory_sink text);
  over = record { source = is; empty = refl; filled = refl };
  runs = record {
    receipt = r;
    observes = record { bytes = made.bytes; read = made.read; observed = observed };
    written = line;
  };
}

-- if the input is not a snapshot, or memory ran out, nothing is merged
pub merge_unread : (s : HeldAndRoom) (source : DeviceRun) (input : List ℕ) (why : SyncError) → source.before ≡ Some input
    → RefusesSnapshot s.meaning.config source.before why → (why ≡ StreamFailed → HasFailed source)
    → EndsMerge (change_run (state_run s s) input) (exit_of_unread why)
merge_unread s source input StreamFailed is cause fault = refl
merge_unread s source input why is cause fault = record {
  devices = run_of source (memory_sink []);
  over = record { source = is; empty = refl; filled = refl };
  runs = record { cause = cause; fault = fault; unchanged = refl; unwritten = refl };
}

-- nor if what it holds is not taken
pub merge_untaken : (old new : HeldAndRoom) (source : DeviceRun) (input : List ℕ) (other : Meaning) (why : TakeError) → source.before ≡ Some input
    → IsSnapshot old.meaning.config source.before other → HasRefusedMerge old other new why
    → EndsMerge (change_run (state_run old new) input) (Refused (Take why))
merge_untaken old new source input other why is snapshot refused = record {
  devices = run_of source (memory_sink []);
  over = record { source = is; empty = refl; filled = refl };
  runs = record { other = other; snapshot = snapshot; refused = refused; unwritten = refl };
}

-- if it is taken the output counts what was new
pub merge_taken : (old new : HeldAndRoom) (source : DeviceRun) (input : List ℕ) (other : Meaning) (text line : List ℕ) (receipts count : ℕ)
    → source.before ≡ Some input → IsSnapshot old.meaning.config source.before other → IsAtEnd source.after
    → AreLinesOfOther old.meaning other text receipts → HasMergedInRoom old other new count → line ≡ count_text receipts
    → AnswersMerge (change_run (state_run old new) input) line
merge_taken old new source input other text line receipts count is snapshot end lines merged written =
    let m = merged.merged in
    let same : receipts ≡ count = omega (arith, lines.count, m.count) in
    record {
      devices = run_of source (memory_sink line);
      over = record { source = is; empty = refl; filled = refl };
      runs = record {
        count = count;
        joins = record { other = other; is = snapshot; merged = m };
        read = end;
        written = written ∙ ap count_text same;
      };
    }

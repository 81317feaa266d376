-- What a run of a command does to its devices and to what is held, in the terms that the promises
-- of all commands share.
use Rattle.std.specs.Prelude.{◌≡◌, ℕ, ◌+◌, List}
use Rattle.std.specs.Io.KnownBytes.{Appends, IsAtEnd}
use Rattle.byte_lines.specs.Device.{TakesUpTo, AppendsBeginning}
use Rattle.bundle_doc.specs.Bundle.{Bundle, IsDocument, document_limit}
use Rattle.bundle_doc.specs.Refusal.{RefusesBytes}
use Rattle.bundle_doc.specs.declared.error.DocError.{DocError}
use Rattle.closure_core.specs.Changes.{HeldAndRoom}
use Rattle.command_exits.specs.DeviceRuns.{DeviceRun, HasFailed}

-- ---- a run

-- the source that a command reads, and the sink that it writes
pub record CommandRun : Type 0 where
  pub source : DeviceRun
  pub sink : DeviceRun

abbrev pub run_of : DeviceRun → DeviceRun → CommandRun
run_of source sink = record { source = source; sink = sink }

-- what is held before and after, if the command may change it
pub record StateRun : Type 0 where
  pub old : HeldAndRoom
  pub new : HeldAndRoom

abbrev pub state_run : HeldAndRoom → HeldAndRoom → StateRun
state_run old new = record { old = old; new = new }

-- ---- a source

-- The bytes that were read: all, if there are no more than a document may have, and else one byte
-- more than that.
abbrev pub Reads : DeviceRun → List ℕ → Type 0
Reads source bytes = TakesUpTo source.before source.after (document_limit + 1) bytes

-- The bytes that were read are this document.
pub record ReadsDocument (source : DeviceRun) (document : Bundle) : Type 0 where
  pub bytes : List ℕ
  pub read : Reads source bytes
  pub is : IsDocument bytes document

abbrev pub IsReadOut : DeviceRun → Type 0
IsReadOut source = IsAtEnd source.after

-- ---- a sink

-- This text was written, and nothing else.
abbrev pub PrintsText : DeviceRun → List ℕ → Type 0
PrintsText sink text = Appends sink.before sink.after text

-- A beginning of this text was written, perhaps none of it and perhaps all.
abbrev pub BeginsText : DeviceRun → List ℕ → Type 0
BeginsText sink text = AppendsBeginning sink.before sink.after text

abbrev pub WritesNothing : DeviceRun → Type 0
WritesNothing sink = sink.after ≡ sink.before

-- ---- errors

-- The sink failed, after a beginning of this text.
abbrev pub CutsOff : DeviceRun → List ℕ → Type 0
CutsOff sink text = HasFailed sink × BeginsText sink text

-- The source failed, and nothing was written.
abbrev pub FailsToRead : CommandRun → Type 0
FailsToRead run = HasFailed run.source × WritesNothing run.sink

-- It has failed now exactly if it had before.
abbrev pub IsAsSound : DeviceRun → Type 0
IsAsSound device = device.has_failed ≡ device.had_failed

-- The bytes that were read are not a document, for this cause, and nothing was written.
pub record RefusesDocument (run : CommandRun) (why : DocError) : Type 0 where
  pub bytes : List ℕ
  pub read : Reads run.source bytes
  pub cause : RefusesBytes bytes why
  pub unwritten : WritesNothing run.sink

-- A journal that is open for appending.
use Rattle.std.specs.Prelude.{ℕ, List, Option, None, Some}
use Rattle.state_calls.specs.Logs.{noted_lines}
use Rattle.state_calls.specs.Tries.{AfterTries, MakesAppended}
use Rattle.state_files.specs.declared.journal.Journal.{Journal}
use Rattle.state_steps.specs.Appends.{IsAppendedOn}
use Rattle.state_steps.specs.Files.{StateDisk}
use Rattle.state_steps.specs.Since.{CameSince}
use Rattle.state_steps.specs.declared.since.Since.{Since}

-- Whatever its steps made of the files, they are so.
abbrev pub AreFilesOf : Journal → StateDisk → (StateDisk → Type 0) → Type 0
AreFilesOf journal first Are =
    AfterTries MakesAppended (noted_lines journal.calls.appends) first Are

-- Its file has this text, as far as it has come.
abbrev pub HasAsText : Journal → StateDisk → List ℕ → Type 0
HasAsText journal first written =
    AreFilesOf journal first (IsAppendedOn written journal.appending.stage)

-- If a fold is under way, this came since it began.
abbrev pub CameIfAny : Option Since → List ℕ → Type 0
CameIfAny None came = Unit {0}
CameIfAny (Some since) came = CameSince since came

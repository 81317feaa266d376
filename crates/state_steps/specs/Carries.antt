-- A state is carried over to another configuration. What was held under the old one is kept in a
-- file `previous`, which is written under a new name first; then the state becomes one of the new
-- configuration, and only after that the new file gets its name.
use Rattle.std.specs.Prelude.{◌≡◌, ◌≢◌, ◌&&◌, ℕ, ◌⊎◌, Bool, List, [], ◌∷◌, Option, None, Some}
use Rattle.std.specs.Prelude.{if◌then◌else◌, nat_eq, not}
use Rattle.std.specs.Cmp.Lexicographic.{pointwise}
use Rattle.std.specs.List.{list_any, starts_with}
use Rattle.state_steps.specs.Files.{FileText, HasWholeLine, IsFirstFile, IsFoundAt, IsLeftOf}
use Rattle.state_steps.specs.Files.{IsRemnantOf}
use Rattle.state_steps.specs.Files.{KeepsLine, SnapshotsKeep, StateDisk, kept_file, settled_name}
use Rattle.state_steps.specs.Steps.{StateTexts, after_step}
use Rattle.state_steps.specs.declared.carrying_over.CarryingOver.{CarryingOver}
use Rattle.state_steps.specs.declared.carrying_over.CarrySide.{CarrySide}
use Rattle.state_steps.specs.declared.carrying_over.CarrySide.TheVariants.{Old, New}
use Rattle.state_steps.specs.declared.carrying_over.CarryStep.{CarryStep}
use Rattle.state_steps.specs.declared.carrying_over.CarryStep.TheVariants.{FoldState}
use Rattle.state_steps.specs.declared.carrying_over.CarryStep.TheVariants.{WritePrevious}
use Rattle.state_steps.specs.declared.carrying_over.CarryStep.TheVariants.{SaveState}
use Rattle.state_steps.specs.declared.carrying_over.CarryStep.TheVariants.{ReplacePrevious}
use Rattle.state_steps.specs.declared.carrying_over.CarryStage.{CarryStage}
use Rattle.state_steps.specs.declared.carrying_over.CarryStage.TheVariants.{Due, Done, Failed}
use Rattle.state_steps.specs.declared.new_fate.NewFate.{NewFate}
use Rattle.state_steps.specs.declared.new_fate.NewFate.TheVariants.{GetsName, IsRemoved}
use Rattle.state_steps.specs.declared.file_step.FileStep.TheVariants.{WriteSnapshot, SyncSnapshot}
use Rattle.state_steps.specs.declared.file_step.FileStep.TheVariants.{ReplaceSnapshot, SyncFolder}
use Rattle.state_steps.specs.declared.file_step.FileStep.TheVariants.{RemoveJournal}

-- ---- the order of the steps

-- the step that is due, if one is
abbrev pub carry_step : CarryStage → Option CarryStep
carry_step (Due step) = Some step
carry_step Done = None
carry_step Failed = None

-- the stage after this one, when the step that is due is done
abbrev pub following_carry : CarryStage → CarryStage
following_carry (Due FoldState) = Due WritePrevious
following_carry (Due WritePrevious) = Due SaveState
following_carry (Due SaveState) = Due ReplacePrevious
following_carry (Due ReplacePrevious) = Done
following_carry Done = Done
following_carry Failed = Failed

-- how many steps it takes until the state is carried over
abbrev pub carry_steps_left : CarryStage → ℕ
carry_steps_left (Due FoldState) = 4
carry_steps_left (Due WritePrevious) = 3
carry_steps_left (Due SaveState) = 2
carry_steps_left (Due ReplacePrevious) = 1
carry_steps_left Done = 0
carry_steps_left Failed = 0

-- ---- the files

-- The snapshot of what was held under the old configuration, and the one of what is held under the
-- new one; which configuration the head of a file says, if it says one; and whether the file is a
-- whole snapshot of a configuration that the start is given.
pub record CarryTexts : Type 0 where
  pub old : List ℕ
  pub new : List ℕ
  pub head : List ℕ → Option (List ℕ)
  pub is_whole : List ℕ → Bool

-- whether bytes begin as a snapshot does, and have no zero, as those that a file lacks
abbrev pub is_whole_head : List ℕ → List ℕ → Bool
is_whole_head beginning bytes =
    starts_with nat_eq bytes beginning && not (list_any (λ byte. nat_eq byte 0) bytes)

-- what a start makes of a new file that is there: if the heads of it and of the state say two
-- configurations, and it is whole, it gets the name of the previous state
abbrev pub fate_of_new : Option (List ℕ) → Option (List ℕ) → Bool → NewFate
fate_of_new (Some state) (Some new) whole =
    if not (pointwise nat_eq state new) && whole then GetsName else IsRemoved
fate_of_new (Some state) None whole = IsRemoved
fate_of_new None new whole = IsRemoved

-- what it makes of this file, next to this state
abbrev pub fate_beside : CarryTexts → List ℕ → List ℕ → NewFate
fate_beside texts state new = fate_of_new (texts.head state) (texts.head new) (texts.is_whole new)

-- The heads of the two snapshots say which is which. So next to the new one the old one gets the
-- name; next to the old one no part of the old one does; and a file without bytes says nothing.
pub record AreApart (texts : CarryTexts) : Type 0 where
  pub heads : texts.head texts.old ≢ texts.head texts.new
  pub named : fate_beside texts texts.new texts.old ≡ GetsName
  pub left : (part : List ℕ) → IsRemnantOf texts.old part
      → fate_beside texts texts.old part ≡ IsRemoved
  pub none : texts.head [] ≡ None

-- the files of the state; `previous`; and the new file that is to get that name
pub record CarryDisk : Type 0 where
  pub state : StateDisk
  pub previous : List FileText
  pub previous_new : FileText

-- what a start finds after a stop: a file that is not there is found empty
pub record CarryFound : Type 0 where
  pub snapshot : List ℕ
  pub journal : List ℕ
  pub previous : List ℕ
  pub previous_new : List ℕ

-- A stop may leave this of the files.
pub record StopLeaves (disk : CarryDisk) (found : CarryFound) : Type 0 where
  pub snapshot : IsFoundAt disk.state.snapshot found.snapshot
  pub journal : IsFoundAt disk.state.journal found.journal
  pub previous : IsFoundAt disk.previous found.previous
  pub previous_new : IsLeftOf disk.previous_new found.previous_new

-- ---- what the steps do

-- under which configuration the snapshot is that the step writes, or gives its name
abbrev pub carry_side : CarryStep → CarrySide
carry_side FoldState = Old
carry_side WritePrevious = Old
carry_side SaveState = New
carry_side ReplacePrevious = Old

-- that snapshot
abbrev pub carried_text : CarryTexts → CarrySide → List ℕ
carried_text texts Old = texts.old
carried_text texts New = texts.new

-- what a save makes of the state's files
abbrev pub saved_state : List ℕ → StateDisk → StateDisk
saved_state text disk = record {
  new = kept_file text;
  snapshot = kept_file text ∷ [];
  journal = kept_file [] ∷ disk.journal;
}

-- With the folder on the disk, no stop brings a journal back that was removed.
abbrev pub after_carry : CarryTexts → CarryStep → CarryDisk → CarryDisk
after_carry texts FoldState disk = record disk {
  state = saved_state (carried_text texts (carry_side FoldState)) disk.state;
}
after_carry texts WritePrevious disk = record disk {
  state = record disk.state { journal = settled_name disk.state.journal };
  previous_new = kept_file (carried_text texts (carry_side WritePrevious));
}
after_carry texts SaveState disk = record disk {
  state = saved_state (carried_text texts (carry_side SaveState)) disk.state;
}
after_carry texts ReplacePrevious disk = record disk {
  previous = disk.previous_new ∷ [];
  previous_new = kept_file [];
}

abbrev pub after_carry_due : CarryTexts → CarryStage → CarryDisk → CarryDisk
after_carry_due texts (Due step) disk = after_carry texts step disk
after_carry_due texts Done disk = disk
after_carry_due texts Failed disk = disk

-- ---- what a stop in the middle of a step leaves

-- The snapshot and the journal are as before; or the snapshot has all of the new text, and the
-- journal is as before or removed.
abbrev pub StopsInSave : List ℕ → StateDisk → List ℕ → List ℕ → Type 0
StopsInSave text disk snapshot journal =
    (IsFoundAt disk.snapshot snapshot × IsFoundAt disk.journal journal)
    ⊎ ((snapshot ≡ text) × (IsFoundAt disk.journal journal ⊎ (journal ≡ [])))

-- The new file has its own name yet, or that of `previous`.
abbrev pub StopsInReplace : CarryDisk → List ℕ → List ℕ → Type 0
StopsInReplace disk previous previous_new =
    (IsFoundAt disk.previous previous × IsLeftOf disk.previous_new previous_new)
    ⊎ (IsLeftOf disk.previous_new previous × (previous_new ≡ []))

-- A stop in the middle of the step, or after it failed, may leave this: a part of a new file that
-- is being written.
abbrev pub StopsIn : CarryTexts → CarryStep → CarryDisk → CarryFound → Type 0
StopsIn texts FoldState disk found =
    StopsInSave texts.old disk.state found.snapshot found.journal
    × IsFoundAt disk.previous found.previous × IsLeftOf disk.previous_new found.previous_new
StopsIn texts WritePrevious disk found = IsFoundAt disk.state.snapshot found.snapshot
    × IsFoundAt disk.state.journal found.journal × IsFoundAt disk.previous found.previous
    × (IsLeftOf disk.previous_new found.previous_new ⊎ IsRemnantOf texts.old found.previous_new)
StopsIn texts SaveState disk found =
    StopsInSave texts.new disk.state found.snapshot found.journal
    × IsFoundAt disk.previous found.previous × IsLeftOf disk.previous_new found.previous_new
StopsIn texts ReplacePrevious disk found = IsFoundAt disk.state.snapshot found.snapshot
    × IsFoundAt disk.state.journal found.journal
    × StopsInReplace disk found.previous found.previous_new

abbrev pub StopsInDue : CarryTexts → CarryStage → CarryDisk → CarryFound → Type 0
StopsInDue texts (Due step) disk found = StopsIn texts step disk found
StopsInDue texts Done disk found = StopLeaves disk found
StopsInDue texts Failed disk found = StopLeaves disk found

-- A step that failed leaves no more than a stop in its middle may leave.
abbrev pub FailsCarry : CarryTexts → CarryStage → CarryDisk → CarryDisk → Type 0
FailsCarry texts stage disk left = (found : CarryFound) → StopLeaves left found
    → StopsInDue texts stage disk found

-- ---- what a start makes of it

-- what `previous` has after this was made of a new file, if there is one
abbrev pub previous_of : NewFate → List ℕ → List ℕ → List ℕ
previous_of GetsName [] previous = previous
previous_of GetsName (byte ∷ more) previous = byte ∷ more
previous_of IsRemoved previous_new previous = previous

abbrev pub started_previous : CarryTexts → CarryFound → List ℕ
started_previous texts found = previous_of (fate_beside texts found.snapshot found.previous_new)
    found.previous_new found.previous

-- what a start makes of what it found
abbrev pub after_start : CarryTexts → CarryFound → CarryFound
after_start texts found = record found {
  previous = started_previous texts found;
  previous_new = [];
}

-- A start finds the line in the state's files, or after its rule in `previous`. That is as it was
-- found, or all of the old snapshot; and with a state of the new configuration no journal is.
pub record IsCarrySafe (texts : CarryTexts) (found : CarryFound) (line : List ℕ) : Type 0 where
  pub kept : HasWholeLine found.snapshot line ⊎ HasWholeLine found.journal line
      ⊎ HasWholeLine (started_previous texts found) line
  pub previous : (started_previous texts found ≡ found.previous)
      ⊎ (started_previous texts found ≡ texts.old)
  pub journal : texts.head found.snapshot ≡ texts.head texts.new → found.journal ≡ []

-- ---- how far it has come

-- No snapshot that a stop may leave is of the new configuration, and there is no new file: the
-- start has taken it away.
pub record IsOldState (texts : CarryTexts) (disk : CarryDisk) : Type 0 where
  pub snapshot : (text : List ℕ) → IsFoundAt disk.state.snapshot text
      → texts.head text ≢ texts.head texts.new
  pub previous_new : disk.previous_new ≡ kept_file []

-- No stop leaves anything of a journal.
abbrev pub IsWithoutJournal : StateDisk → Type 0
IsWithoutJournal disk = (text : List ℕ) → IsFoundAt disk.journal text → text ≡ []

-- the files at this stage
abbrev pub IsCarryDueOn : CarryTexts → CarryStage → CarryDisk → Type 0
IsCarryDueOn texts (Due FoldState) disk = IsOldState texts disk
IsCarryDueOn texts (Due WritePrevious) disk = (disk.state.snapshot ≡ kept_file texts.old ∷ [])
    × IsFirstFile (kept_file []) disk.state.journal × (disk.previous_new ≡ kept_file [])
IsCarryDueOn texts (Due SaveState) disk = (disk.state.snapshot ≡ kept_file texts.old ∷ [])
    × IsWithoutJournal disk.state × (disk.previous_new ≡ kept_file texts.old)
IsCarryDueOn texts (Due ReplacePrevious) disk = (disk.state.snapshot ≡ kept_file texts.new ∷ [])
    × IsWithoutJournal disk.state × (disk.previous_new ≡ kept_file texts.old)
IsCarryDueOn texts Done disk = (disk.state.snapshot ≡ kept_file texts.new ∷ [])
    × IsWithoutJournal disk.state × (disk.previous ≡ kept_file texts.old ∷ [])
    × (disk.previous_new ≡ kept_file [])
IsCarryDueOn texts Failed disk = Unit {0}

-- The line is one of `previous`, and one of the two snapshots is to have it: the new one if the
-- state had that configuration before, and the old one if an older state was put back.
abbrev pub IsPreviousLine : CarryTexts → CarryDisk → List ℕ → Type 0
IsPreviousLine texts disk line = SnapshotsKeep disk.previous line
    × (HasWholeLine texts.old line ⊎ HasWholeLine texts.new line)

-- what has the line at this stage: the old snapshot; or `previous`, and later the new snapshot
abbrev pub IsCarryKeptOn : CarryTexts → CarryStage → CarryDisk → List ℕ → Type 0
IsCarryKeptOn texts (Due FoldState) disk line =
    (KeepsLine disk.state line × HasWholeLine texts.old line) ⊎ IsPreviousLine texts disk line
IsCarryKeptOn texts (Due WritePrevious) disk line = HasWholeLine texts.old line
    ⊎ IsPreviousLine texts disk line
IsCarryKeptOn texts (Due SaveState) disk line = HasWholeLine texts.old line
    ⊎ IsPreviousLine texts disk line
IsCarryKeptOn texts (Due ReplacePrevious) disk line = HasWholeLine texts.old line
    ⊎ HasWholeLine texts.new line
IsCarryKeptOn texts Done disk line = HasWholeLine texts.old line ⊎ HasWholeLine texts.new line
IsCarryKeptOn texts Failed disk line = (found : CarryFound) → StopLeaves disk found
    → IsCarrySafe texts found line

-- It has reached its next step with these files, and the line is not lost.
pub record CarryKeeps (texts : CarryTexts) (carrying : CarryingOver) (disk : CarryDisk)
    (line : List ℕ) : Type 0 where
  pub due : IsCarryDueOn texts carrying.stage disk
  pub kept : IsCarryKeptOn texts carrying.stage disk line

-- The state is one of the new configuration, and has no journal; `previous` has what was held under
-- the old one, and there is no other new file. All of it is on the disk.
pub record IsCarriedOver (texts : CarryTexts) (carrying : CarryingOver) (disk : CarryDisk)
    : Type 0 where
  pub done : carrying.stage ≡ Done
  pub snapshot : disk.state.snapshot ≡ kept_file texts.new ∷ []
  pub journal : IsWithoutJournal disk.state
  pub previous : disk.previous ≡ kept_file texts.old ∷ []
  pub previous_new : disk.previous_new ≡ kept_file []

-- ---- a whole save as one step

-- the five steps of a save
abbrev pub after_save : StateTexts → StateDisk → StateDisk
after_save texts disk = after_step texts RemoveJournal (after_step texts SyncFolder
    (after_step texts ReplaceSnapshot (after_step texts SyncSnapshot
    (after_step texts WriteSnapshot disk))))

-- What a stop may leave of the files `disk`, a stop in a save that began with the files `start` may
-- leave.
pub record IsInSave (text : List ℕ) (start disk : StateDisk) : Type 0 where
  pub both : (snapshot journal : List ℕ) → IsFoundAt disk.snapshot snapshot
      → IsFoundAt disk.journal journal → StopsInSave text start snapshot journal
  pub alone : (journal : List ℕ) → IsFoundAt disk.journal journal
      → IsFoundAt start.journal journal ⊎ (journal ≡ [])

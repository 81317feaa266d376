-- A journal is shortened: after a fold during which lines came, a new journal that has only these
-- takes the place of the old one.
use Rattle.std.specs.Prelude.{◌≡◌, ℕ, ◌⊎◌, List, [], ◌∷◌, Option, None, Some}
use Rattle.state_steps.specs.Files.{FileText, HasOneFile, HasWholeLine, IsFirstFile, KeepsLine}
use Rattle.state_steps.specs.Files.{SnapshotsKeep, StateDisk, kept_file, settled_name}
use Rattle.state_steps.specs.Files.{synced_file, unkept_file}
use Rattle.state_steps.specs.declared.folding.FoldEnd.{FoldEnd}
use Rattle.state_steps.specs.declared.folding.FoldEnd.TheVariants.{JournalContinues, ReplicaEnds}
use Rattle.state_steps.specs.declared.shortening.Shortening.{Shortening}
use Rattle.state_steps.specs.declared.shortening.ShortenStep.{ShortenStep}
use Rattle.state_steps.specs.declared.shortening.ShortenStep.TheVariants.{WriteJournal, SyncNew}
use Rattle.state_steps.specs.declared.shortening.ShortenStep.TheVariants.{ReplaceJournal}
use Rattle.state_steps.specs.declared.shortening.ShortenStep.TheVariants.{SyncFolder}

-- ---- the order of the steps

-- the step after this one
abbrev pub following_shorten : Option ShortenStep → Option ShortenStep
following_shorten (Some WriteJournal) = Some SyncNew
following_shorten (Some SyncNew) = Some ReplaceJournal
following_shorten (Some ReplaceJournal) = Some SyncFolder
following_shorten (Some SyncFolder) = None
following_shorten None = None

-- how many steps it takes until the journal is the new one
abbrev pub shorten_steps_left : Option ShortenStep → ℕ
shorten_steps_left (Some WriteJournal) = 4
shorten_steps_left (Some SyncNew) = 3
shorten_steps_left (Some ReplaceJournal) = 2
shorten_steps_left (Some SyncFolder) = 1
shorten_steps_left None = 0

-- ---- what the steps do

-- what the step makes of the files; the new journal has this text
abbrev pub after_shorten_step : List ℕ → ShortenStep → StateDisk → StateDisk
after_shorten_step text WriteJournal disk = record disk { new = unkept_file text }
after_shorten_step text SyncNew disk = record disk { new = synced_file disk.new }
after_shorten_step text ReplaceJournal disk = record disk { journal = disk.new ∷ disk.journal }
after_shorten_step text SyncFolder disk = record disk { journal = settled_name disk.journal }

abbrev pub after_shorten : List ℕ → Option ShortenStep → StateDisk → StateDisk
after_shorten text None disk = disk
after_shorten text (Some step) disk = after_shorten_step text step disk

-- ---- a step that failed

-- What a step that failed may leave of the files: its work done, or not done. Under the name of the
-- new journal there may be anything.
abbrev pub FailsShortenStep : List ℕ → ShortenStep → StateDisk → StateDisk → Type 0
FailsShortenStep text WriteJournal disk left = (file : FileText)
    × (left ≡ record disk { new = file })
FailsShortenStep text step disk left = (left ≡ disk) ⊎ (left ≡ after_shorten_step text step disk)

abbrev pub FailsShorten : List ℕ → Option ShortenStep → StateDisk → StateDisk → Type 0
FailsShorten text None disk left = left ≡ disk
FailsShorten text (Some step) disk left = FailsShortenStep text step disk left

-- what is to be done if the step failed: while the journal is being replaced, what the disk has
-- of it is not known
abbrev pub shorten_end : Option ShortenStep → FoldEnd
shorten_end (Some ReplaceJournal) = ReplicaEnds
shorten_end (Some SyncFolder) = ReplicaEnds
shorten_end _ = JournalContinues

-- ---- how far it has come

-- the files, when this step is due, or after the last one
abbrev pub IsShortenDue : List ℕ → Option ShortenStep → StateDisk → Type 0
IsShortenDue text (Some WriteJournal) disk = HasOneFile disk.journal
IsShortenDue text (Some SyncNew) disk = HasOneFile disk.journal × (disk.new ≡ unkept_file text)
IsShortenDue text (Some ReplaceJournal) disk = HasOneFile disk.journal
    × (disk.new ≡ kept_file text)
IsShortenDue text (Some SyncFolder) disk = IsFirstFile (kept_file text) disk.journal
IsShortenDue text None disk = disk.journal ≡ kept_file text ∷ []

-- The shortening that writes this text has reached its next step with these files. The line is not
-- lost, and the snapshot on the disk or the new journal has it.
pub record ShortensKeeps (text : List ℕ) (shortening : Shortening) (disk : StateDisk)
    (line : List ℕ) : Type 0 where
  pub due : IsShortenDue text shortening.next disk
  pub kept : KeepsLine disk line
  pub taken : SnapshotsKeep disk.snapshot line ⊎ HasWholeLine text line

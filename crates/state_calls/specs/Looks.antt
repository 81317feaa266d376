-- Between the steps of a fold it is looked whether others touched the files.
use Rattle.std.specs.Prelude.{ℕ, Bool, List, ◌∷◌, IsTrue, Option, None, Some}
use Rattle.state_steps.specs.declared.file_step.FileStep.{FileStep}
use Rattle.state_steps.specs.declared.file_step.FileStep.TheVariants.{BeginJournal, SyncJournal}
use Rattle.state_steps.specs.declared.folding.FoldEnd.{FoldEnd}
use Rattle.state_steps.specs.declared.folding.FoldEnd.TheVariants.{JournalContinues, ReplicaEnds}
use Rattle.state_steps.specs.declared.shortening.ShortenStep.{ShortenStep}
use Rattle.state_steps.specs.declared.shortening.ShortenStep.TheVariants.{ReplaceJournal}
use Rattle.state_steps.specs.declared.shortening.ShortenStep.TheVariants.{SyncFolder}

-- A step is done right after a look that found each file as it was left; but not the last one,
-- when the journal has its new file.
abbrev pub IsSeenFor : FileStep → (seen : Bool) → Type 0
IsSeenFor SyncJournal seen = Unit {0}
IsSeenFor step seen = IsTrue seen

abbrev pub IsSeenDue : Option FileStep → (seen : Bool) → Type 0
IsSeenDue None seen = Unit {0}
IsSeenDue (Some step) seen = IsSeenFor step seen

-- the same for the steps that shorten a journal
abbrev pub IsSeenToShorten : ShortenStep → (seen : Bool) → Type 0
IsSeenToShorten SyncFolder seen = Unit {0}
IsSeenToShorten step seen = IsTrue seen

abbrev pub IsSeenDueToShorten : Option ShortenStep → (seen : Bool) → Type 0
IsSeenDueToShorten None seen = Unit {0}
IsSeenDueToShorten (Some step) seen = IsSeenToShorten step seen

-- what is to be done if a step or a look failed after these tries, the last first: once the
-- journal was touched, what the disk has of it is not known
abbrev pub end_of_fold : List (FileStep × Bool) → FoldEnd
end_of_fold ((BeginJournal, done) ∷ before) = ReplicaEnds
end_of_fold ((SyncJournal, done) ∷ before) = ReplicaEnds
end_of_fold tries = JournalContinues

abbrev pub end_of_shortening : List ((ShortenStep × List ℕ) × Bool) → FoldEnd
end_of_shortening (((ReplaceJournal, lines), done) ∷ before) = ReplicaEnds
end_of_shortening (((SyncFolder, lines), done) ∷ before) = ReplicaEnds
end_of_shortening tries = JournalContinues

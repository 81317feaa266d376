-- What others made of a file since a replica left it, by what the system says of it.
use Rattle.std.specs.Prelude.{◌≡◌, ◌≢◌, ℕ, ◌⊎◌, List, Option, None, Some, MatchOption}
use Rattle.state_steps.specs.declared.seen_file.FileSeen.{FileSeen}
use Rattle.state_steps.specs.declared.seen_file.FileFate.{FileFate}
use Rattle.state_steps.specs.declared.seen_file.FileFate.TheVariants.{Same, Touched, Changed}
use Rattle.state_steps.specs.declared.seen_file.FileFate.TheVariants.{Replaced}
use Rattle.state_steps.specs.declared.seen_file.LostFile.{LostFile}
use Rattle.state_steps.specs.declared.seen_file.LostFile.TheVariants.{Lock, Journal, JournalText}
use Rattle.state_steps.specs.declared.seen_file.LostFile.TheVariants.{State}

-- It is the file that was left.
abbrev pub IsThatFile : FileSeen → FileSeen → Type 0
IsThatFile left found = (found.device ≡ left.device) × (found.number ≡ left.number)

-- It has the same number of bytes, which were changed last at the same time.
abbrev pub HasThatText : FileSeen → FileSeen → Type 0
HasThatText left found = (found.bytes ≡ left.bytes) × (found.changed ≡ left.changed)

-- This became of the file that was left, if that is found under its name.
abbrev pub IsFateOf : FileSeen → Option FileSeen → FileFate → Type 0
IsFateOf left found Same = MatchOption found ⊥
    (λ it. IsThatFile left it × HasThatText left it × (it.touched ≡ left.touched))
IsFateOf left found Touched = MatchOption found ⊥
    (λ it. IsThatFile left it × HasThatText left it × (it.touched ≢ left.touched))
IsFateOf left found Changed = MatchOption found ⊥
    (λ it. IsThatFile left it × (HasThatText left it → ⊥))
IsFateOf left found Replaced = MatchOption found (Unit {0}) (λ it. IsThatFile left it → ⊥)

-- The same for one that was written here since, so that its times are not known: it is never only
-- touched.
abbrev pub IsWrittenFateOf : FileSeen → Option FileSeen → FileFate → Type 0
IsWrittenFateOf left found Same = MatchOption found ⊥
    (λ it. IsThatFile left it × (it.bytes ≡ left.bytes))
IsWrittenFateOf left found Touched = ⊥
IsWrittenFateOf left found Changed = MatchOption found ⊥
    (λ it. IsThatFile left it × (it.bytes ≢ left.bytes))
IsWrittenFateOf left found Replaced = MatchOption found (Unit {0})
    (λ it. IsThatFile left it → ⊥)

-- If the files of a state have these fates, this one is lost, or none. A lock has no text that
-- counts.
abbrev pub IsLostOf : FileFate → FileFate → FileFate → Option LostFile → Type 0
IsLostOf lock journal state None = (lock ≢ Replaced) × (journal ≡ Same) × (state ≡ Same)
IsLostOf lock journal state (Some Lock) = lock ≡ Replaced
IsLostOf lock journal state (Some Journal) = (lock ≢ Replaced) × (journal ≡ Replaced)
IsLostOf lock journal state (Some JournalText) = (lock ≢ Replaced)
    × ((journal ≡ Changed) ⊎ (journal ≡ Touched))
IsLostOf lock journal state (Some State) = (lock ≢ Replaced) × (journal ≡ Same) × (state ≢ Same)

-- Both heads say a configuration, and it is one.
abbrev pub SaysOneConfig : Option (List ℕ) → Option (List ℕ) → Type 0
SaysOneConfig state kept = MatchOption state ⊥ (λ head. kept ≡ Some head)

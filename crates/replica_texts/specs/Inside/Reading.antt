-- How the text of a snapshot is read, line by line.
use Rattle.std.specs.Prelude.{◌≡◌, ℕ, ◌+◌, List, [], ◌∷◌, ◌++◌, Bool, true, false, Option, length}
use Rattle.std.specs.Io.KnownBytes.{Consumes}
use Rattle.fed_config.specs.Configuration.{Configuration}
use Rattle.receipt_core.specs.Acceptance.{Meaning, IsMeaning}
use Rattle.byte_lines.specs.Lines.{HasLine, HasMore}
use Rattle.replica_texts.specs.Snapshots.{FitsFormat, RefusesNext, text_of_lines, held_lines}
use Rattle.replica_texts.specs.Snapshots.{count_line, header_of, next_number, ended}
use Rattle.replica_texts.specs.declared.format.Format.{Format}
use Rattle.replica_core.specs.declared.error.SyncError.{SyncError}
use Rattle.replica_core.specs.declared.error.SyncError.TheVariants.{NotCanonical}
use Rattle.replica_core.specs.declared.error.SyncError.TheVariants.{Io, NoMemory}

-- It has the parts of a first line.
pub record IsSplit (text digits number : List ℕ) : Type 0 where
  pub whole : text ≡ header_of digits number
  pub size : length digits ≡ 64

-- It is the line of one more receipt or record, and that is held now.
pub record IsFurther (format : Format) (old : Meaning) (text : List ℕ)
    (new : Meaning) : Type 0 where
  pub of_config : new.config ≡ old.config
  pub fits : FitsFormat format new
  pub lines : held_lines new ≡ held_lines old ++ text ∷ []
  pub number : next_number new ≡ next_number old + 1

-- It is the last line, with the numbers.
pub record IsLastLine (format : Format) (old : Meaning) (text : List ℕ)
    (new : Meaning) : Type 0 where
  pub same : new ≡ old
  pub text_is : text ≡ count_line format old

-- whether it is not the last one
abbrev pub Judges : Format → Meaning → List ℕ → Meaning → Bool → Type 0
Judges format old text new true = IsFurther format old text new
Judges format old text new false = IsLastLine format old text new

pub record StepsThroughSnapshot (format : Format) (old : Meaning) (before : Option (List ℕ))
    (new : Meaning) (after : Option (List ℕ)) (more : Bool) : Type 0 where
  pub text : List ℕ
  pub is : HasLine before after text
  pub judged : Judges format old text new more

-- The stream begins with the lines of what is held, and `left` is what follows them.
pub record Holds (config : Configuration) (stream : Option (List ℕ)) (format : Format) (m : Meaning)
    (left : Option (List ℕ)) : Type 0 where
  pub of_config : m.config ≡ config
  pub fits : FitsFormat format m
  pub text : Consumes stream left (text_of_lines (held_lines m))

-- They are all, and the last line follows.
pub record HoldsAll (config : Configuration) (stream : Option (List ℕ)) (format : Format)
    (m : Meaning) (left : Option (List ℕ)) (number : ℕ) : Type 0 where
  pub of_config : m.config ≡ config
  pub valid : IsMeaning m
  pub fits : FitsFormat format m
  pub text : Consumes stream left (text_of_lines (held_lines m) ++ ended (count_line format m))
  pub next : number ≡ next_number m + 1

pub record FailsAfter (config : Configuration) (stream : Option (List ℕ)) (format : Format)
    (e : SyncError) : Type 0 where
  pub m : Meaning
  pub left : Option (List ℕ)
  pub holds : Holds config stream format m left
  pub valid : IsMeaning m
  pub cause : RefusesNext format m left e

-- a byte follows although the stream should end
abbrev pub RefusesEnd : ℕ → Option (List ℕ) → SyncError → Type 0
RefusesEnd number stream (NotCanonical n) = (n ≡ number) × HasMore stream
RefusesEnd number stream Io = Unit {0}
RefusesEnd number stream NoMemory = Unit {0}
RefusesEnd number stream _ = ⊥

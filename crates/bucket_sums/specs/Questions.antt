-- The texts of a session that begins with sums: the question and its answer. Each begins with the
-- line with which a snapshot does, which has the configuration's digest and the format.
use Rattle.std.specs.Prelude.{◌≡◌, ℕ, ◌+◌, ◌<◌, ◌⊎◌, Bool, true, false, List, [], ◌∷◌, ◌++◌, length}
use Rattle.std.specs.Prelude.{if◌then◌else◌}
use Rattle.std.specs.List.{AllByRecursion}
use Rattle.fed_config.specs.Configuration.{Configuration}
use Rattle.byte_lines.specs.Lines.{HasNoFeed}
use Rattle.replica_core.specs.declared.error.SyncError.{SyncError}
use Rattle.replica_core.specs.declared.error.SyncError.TheVariants.{BadHeader, NotCanonical}
use Rattle.replica_core.specs.declared.error.SyncError.TheVariants.{NoMemory}
use Rattle.replica_texts.specs.Snapshots.{ended, text_of_lines}
use Rattle.replica_texts.specs.SoleLines.{RefusesSoleHeader, written_header}
use Rattle.bucket_sums.specs.Lines.{marks_line, sums_text}

-- ---- what is written

-- the question: the first line, and a line for each sum
abbrev pub sums_question : Configuration → List (List ℕ) → List ℕ
sums_question config sums = ended (written_header config) ++ sums_text sums

-- the answer: the first line, and the marks as a line
abbrev pub sums_answer : Configuration → List Bool → List ℕ
sums_answer config marks = ended (written_header config) ++ ended (marks_line marks)

-- ---- what is read

-- how many bytes a line of a question or of its answer may have, without its line feed
abbrev pub longest_line : ℕ
longest_line = 512

-- the whole lines that came: none; or the first line, and these
abbrev pub headed : Configuration → Bool → List (List ℕ) → List (List ℕ)
headed config begun lines = if begun then written_header config ∷ lines else []

-- the error of a line that is too long, if this many lines came after the first
abbrev pub long_fault : Bool → ℕ → SyncError
long_fault begun lines = if begun then NotCanonical (lines + 2) else BadHeader

-- a line that should be of a kind, and is not
abbrev pub IsOtherLine : (List ℕ → Type 0) → ℕ → List ℕ → SyncError → Type 0
IsOtherLine IsLine lines text e = (e ≡ NotCanonical (lines + 2)) × (IsLine text → ⊥)

-- what is wrong with the line that is next, if this many lines came after the first
abbrev pub RefusesLineOf : (List ℕ → Type 0) → Configuration → Bool → ℕ → List ℕ → SyncError
    → Type 0
RefusesLineOf IsLine config false lines text e = RefusesSoleHeader config text e
RefusesLineOf IsLine config true lines text e = IsOtherLine IsLine lines text e

-- After the text, which has no line feed, comes one.
pub record HasFeedNext (rest : List ℕ) : Type 0 where
  pub after : List ℕ
  pub feed : rest ≡ 10 ∷ after

-- The bytes do not begin with the first line of a question: their first line is too long for one,
-- or is another one.
pub record IsPlain (config : Configuration) (bytes : List ℕ) : Type 0 where
  pub text : List ℕ
  pub rest : List ℕ
  pub plain : HasNoFeed text
  pub parts : bytes ≡ text ++ rest
  pub cause : (longest_line < length text)
      ⊎ (HasFeedNext rest × RefusesSoleHeader config text BadHeader)

-- why the text is not read: memory ran out, or it is too long, or it is a whole line with an error
abbrev pub RefusesText : (List ℕ → Type 0) → Configuration → Bool → ℕ → List ℕ → List ℕ
    → SyncError → Type 0
RefusesText IsLine config begun lines text rest e = (e ≡ NoMemory)
    ⊎ (((longest_line < length text) × (e ≡ long_fault begun lines))
    ⊎ (HasFeedNext rest × RefusesLineOf IsLine config begun lines text e))

-- These lines of what came are read, the text after them has this error, and `rest` is what
-- follows.
pub record StopsAtLine (IsLine : List ℕ → Type 0) (config : Configuration) (came : List ℕ)
    (e : SyncError) : Type 0 where
  pub begun : Bool
  pub lines : List (List ℕ)
  pub each : AllByRecursion IsLine lines
  pub text : List ℕ
  pub plain : HasNoFeed text
  pub rest : List ℕ
  pub bytes : came ≡ text_of_lines (headed config begun lines) ++ (text ++ rest)
  pub cause : RefusesText IsLine config begun (length lines) text rest e

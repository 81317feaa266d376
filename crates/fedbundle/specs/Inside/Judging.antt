-- What taking the lines of a stream, one after another, has done so far.
use Rattle.std.specs.Prelude.{◌≡◌, ℕ, ◌≤◌, ◌⊎◌, List, [], length, flat_map, Bool, true, Option}
use Rattle.std.specs.Prelude.{Some, None, Result, Ok, Err}
use Rattle.std.specs.Io.KnownBytes.{Appends}
use Rattle.fed_config.specs.Configuration.{Configuration}
use Rattle.receipt_core.specs.Acceptance.{Meaning}
use Rattle.byte_lines.specs.Device.{AppendsBeginning}
use Rattle.receipt_core.specs.Line.{IsLine}
use Rattle.byte_lines.specs.Lines.{Lines}
use Rattle.receipt_core.specs.Receipt.{Receipt}
use Rattle.closure_core.specs.Changes.{HeldAndRoom, TakesOk}
use Rattle.closure_core.specs.Refusals.{IsOneTooMany}
use Rattle.closure_core.specs.declared.outcome.Taken.{Taken}
use Rattle.fedbundle.specs.Stream.{AreTaken, OverfillStore, IsRefusedLine, NumberedError}
use Rattle.fedbundle.specs.Stream.{AreLineErrors}
use Rattle.fedbundle.specs.Stream.{line_error_text}
use Rattle.receipt_core.specs.Limits.{receipt_limit}
use Rattle.fedbundle.specs.Report.{BeginsReporting}
use Rattle.fedbundle.specs.declared.line_fault.LineFault.{LineFault}
use Rattle.command_exits.specs.declared.run_error.RunError.{RunError}
use Rattle.command_exits.specs.declared.run_error.RunError.TheVariants.{Full, NoMemory, Io}

-- ---- one line

-- It is the line of a receipt that was taken, or is held already.
pub record TakesReceiptText (old : HeldAndRoom) (text : List ℕ) (new : HeldAndRoom) : Type 0 where
  pub receipt : Receipt
  pub is : IsLine text receipt
  pub taken : Taken
  pub took : TakesOk old receipt new taken

-- It is refused, and nothing is taken.
pub record RefusesReceiptText (old : HeldAndRoom) (text : List ℕ) (new : HeldAndRoom)
    (why : LineFault) : Type 0 where
  pub refused : IsRefusedLine old.meaning.config text why
  pub same : new.meaning ≡ old.meaning

-- It is the line of a receipt for which there is no place.
pub record IsTextTooMany (old : HeldAndRoom) (text : List ℕ) : Type 0 where
  pub receipt : Receipt
  pub is : IsLine text receipt
  pub full : IsOneTooMany old.meaning receipt

abbrev pub JudgesText : HeldAndRoom → List ℕ → HeldAndRoom → Option LineFault → Type 0
JudgesText old text new None = TakesReceiptText old text new
JudgesText old text new (Some why) = RefusesReceiptText old text new why

abbrev pub FailsText : HeldAndRoom → List ℕ → RunError → Type 0
FailsText old text Full = IsTextTooMany old text
FailsText old text NoMemory = Unit {0}
FailsText old text Io = ⊥

-- The line error was written, and nothing is taken.
pub record NamesLineErrors (old : HeldAndRoom) (text : List ℕ) (number : ℕ) (new : HeldAndRoom)
    (stated reports : Option (List ℕ)) : Type 0 where
  pub why : LineFault
  pub refuses : RefusesReceiptText old text new why
  pub now : Appends stated reports (line_error_text (record { number = number; why = why }))

-- A beginning of the line error was written.
pub record BeginsReportingOf (old : HeldAndRoom) (text : List ℕ) (number : ℕ)
    (stated reports : Option (List ℕ)) : Type 0 where
  pub why : LineFault
  pub refused : IsRefusedLine old.meaning.config text why
  pub begun : AppendsBeginning stated reports (line_error_text (record {
    number = number;
    why = why;
  }))

abbrev pub TriesText : HeldAndRoom → List ℕ → ℕ → HeldAndRoom → Option (List ℕ) → Option (List ℕ)
    → Bool → Result ℕ RunError → Type 0
TriesText old text number new stated reports failed
    (Ok n) = (TakesReceiptText old text new × (reports ≡ stated) × (n ≡ 0))
    ⊎ (NamesLineErrors old text number new stated reports × (n ≡ 1))
TriesText old text number new stated reports failed (Err Full) = IsTextTooMany old text
    × (reports ≡ stated)
TriesText old text number new stated reports failed (Err NoMemory) = (reports ≡ stated)
TriesText old text number new stated reports failed (Err Io) = (failed ≡ true)
    × BeginsReportingOf old text number stated reports

-- ---- all lines

-- What is held is what is taken of the lines, and all line errors were written, n of them.
pub record HasJudged (c : Configuration) (lines : Lines) (m : Meaning)
    (stated reports : Option (List ℕ)) (n : ℕ) : Type 0 where
  pub config : m.config ≡ c
  pub records : m.records ≡ []
  pub taken : AreTaken c lines.whole m.held
  pub few : length m.held ≤ receipt_limit c
  pub line_errors : List NumberedError
  pub all : AreLineErrors c lines line_errors
  pub stating : Appends stated reports (flat_map line_error_text line_errors)
  pub counted : n ≡ length line_errors

abbrev pub StopsJudging : Configuration → Lines → Option (List ℕ) → Option (List ℕ) → RunError
    → Type 0
StopsJudging c lines stated reports Full = OverfillStore c lines.whole
    × BeginsReporting c lines stated reports
StopsJudging c lines stated reports NoMemory = BeginsReporting c lines stated reports
StopsJudging c lines stated reports Io = BeginsReporting c lines stated reports

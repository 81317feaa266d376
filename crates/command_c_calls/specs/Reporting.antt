-- What the lines of a text result in, under a configuration that is bytes too.
use Rattle.std.specs.Prelude.{◌≡◌, ℕ, List, length}
use Rattle.byte_lines.specs.Lines.{lines_of}
use Rattle.fed_config.specs.Configuration.{Configuration}
use Rattle.fed_config.specs.Reading.{IsConfig, RefusesConfigBytes}
use Rattle.receipt_core.specs.Receipt.{Receipt}
use Rattle.bundle_view.specs.Report.{IsReport}
use Rattle.fedbundle.specs.Report.{meaning_of_receipts}
use Rattle.fedbundle.specs.Stream.{AreTaken, OverfillStore, NumberedError, AreLineErrors}
use Rattle.replica_c_calls.specs.declared.call_error.CallError.{CallError}
use Rattle.replica_c_calls.specs.declared.call_error.CallError.TheVariants.{Config, Full, NoMemory}
use Rattle.command_c_calls.specs.declared.reported_lines.ReportedLines.{ReportedLines}

-- The report is that of the receipts of the lines that fit, and the other lines are counted.
pub record ReportsLineText (c : Configuration) (text : List ℕ)
    (reported : ReportedLines) : Type 0 where
  pub receipts : List Receipt
  pub taken : AreTaken c (lines_of text).whole receipts
  pub report : IsReport (meaning_of_receipts c receipts) reported.report.items
  pub line_errors : List NumberedError
  pub all : AreLineErrors c (lines_of text) line_errors
  pub counted : reported.refused ≡ length line_errors

-- More receipts fit than are held, or memory ran out.
abbrev pub RefusesLineText : Configuration → List ℕ → CallError → Type 0
RefusesLineText c text Full = OverfillStore c (lines_of text).whole
RefusesLineText c text NoMemory = Unit {0}
RefusesLineText c text _ = ⊥

-- That, under the configuration that the bytes say.
pub record ReportsBytes (config text : List ℕ) (reported : ReportedLines) : Type 0 where
  pub configuration : Configuration
  pub is : IsConfig config configuration
  pub reports : ReportsLineText configuration text reported

pub record RefusesReport (config text : List ℕ) (e : CallError) : Type 0 where
  pub configuration : Configuration
  pub is : IsConfig config configuration
  pub refuses : RefusesLineText configuration text e

abbrev pub RefusesReportBytes : List ℕ → List ℕ → CallError → Type 0
RefusesReportBytes config text (Config e) = RefusesConfigBytes config e
RefusesReportBytes config text e = RefusesReport config text e

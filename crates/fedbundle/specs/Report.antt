-- What a run of `report` does. `line_errors` is the sink of what is reported of single lines.
use Rattle.std.specs.Prelude.{◌≡◌, ℕ, ◌≤◌, ◌⊎◌, List, [], length, flat_map, Option, IfSome}
use Rattle.std.specs.Prelude.{Result, Ok, Err, IsErrOf}
use Rattle.std.specs.Io.KnownBytes.{Appends}
use Rattle.byte_lines.specs.Device.{AppendsBeginning}
use Rattle.byte_lines.specs.Lines.{Lines, lines_of}
use Rattle.fed_config.specs.Configuration.{Configuration}
use Rattle.receipt_core.specs.Acceptance.{Meaning}
use Rattle.receipt_core.specs.Receipt.{Receipt}
use Rattle.bundle_view.specs.Report.{WritesReport, BeginsReport}
use Rattle.command_line.specs.declared.option_texts.OutputForm.{OutputForm}
use Rattle.command_line.specs.declared.option_texts.OutputForm.TheVariants as output
use Rattle.json_reports.specs.ReportJson.{IsReportJson}
use Rattle.text_lines.specs.TextLines.{BeginsSome, WritesSome}
use Rattle.fedbundle.specs.CommandRun.{CommandRun, IsReadOut, WritesNothing}
use Rattle.command_exits.specs.DeviceRuns.{DeviceRun}
use Rattle.fedbundle.specs.CommandRun.{IsAsSound}
use Rattle.command_exits.specs.DeviceRuns.{HasFailed}
use Rattle.receipt_core.specs.Limits.{receipt_limit}
use Rattle.fedbundle.specs.Stream.{AreTaken, OverfillStore, NumberedError, AreLineErrors}
use Rattle.fedbundle.specs.Stream.{AreFirstLineErrors, line_error_text}
use Rattle.command_exits.specs.declared.run_error.RunError.{RunError}
use Rattle.command_exits.specs.declared.run_error.RunError.TheVariants.{Full, NoMemory, Io}

-- ---- what is written

-- these receipts, and no record of distrust
abbrev pub meaning_of_receipts : Configuration → List Receipt → Meaning
meaning_of_receipts c receipts = record { config = c; held = receipts; records = [] }

-- exactly the report was written, as text or as JSON
abbrev pub WritesReportIn : OutputForm → Meaning → (old new : Option (List ℕ)) → Type 0
WritesReportIn output.Text m old new = WritesReport m old new
WritesReportIn output.Json m old new = WritesSome (IsReportJson m) old new

-- a beginning of the report was written
abbrev pub BeginsReportIn : OutputForm → Meaning → (old new : Option (List ℕ)) → Type 0
BeginsReportIn output.Text m old new = BeginsReport m old new
BeginsReportIn output.Json m old new = BeginsSome (IsReportJson m) old new

-- The report of the receipts that are taken of these lines was written, and nothing else.
pub record PrintsReport (form : OutputForm) (sink : DeviceRun) (c : Configuration)
    (lines : Lines) : Type 0 where
  pub receipts : List Receipt
  pub taken : AreTaken c lines.whole receipts
  pub few : length receipts ≤ receipt_limit c
  pub report : WritesReportIn form (meaning_of_receipts c receipts) sink.before sink.after

-- The sink failed, after a beginning of that report.
pub record CutsReport (form : OutputForm) (sink : DeviceRun) (c : Configuration)
    (lines : Lines) : Type 0 where
  pub receipts : List Receipt
  pub taken : AreTaken c lines.whole receipts
  pub begun : BeginsReportIn form (meaning_of_receipts c receipts) sink.before sink.after

-- ---- what is reported

-- All line errors of the lines were written, n of them.
pub record ReportsAll (line_errors : DeviceRun) (c : Configuration) (lines : Lines)
    (n : ℕ) : Type 0 where
  pub list : List NumberedError
  pub all : AreLineErrors c lines list
  pub stating : Appends line_errors.before line_errors.after (flat_map line_error_text list)
  pub counted : n ≡ length list

-- A beginning of the line errors was written, perhaps all of them.
pub record BeginsReporting (c : Configuration) (lines : Lines)
    (stated reports : Option (List ℕ)) : Type 0 where
  pub line_errors : List NumberedError
  pub first : AreFirstLineErrors c lines line_errors
  pub begun : AppendsBeginning stated reports (flat_map line_error_text line_errors)

-- ---- a run

-- The source or `line_errors` failed before anything of the report was written; or the report's
-- sink failed.
abbrev pub FailsReport : OutputForm → CommandRun → DeviceRun → Configuration → Type 0
FailsReport form run line_errors c =
    ((HasFailed run.source ⊎ HasFailed line_errors) × WritesNothing run.sink)
    ⊎ (HasFailed run.sink
    × IfSome run.source.before (λ bytes. CutsReport form run.sink c (lines_of bytes)))

-- By the error: there are too many receipts, or memory ran out, and nothing of the report was
-- written; or a device failed.
abbrev pub StopsReport : OutputForm → CommandRun → DeviceRun → Configuration → RunError → Type 0
StopsReport form run line_errors c Full = WritesNothing run.sink
    × IfSome run.source.before (λ bytes. OverfillStore c (lines_of bytes).whole)
StopsReport form run line_errors c NoMemory = WritesNothing run.sink
StopsReport form run line_errors c Io = FailsReport form run line_errors c

-- By the answer: the report was written and all line errors, n of them; or the run stopped, and
-- a beginning of the line errors was written. If the source's bytes are not known, nothing is
-- said of its lines.
abbrev pub AnswersReport : OutputForm → CommandRun → DeviceRun → Configuration
    → Result ℕ RunError → Type 0
AnswersReport form run line_errors c (Ok n) = IsReadOut run.source
    × IfSome run.source.before
    (λ bytes. PrintsReport form run.sink c (lines_of bytes)
    × ReportsAll line_errors c (lines_of bytes) n)
AnswersReport form run line_errors c (Err e) = StopsReport form run line_errors c e
    × IfSome run.source.before
    (λ bytes. BeginsReporting c (lines_of bytes) line_errors.before line_errors.after)

-- the form of the report, and by which configuration
pub record AskedReport : Type 0 where
  pub form : OutputForm
  pub config : Configuration

abbrev pub report_asked : OutputForm → Configuration → AskedReport
report_asked form config = record { form = form; config = config }

-- That, and no error of a device is passed over, or reported as another error.
pub record RunsReport (run : CommandRun) (line_errors : DeviceRun) (asked : AskedReport)
    (result : Result ℕ RunError) : Type 0 where
  pub answer : AnswersReport asked.form run line_errors asked.config result
  pub sound : (IsErrOf result Io → ⊥)
      → IsAsSound run.source × IsAsSound run.sink × IsAsSound line_errors

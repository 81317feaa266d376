-- What a command that shows what is held does, by what its functions answer
use Rattle.std.proofs.Common.{◌≡◌, ℕ, ℤ, Bool, List, Option, Some, Result, Err, refl, subst, sym}
use Rattle.byte_lines.specs.declared.error.DeviceError.{DeviceError}
use Rattle.byte_lines.specs.declared.error.DeviceError.TheVariants.{Io as SourceFailed}
use Rattle.byte_lines.specs.declared.error.DeviceError.TheVariants.{NoMemory as NoMemoryForBytes}
use Rattle.bundle_view.specs.Report.{BeginsReport, IsReport}
use Rattle.bundle_view.specs.declared.error.ReportError.{ReportError}
use Rattle.bundle_view.specs.declared.error.ReportError.TheVariants.{Io as SinkFailed}
use Rattle.bundle_view.specs.declared.error.ReportError.TheVariants.{NoMemory as NoMemoryForReport}
use Rattle.receipt_core.specs.Acceptance.{Meaning}
use Rattle.text_lines.specs.TextLines.{BeginsSome}
use Rattle.fedbundle.specs.CommandRun.{CommandRun, WritesNothing}
use Rattle.command_exits.specs.DeviceRuns.{DeviceRun, HasFailed}
use Rattle.command_exits.specs.Errors.{of_read, of_report, of_run}
use Rattle.fedbundle.specs.Polls.{RunsPollsIn, polls_call}
use Rattle.fedbundle.specs.Shown.{IsListIn, IsUntouched, RefusesUnwritten, RunsWriter, ShownCall, ShowsBy, ShowsPolled, ShowsSight, StatusSight, polls_form}
use Rattle.poll_view.specs.declared.polls_writer.PollsForm.{PollsForm}
use Rattle.command_line.specs.declared.option_texts.OutputForm.{OutputForm}
use Rattle.command_exits.specs.declared.error.CommandError.{CommandError}
use Rattle.command_line.specs.declared.command_name.CommandName.{CommandName}
use Rattle.command_line.specs.declared.command_name.CommandName.TheVariants as command
use Rattle.command_exits.specs.declared.exits.Exit.{Exit}
use Rattle.command_exits.specs.declared.exits.Exit.TheVariants.{Usage}

-- arguments that are refused before a device is touched
pub refused_words : (Ends : Exit → Type 0) (sink : DeviceRun) (exit : Exit) → Ends exit → IsUntouched sink → RefusesUnwritten Ends sink (Err exit)
refused_words Ends sink exit ends untouched = record { exit = exit; ends = ends; is = refl; unwritten = untouched }

-- a writer over a device failed
pub writer_failed : (T : Type 0) (Is : List ℕ → Type 0) (sink : DeviceRun) (e : DeviceError)
    → (e ≡ SourceFailed → HasFailed sink × BeginsSome Is sink.before sink.after) → (e ≡ NoMemoryForBytes → WritesNothing sink)
    → RunsWriter {T = T} Is sink (Err (of_read e))
writer_failed T Is sink SourceFailed failed same = failed refl
writer_failed T Is sink NoMemoryForBytes failed same = same refl

-- the same for the report as text
pub report_failed : (T : Type 0) (m : Meaning) (sink : DeviceRun) (e : ReportError)
    → (e ≡ SinkFailed → HasFailed sink × BeginsReport m sink.before sink.after) → (e ≡ NoMemoryForReport → WritesNothing sink)
    → RunsWriter {T = T} (IsReport m) sink (Err (of_run (of_report e)))
report_failed T m sink SinkFailed failed same =
    let begun = failed refl in (begun.0, record { text = begun.1.text; is = begun.1.report; begun = begun.1.begun })
report_failed T m sink NoMemoryForReport failed same = same refl

-- the times of polls in the form that the arguments say
pub polls_as : (run : CommandRun) (m : Meaning) (now : ℤ) (form : PollsForm) (output : OutputForm) (answer : Result (Unit {0}) CommandError)
    → form ≡ polls_form output → RunsPollsIn run m (polls_call form now) answer → RunsPollsIn run m (polls_call (polls_form output) now) answer
polls_as run m now form output answer is runs = subst (λ f. RunsPollsIn run m (polls_call f now) answer) is runs

-- what the command of this name does is what the call does
pub shows_as : (name other : CommandName) (call : ShownCall) (run : CommandRun) (result : Result ℕ Exit) → name ≡ other
    → ShowsBy other call run result → ShowsBy name call run result
shows_as name other call run result is shows = subst (λ n. ShowsBy n call run result) (sym is) shows

-- a name other than these is refused
pub none_shown : (name : CommandName) (call : ShownCall) (run : CommandRun) → (name ≡ command.Report → ⊥) → (name ≡ command.List → ⊥)
    → (name ≡ command.Graph → ⊥) → (name ≡ command.Bundle → ⊥) → (name ≡ command.Explain → ⊥) → (name ≡ command.Polls → ⊥)
    → (name ≡ command.Status → ⊥) → (name ≡ command.Distrust → ⊥) → IsUntouched run.sink → IsUntouched run.source → ShowsBy name call run (Err Usage)
none_shown command.Report call run report list graph bundle explain polls status distrust unwritten unread = absurd (report refl)
none_shown command.List call run report list graph bundle explain polls status distrust unwritten unread = absurd (list refl)
none_shown command.Graph call run report list graph bundle explain polls status distrust unwritten unread = absurd (graph refl)
none_shown command.Bundle call run report list graph bundle explain polls status distrust unwritten unread = absurd (bundle refl)
none_shown command.Explain call run report list graph bundle explain polls status distrust unwritten unread = absurd (explain refl)
none_shown command.Polls call run report list graph bundle explain polls status distrust unwritten unread = absurd (polls refl)
none_shown command.Status call run report list graph bundle explain polls status distrust unwritten unread = absurd (status refl)
none_shown command.Distrust call run report list graph bundle explain polls status distrust unwritten unread = absurd (distrust refl)
none_shown name call run report list graph bundle explain polls status distrust unwritten unread =
    (refused_words _ run.sink Usage refl unwritten, unread)

-- the arguments name a file of polls, so the source has them
pub sight_by : (path : List ℕ) (said : Option (List ℕ)) (sight : StatusSight) (run : CommandRun) (result : Result ℕ Exit) → Some path ≡ said
    → ShowsPolled sight run result → ShowsSight said sight run result
sight_by path said sight run result is shows = subst (λ text. ShowsSight text sight run result) is shows

-- what is listed of a domain that is chosen
pub list_chosen : (of_keys : Bool) (form : OutputForm) (m : Meaning) (a b : Option (List ℕ)) (sink : DeviceRun)
    (answer : Result (Unit {0}) CommandError) → a ≡ b → RunsWriter (IsListIn of_keys form m a) sink answer
    → RunsWriter (IsListIn of_keys form m b) sink answer
list_chosen of_keys form m a b sink answer is runs = subst (λ chosen. RunsWriter (IsListIn of_keys form m chosen) sink answer) is runs

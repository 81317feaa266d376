-- What the exports do that hold no replica.
use Rattle.std.specs.Prelude.{◌≡◌, ℕ, ℤ, ◌⊎◌, List}
use Rattle.replica_c_calls.specs.Outcomes.{OutRun, RefusesOut, WritesOut, out_run}
use Rattle.replica_c_calls.specs.declared.call_error.CallError.{CallError}
use Rattle.command_c_calls.specs.Canonical.{WritesCanonBytes, RefusesCanonBytes}
use Rattle.command_c_calls.specs.Reporting.{ReportsBytes, RefusesReportBytes}
use Rattle.command_c_calls.specs.declared.reported_lines.ReportedLines.{ReportedLines}
use Rattle.fedbundle_c.specs.Exports.{BufferRun}

-- what a call counted, how many bytes its text has, and what it returned
pub record StatelessRun : Type 0 where
  pub count : ℕ
  pub length : ℕ
  pub returned : ℤ

-- what a caller reads of a call
abbrev pub out_of_stateless : BufferRun → StatelessRun → OutRun
out_of_stateless buffer run = out_run buffer.before buffer.after run.length run.returned

-- The report is written, or there is no room for it; the lines that do not count are counted.
pub record PutsReport (config lines : List ℕ) (buffer : BufferRun)
    (run : StatelessRun) : Type 0 where
  pub reported : ReportedLines
  pub is : ReportsBytes config lines reported
  pub written : WritesOut reported.report.items (out_of_stateless buffer run)
  pub counted : run.count ≡ reported.refused

-- There is no text, for this cause, and the buffer is as it was.
pub record RefusesCall (Q : CallError → Type 0) (buffer : BufferRun)
    (run : StatelessRun) : Type 0 where
  pub error : CallError
  pub cause : Q error
  pub refused : RefusesOut error (out_of_stateless buffer run)
  pub counted : run.count ≡ 0

abbrev pub ReportsByBytes : List ℕ → List ℕ → BufferRun → StatelessRun → Type 0
ReportsByBytes config lines buffer run = PutsReport config lines buffer run
    ⊎ RefusesCall (RefusesReportBytes config lines) buffer run

-- The text is written, or there is no room for it.
pub record PutsCanon (domain document : List ℕ) (buffer : BufferRun)
    (run : StatelessRun) : Type 0 where
  pub text : List ℕ
  pub is : WritesCanonBytes domain document text
  pub written : WritesOut text (out_of_stateless buffer run)
  pub counted : run.count ≡ 0

abbrev pub CanonsByBytes : List ℕ → List ℕ → BufferRun → StatelessRun → Type 0
CanonsByBytes domain document buffer run = PutsCanon domain document buffer run
    ⊎ RefusesCall (RefusesCanonBytes domain document) buffer run

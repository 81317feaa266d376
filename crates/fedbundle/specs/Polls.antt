-- What a run of `polls` does.
use Rattle.std.specs.Prelude.{◌≡◌, ℕ, ℤ, List, IfSome, Result, Ok, Err}
use Rattle.receipt_core.specs.Acceptance.{Meaning}
use Rattle.poll_log.specs.Polling.{PollStatus, polled_domains, polled}
use Rattle.poll_log.specs.PollLines.{IsLogOf, RefusesPolls}
use Rattle.poll_log.specs.declared.error.PollError.{PollError}
use Rattle.poll_log.specs.declared.error.PollError.TheVariants.{Io as SourceFailed}
use Rattle.poll_view.specs.PollTexts.{IsPollsText}
use Rattle.poll_view.specs.declared.polls_writer.PollsForm.{PollsForm}
use Rattle.fedbundle.specs.CommandRun.{CommandRun, IsReadOut, PrintsText, WritesNothing}
use Rattle.command_exits.specs.DeviceRuns.{DeviceRun}
use Rattle.fedbundle.specs.CommandRun.{CutsOff}
use Rattle.command_exits.specs.DeviceRuns.{HasFailed}
use Rattle.command_exits.specs.declared.error.CommandError.{CommandError}
use Rattle.command_exits.specs.declared.error.CommandError.TheVariants.{Poll, NoMemory, Io}

-- ---- a run

-- The log has each relationship's domain, and is that of the lines that the source had, if it
-- reports them.
pub record ReadsLog (source : DeviceRun) (m : Meaning) (log : List PollStatus) : Type 0 where
  pub domains : polled_domains log ≡ polled m.config
  pub lines : IfSome source.before (λ bytes. IsLogOf (polled m.config) bytes log)

-- The lines have a log, from which this text follows.
pub record HasPollsText (form : PollsForm) (source : DeviceRun) (m : Meaning) (now : ℤ)
    (text : List ℕ) : Type 0 where
  pub log : List PollStatus
  pub reads : ReadsLog source m log
  pub is : IsPollsText form (record { meaning = m; log = log; now = now }) text

-- They have, and the text was written and nothing else.
pub record PrintsPolls (form : PollsForm) (run : CommandRun) (m : Meaning) (now : ℤ) : Type 0 where
  pub text : List ℕ
  pub is : HasPollsText form run.source m now text
  pub read : IsReadOut run.source
  pub written : PrintsText run.sink text

-- They have, and the sink failed after a beginning of the text.
pub record CutsPolls (form : PollsForm) (run : CommandRun) (m : Meaning) (now : ℤ) : Type 0 where
  pub text : List ℕ
  pub is : HasPollsText form run.source m now text
  pub cut : CutsOff run.sink text

-- The lines have none for this cause, or the source failed,
pub record RefusesLog (source : DeviceRun) (m : Meaning) (why : PollError) : Type 0 where
  pub cause : IfSome source.before (λ bytes. RefusesPolls (polled m.config) bytes why)
  pub fault : why ≡ SourceFailed → HasFailed source

-- and nothing was written.
pub record RefusesLines (run : CommandRun) (m : Meaning) (why : PollError) : Type 0 where
  pub cause : IfSome run.source.before (λ bytes. RefusesPolls (polled m.config) bytes why)
  pub fault : why ≡ SourceFailed → HasFailed run.source
  pub unwritten : WritesNothing run.sink

-- at which time polls are shown, and how that is written
pub record PollsCall : Type 0 where
  pub form : PollsForm
  pub now : ℤ

abbrev pub polls_call : PollsForm → ℤ → PollsCall
polls_call form now = record { form = form; now = now }

-- By the answer: the text was written; the sink failed; memory ran out for the text; the lines are
-- refused. There is no other error.
abbrev pub RunsPollsIn : CommandRun → Meaning → PollsCall → Result (Unit {0}) CommandError → Type 0
RunsPollsIn run m call (Ok _) = PrintsPolls call.form run m call.now
RunsPollsIn run m call (Err Io) = CutsPolls call.form run m call.now
RunsPollsIn run m call (Err NoMemory) = WritesNothing run.sink
RunsPollsIn run m call (Err (Poll why)) = RefusesLines run m why
RunsPollsIn run m call (Err _) = ⊥

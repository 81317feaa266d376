-- What a command does that shows what is held: the arguments say what is to be written, and the
-- sink gets that, or the arguments or the command's function refuse it.
use Rattle.std.specs.Prelude.{◌≡◌, ◌⊎◌, ℕ, ℤ, List, [], Bool, true, false, Option, Some, None}
use Rattle.std.specs.Prelude.{Result, Ok, Err, IfOk, if◌then◌else◌, option_map}
use Rattle.spiffe_name.specs.TrustDomain.{IsDomainText}
use Rattle.receipt_core.specs.Acceptance.{Meaning}
use Rattle.bundle_view.specs.Report.{IsReport}
use Rattle.json_reports.specs.ReportJson.{IsReportJson}
use Rattle.key_view.specs.KeysText.{IsKeysText}
use Rattle.key_view.specs.declared.keys_writer.KeysForm.{KeysForm}
use Rattle.key_view.specs.declared.keys_writer.KeysForm.TheVariants as keys
use Rattle.poll_log.specs.Polling.{PollStatus}
use Rattle.poll_log.specs.PollLines.{ReadsSeconds}
use Rattle.poll_log.specs.declared.error.PollError.{PollError}
use Rattle.poll_log.specs.declared.log.PollLog.{PollLog}
use Rattle.replica_view.specs.HeldJson.{IsHeldJson}
use Rattle.replica_view.specs.HeldTexts.{IsHeldText}
use Rattle.replica_view.specs.TrustGraph.{IsGraphText}
use Rattle.poll_view.specs.declared.polls_writer.PollsForm.{PollsForm}
use Rattle.poll_view.specs.declared.polls_writer.PollsForm.TheVariants as polls
use Rattle.status_view.specs.declared.running.RunningStatus.{RunningStatus}
use Rattle.status_view.specs.declared.status_format.StatusFormat.{StatusFormat}
use Rattle.status_view.specs.StatusRuns.{IsWarned}
use Rattle.status_warnings.specs.WarnedStatus.{IsWarnedStatusIn, Watching}
use Rattle.status_warnings.specs.Fetches.{AreFetches}
use Rattle.status_warnings.specs.declared.seen.Fetch.{Fetch}
use Rattle.status_warnings.specs.declared.seen.WarnLimits.{WarnLimits}
use Rattle.text_lines.specs.TextLines.{BeginsSome, WritesSome}
use Rattle.fedbundle.specs.CommandRun.{CommandRun, IsAsSound, IsReadOut}
use Rattle.command_exits.specs.DeviceRuns.{DeviceRun, HasFailed}
use Rattle.fedbundle.specs.CommandRun.{WritesNothing}
use Rattle.fedbundle.specs.CurrentBundle.{RunsBundle, RunsBundlePem}
use Rattle.fedbundle.specs.Distrust.{ShowsDistrust}
use Rattle.fedbundle.specs.Explain.{RunsExplain, explanation_call}
use Rattle.command_line.specs.OptionTexts.{SaysBundleFormat, SaysExplanationIn, SaysOutputForm}
use Rattle.command_line.specs.OptionTexts.{SaysNoBundleFormat, SaysNoExplanationIn}
use Rattle.command_line.specs.OptionTexts.{SaysFlag, SaysNoOutputForm, option_said}
use Rattle.command_line.specs.OptionTexts.{SaysNoWarnTimes, SaysWarnTimes}
use Rattle.fedbundle.specs.OptionValues.{SaysBadMoment, SaysMoment, SaysNoStatusFormat}
use Rattle.fedbundle.specs.OptionValues.{SaysStatusFormat}
use Rattle.fedbundle.specs.Polls.{ReadsLog, RefusesLines, RefusesLog, RunsPollsIn, polls_call}
use Rattle.fedbundle.specs.SaidKeys.{KeysCall, SaysKeys, SaysNoKeys}
use Rattle.fedbundle.specs.SaidValues.{EndsAtDomain, EndsWithout, SaysChosen, SaysNoName}
use Rattle.fedbundle.specs.SaidValues.{texts_of_call}
use Rattle.command_line.specs.declared.option_texts.ExplanationForm.{ExplanationForm}
use Rattle.command_line.specs.declared.command_name.CommandName.{CommandName}
use Rattle.command_line.specs.declared.command_name.CommandName.TheVariants as command
use Rattle.command_line.specs.declared.command_name.OptionName.{OptionName}
use Rattle.command_line.specs.declared.command_name.OptionName.TheVariants.{Domain, Format, Keys}
use Rattle.command_line.specs.declared.command_name.OptionName.TheVariants.{Now, Short}
use Rattle.command_line.specs.declared.command_name.OptionName.TheVariants.{Polls}
use Rattle.command_line.specs.declared.option_error.OptionError.{OptionError}
use Rattle.command_line.specs.declared.option_texts.WarnTimes.{WarnTimes}
use Rattle.command_exits.specs.declared.error.CommandError.{CommandError}
use Rattle.command_exits.specs.declared.error.CommandError.TheVariants.{Io, NoMemory, Poll}
use Rattle.command_exits.specs.declared.exits.Exit.{Exit}
use Rattle.command_exits.specs.Exits.{exit_of_option}
use Rattle.command_exits.specs.declared.exits.Exit.TheVariants.{BadMoment, NoBundle}
use Rattle.command_exits.specs.declared.exits.Exit.TheVariants.{NotAccepted}
use Rattle.command_exits.specs.declared.exits.Exit.TheVariants.{Refused, Usage}
use Rattle.command_line.specs.declared.option_texts.BundleFormat.{BundleFormat}
use Rattle.command_line.specs.declared.option_texts.BundleFormat.TheVariants.{Json, Pem}
use Rattle.command_line.specs.declared.option_texts.OutputForm.{OutputForm}
use Rattle.command_line.specs.declared.option_texts.OutputForm.TheVariants as output
use Rattle.distrust_view.specs.declared.given_keys.GivenKeys.{GivenKeys}
use Rattle.fedbundle.specs.declared.said_keys.Keeper.{Keeper}
use Rattle.fedbundle.specs.declared.said_keys.Keeper.TheVariants.{Files, Replica}
use Rattle.fedbundle.specs.declared.shown.Shown.{Shown}
use Rattle.fedbundle.specs.declared.shown_status.StatusLook.{StatusLook}

-- ---- a call

-- the arguments of a call, what is held, what a running replica says of itself, and the Unix second
pub record ShownCall : Type 0 where
  pub name : CommandName
  pub texts : List (Option (List ℕ))
  pub meaning : Meaning
  pub running : Option RunningStatus
  pub moment : ℤ

abbrev pub shown_call : Shown → Meaning → ShownCall
shown_call shown m = record {
  name = shown.call.now.name;
  texts = texts_of_call shown.call.now;
  meaning = m;
  running = option_map (λ r. r.now) shown.running;
  moment = shown.moment;
}

-- the texts that the arguments give options
abbrev pub chosen_said : CommandName → List (Option (List ℕ)) → Option (List ℕ)
chosen_said name texts = option_said name texts Domain

abbrev pub second_said : CommandName → List (Option (List ℕ)) → Option (List ℕ)
second_said name texts = option_said name texts Now

abbrev pub shown_said : ShownCall → OptionName → Option (List ℕ)
shown_said call option = option_said call.name call.texts option

-- ---- arguments that are refused

abbrev pub IsUntouched : DeviceRun → Type 0
IsUntouched device = (device.after ≡ device.before) × IsAsSound device

-- The arguments are refused for such a cause, and nothing was written.
pub record RefusesUnwritten (Ends : Exit → Type 0) (sink : DeviceRun)
    (result : Result ℕ Exit) : Type 0 where
  pub exit : Exit
  pub ends : Ends exit
  pub is : result ≡ Err exit
  pub unwritten : IsUntouched sink

-- The same for a command that reads: nothing was read.
abbrev pub RefusesUnread : (Exit → Type 0) → CommandRun → Result ℕ Exit → Type 0
RefusesUnread Ends run result = RefusesUnwritten Ends run.sink result × IsUntouched run.source

-- They give the option a text that is not a time.
pub record EndsAtMoment (call : ShownCall) (exit : Exit) : Type 0 where
  pub seconds : List ℕ
  pub is_said : shown_said call Now ≡ Some seconds
  pub none : SaysBadMoment seconds
  pub is : exit ≡ BadMoment

-- The arguments of `report` say no form,
abbrev pub EndsAtReport : ShownCall → Exit → Type 0
EndsAtReport call exit = (exit ≡ Usage) × SaysNoOutputForm (shown_said call Format)

-- those of `list` and of `graph` a domain that is not a name,
abbrev pub EndsAtChosen : CommandName → List (Option (List ℕ)) → Exit → Type 0
EndsAtChosen name texts exit = SaysNoName (chosen_said name texts) exit

-- and those of `list` no form,
abbrev pub EndsAtList : ShownCall → Exit → Type 0
EndsAtList call exit = ((exit ≡ Usage) × SaysNoOutputForm (shown_said call Format))
    ⊎ EndsAtChosen call.name call.texts exit

-- those of `bundle` no domain or no format,
abbrev pub EndsAtBundle : ShownCall → Exit → Type 0
EndsAtBundle call exit = EndsAtDomain call.name call.texts exit
    ⊎ ((exit ≡ Usage) × SaysNoBundleFormat (shown_said call Format))

-- those of `explain` no domain or no form,
abbrev pub EndsAtExplain : ShownCall → Exit → Type 0
EndsAtExplain call exit = EndsAtDomain call.name call.texts exit
    ⊎ ((exit ≡ Usage) × SaysNoExplanationIn (shown_said call Short) (shown_said call Format))

-- those of `polls` no form or no time,
abbrev pub EndsAtPolls : ShownCall → Exit → Type 0
EndsAtPolls call exit = ((exit ≡ Usage) × SaysNoOutputForm (shown_said call Format))
    ⊎ (EndsWithout Now call.name call.texts exit ⊎ EndsAtMoment call exit)

-- and those of `status` no format, no second, or a number out of its range.
abbrev pub EndsAtSecond : Option (List ℕ) → Exit → Type 0
EndsAtSecond None exit = ⊥
EndsAtSecond (Some text) exit = ReadsSeconds text None × (exit ≡ BadMoment)

-- They say no times of which something is warned.
pub record EndsAtTimes (name : CommandName) (texts : List (Option (List ℕ)))
    (exit : Exit) : Type 0 where
  pub error : OptionError
  pub none : SaysNoWarnTimes name texts error
  pub is : exit ≡ exit_of_option error

abbrev pub EndsAtLimits : CommandName → List (Option (List ℕ)) → Exit → Type 0
EndsAtLimits name texts exit =
    EndsAtSecond (second_said name texts) exit ⊎ EndsAtTimes name texts exit

abbrev pub EndsAtStatus : ShownCall → Exit → Type 0
EndsAtStatus call exit = ((exit ≡ Usage) × SaysNoStatusFormat (shown_said call Format))
    ⊎ EndsAtLimits call.name call.texts exit

-- ---- what is written

-- By the answer: such a text was written, and nothing else; the sink failed after a beginning of
-- one; memory ran out before anything was written. There is no other error.
abbrev pub RunsWriter : {T : Type 0} → (List ℕ → Type 0) → DeviceRun → Result T CommandError
    → Type 0
RunsWriter Is sink (Ok _) = WritesSome Is sink.before sink.after
RunsWriter Is sink (Err Io) = HasFailed sink × BeginsSome Is sink.before sink.after
RunsWriter Is sink (Err NoMemory) = WritesNothing sink
RunsWriter Is sink (Err _) = ⊥

-- the report as text or as JSON
abbrev pub IsReportIn : OutputForm → Meaning → List ℕ → Type 0
IsReportIn output.Text m text = IsReport m text
IsReportIn output.Json m text = IsReportJson m text

abbrev pub polls_form : OutputForm → PollsForm
polls_form output.Text = polls.Lines
polls_form output.Json = polls.Json

-- what is held, as lines or as JSON, or the keys that are known
abbrev pub keys_form : OutputForm → KeysForm
keys_form output.Text = keys.Lines
keys_form output.Json = keys.Json

abbrev pub IsListIn : (of_keys : Bool) → OutputForm → Meaning → Option (List ℕ) → List ℕ → Type 0
IsListIn true form m chosen text = IsKeysText (keys_form form) m chosen text
IsListIn false output.Text m chosen text = IsHeldText m chosen text
IsListIn false output.Json m chosen text = IsHeldJson m chosen text

-- ---- what `status` looks at

-- the second that the arguments say, or the other one
abbrev pub SaysSecond : ℤ → Option (List ℕ) → ℤ → Type 0
SaysSecond otherwise None second = second ≡ otherwise
SaysSecond otherwise (Some text) second = ReadsSeconds text (Some second)

abbrev pub times_of : WarnLimits → WarnTimes
times_of limits = record {
  expires_within = limits.expires_within;
  peer_quiet = limits.peer_quiet;
}

-- By which limits is warned: the arguments say that, and the other second if they say none.
pub record SaysLimits (moment : ℤ) (name : CommandName) (texts : List (Option (List ℕ)))
    (limits : WarnLimits) : Type 0 where
  pub second : SaysSecond moment (second_said name texts) limits.moment
  pub times : SaysWarnTimes name texts (times_of limits)

-- what is held, the limits, what a running replica says of itself, and how that is written
pub record StatusSight : Type 0 where
  pub meaning : Meaning
  pub limits : WarnLimits
  pub running : Option RunningStatus
  pub format : StatusFormat

abbrev pub look_with : StatusLook → Meaning → StatusSight
look_with look m = record {
  meaning = m;
  limits = look.limits;
  running = option_map (λ r. r.now) look.running;
  format = look.format;
}

abbrev pub sight_of_call : ShownCall → WarnLimits → StatusFormat → StatusSight
sight_of_call call limits format = record {
  meaning = call.meaning;
  limits = limits;
  running = call.running;
  format = format;
}

abbrev pub watched_by : StatusSight → List Fetch → Watching
watched_by sight fetches = record {
  limits = sight.limits;
  running = sight.running;
  fetches = fetches;
}

-- The source had the lines of this log of polls; or the first bad line is refused, or it failed.
abbrev pub ReadsPollLog : Meaning → DeviceRun → Result PollLog CommandError → Type 0
ReadsPollLog m source (Ok log) = ReadsLog source m log × IsReadOut source
ReadsPollLog m source (Err (Poll why)) = RefusesLog source m why
ReadsPollLog m source (Err _) = ⊥

-- ---- how a command ends, by the answer of its function

abbrev pub exit_if_done : Result (Unit {0}) CommandError → Result ℕ Exit
exit_if_done (Ok _) = Ok 0
exit_if_done (Err e) = Err (Refused e)

-- This exit is that of a command that had nothing to write.
abbrev pub exit_if_written : Exit → Result Bool CommandError → Result ℕ Exit
exit_if_written exit (Ok true) = Ok 0
exit_if_written exit (Ok false) = Err exit
exit_if_written exit (Err e) = Err (Refused e)

-- A warning makes the exit status 1.
abbrev pub exit_if_warned : Result Bool CommandError → Result ℕ Exit
exit_if_warned (Ok warned) = Ok (if warned then 1 else 0)
exit_if_warned (Err e) = Err (Refused e)

-- ---- each command, if its arguments are good

-- the report, in the form that the arguments say
pub record ShowsReportSaid (call : ShownCall) (sink : DeviceRun)
    (result : Result ℕ Exit) : Type 0 where
  pub form : OutputForm
  pub is_form : SaysOutputForm (shown_said call Format) form
  pub answer : Result (Unit {0}) CommandError
  pub runs : RunsWriter (IsReportIn form call.meaning) sink answer
  pub is : result ≡ exit_if_done answer

-- the current bundle of the domain that they say, in the format that they say
pub record ShowsBundleSaid (call : ShownCall) (sink : DeviceRun)
    (result : Result ℕ Exit) : Type 0 where
  pub domain : List ℕ
  pub is_domain : shown_said call Domain ≡ Some domain
  pub is_name : IsDomainText domain
  pub format : BundleFormat
  pub is_format : SaysBundleFormat (shown_said call Format) format
  pub answer : Result Bool CommandError
  pub json : format ≡ Json → RunsBundle sink call.meaning domain answer
  pub pem : format ≡ Pem → RunsBundlePem sink call.meaning domain answer
  pub is : result ≡ exit_if_written NoBundle answer

-- why the document that was read is accepted as one of the domain, in the form that they say
pub record ShowsExplanationSaid (call : ShownCall) (run : CommandRun)
    (result : Result ℕ Exit) : Type 0 where
  pub domain : List ℕ
  pub is_domain : shown_said call Domain ≡ Some domain
  pub is_name : IsDomainText domain
  pub form : ExplanationForm
  pub is_form : SaysExplanationIn (shown_said call Short) (shown_said call Format) form
  pub answer : Result Bool CommandError
  pub runs : RunsExplain run call.meaning (explanation_call domain form) answer
  pub is : result ≡ exit_if_written NotAccepted answer

-- the next polls at the time that they say, in the form that they say
pub record ShowsPollsSaid (call : ShownCall) (run : CommandRun)
    (result : Result ℕ Exit) : Type 0 where
  pub form : OutputForm
  pub is_form : SaysOutputForm (shown_said call Format) form
  pub seconds : List ℕ
  pub is_said : shown_said call Now ≡ Some seconds
  pub now : ℤ
  pub is_now : SaysMoment seconds now
  pub answer : Result (Unit {0}) CommandError
  pub runs : RunsPollsIn run call.meaning (polls_call (polls_form form) now) answer
  pub is : result ≡ exit_if_done answer

-- what is held, or the keys, in the form that they say; of the domain that they choose
pub record ShowsListSaid (call : ShownCall) (sink : DeviceRun)
    (result : Result ℕ Exit) : Type 0 where
  pub form : OutputForm
  pub is_form : SaysOutputForm (shown_said call Format) form
  pub of_keys : Bool
  pub is_of_keys : SaysFlag (shown_said call Keys) of_keys
  pub chosen : Option (List ℕ)
  pub is_chosen : SaysChosen (chosen_said call.name call.texts) chosen
  pub answer : Result (Unit {0}) CommandError
  pub runs : RunsWriter (IsListIn of_keys form call.meaning chosen) sink answer
  pub is : result ≡ exit_if_done answer

-- which document vouches for which, or what of it is of the domain that they choose
pub record ShowsGraphSaid (call : ShownCall) (sink : DeviceRun)
    (result : Result ℕ Exit) : Type 0 where
  pub chosen : Option (List ℕ)
  pub is_chosen : SaysChosen (chosen_said call.name call.texts) chosen
  pub answer : Result (Unit {0}) CommandError
  pub runs : RunsWriter (IsGraphText call.meaning chosen) sink answer
  pub is : result ≡ exit_if_done answer

-- the status of the replica, and what is wrong with it, if domains are fetched like this
pub record ShowsStanding (sight : StatusSight) (fetches : List Fetch) (sink : DeviceRun)
    (result : Result ℕ Exit) : Type 0 where
  pub answer : Result Bool CommandError
  pub runs : RunsWriter (IsWarnedStatusIn sight.meaning (watched_by sight fetches) sight.format)
      sink answer
  pub warned : IfOk answer (IsWarned sight.meaning)
  pub is : result ≡ exit_if_warned answer

-- the same, if domains are fetched as the polls say that the source has
pub record ShowsFetched (sight : StatusSight) (run : CommandRun)
    (result : Result ℕ Exit) : Type 0 where
  pub log : List PollStatus
  pub reads : ReadsLog run.source sight.meaning log
  pub read : IsReadOut run.source
  pub fetches : List Fetch
  pub are_fetches : AreFetches sight.meaning log fetches
  pub shows : ShowsStanding sight fetches run.sink result

-- These polls are refused for a cause,
pub record EndsAtLog (m : Meaning) (run : CommandRun) (result : Result ℕ Exit) : Type 0 where
  pub why : PollError
  pub refused : RefusesLines run m why
  pub is : result ≡ Err (Refused (Poll why))

-- or memory ran out for what they say.
abbrev pub LacksFetches : CommandRun → Result ℕ Exit → Type 0
LacksFetches run result = (result ≡ Err (Refused NoMemory)) × WritesNothing run.sink

abbrev pub ShowsPolled : StatusSight → CommandRun → Result ℕ Exit → Type 0
ShowsPolled sight run result = EndsAtLog sight.meaning run result
    ⊎ (LacksFetches run result ⊎ ShowsFetched sight run result)

-- by the file of polls, if the arguments name one
abbrev pub ShowsSight : Option (List ℕ) → StatusSight → CommandRun → Result ℕ Exit → Type 0
ShowsSight None sight run result = ShowsStanding sight [] run.sink result
    × IsUntouched run.source
ShowsSight (Some path) sight run result = ShowsPolled sight run result

-- the status of the replica, in the format and by the limits and the polls that they say
pub record ShowsStatusSaid (call : ShownCall) (run : CommandRun)
    (result : Result ℕ Exit) : Type 0 where
  pub format : StatusFormat
  pub is_format : SaysStatusFormat (shown_said call Format) format
  pub limits : WarnLimits
  pub is_limits : SaysLimits call.moment call.name call.texts limits
  pub shows : ShowsSight (shown_said call Polls) (sight_of_call call limits format) run result

-- A running replica says something of itself.
abbrev pub keeper_of : Option RunningStatus → Keeper
keeper_of None = Files
keeper_of (Some running) = Replica

abbrev pub keys_shown : ShownCall → KeysCall
keys_shown call = record {
  name = call.name;
  texts = call.texts;
  keeper = keeper_of call.running;
  meaning = call.meaning;
}

-- what would change if the keys that they say were distrusted
pub record ShowsEffectSaid (call : ShownCall) (sink : DeviceRun)
    (result : Result ℕ Exit) : Type 0 where
  pub given : GivenKeys
  pub says : SaysKeys (keys_shown call) given
  pub answer : Result (Unit {0}) CommandError
  pub runs : ShowsDistrust call.meaning given sink answer
  pub is : result ≡ exit_if_done answer

-- ---- each command

abbrev pub ShowsReport : ShownCall → DeviceRun → Result ℕ Exit → Type 0
ShowsReport call sink result = RefusesUnwritten (EndsAtReport call) sink result
    ⊎ ShowsReportSaid call sink result

abbrev pub ShowsBundle : ShownCall → DeviceRun → Result ℕ Exit → Type 0
ShowsBundle call sink result = RefusesUnwritten (EndsAtBundle call) sink result
    ⊎ ShowsBundleSaid call sink result

abbrev pub ShowsExplanation : ShownCall → CommandRun → Result ℕ Exit → Type 0
ShowsExplanation call run result = RefusesUnread (EndsAtExplain call) run result
    ⊎ ShowsExplanationSaid call run result

abbrev pub ShowsPolls : ShownCall → CommandRun → Result ℕ Exit → Type 0
ShowsPolls call run result = RefusesUnread (EndsAtPolls call) run result
    ⊎ ShowsPollsSaid call run result

abbrev pub ShowsList : ShownCall → DeviceRun → Result ℕ Exit → Type 0
ShowsList call sink result = RefusesUnwritten (EndsAtList call) sink result
    ⊎ ShowsListSaid call sink result

abbrev pub ShowsGraph : ShownCall → DeviceRun → Result ℕ Exit → Type 0
ShowsGraph call sink result = RefusesUnwritten (EndsAtChosen call.name call.texts) sink result
    ⊎ ShowsGraphSaid call sink result

abbrev pub ShowsStatus : ShownCall → CommandRun → Result ℕ Exit → Type 0
ShowsStatus call run result = RefusesUnread (EndsAtStatus call) run result
    ⊎ ShowsStatusSaid call run result

abbrev pub ShowsEffect : ShownCall → DeviceRun → Result ℕ Exit → Type 0
ShowsEffect call sink result = RefusesUnwritten (SaysNoKeys (keys_shown call)) sink result
    ⊎ ShowsEffectSaid call sink result

-- The same by the command, of those that write on one sink. Only `explain`, `polls` and `status`
-- read. Another command is refused.
abbrev pub ShowsBy : CommandName → ShownCall → CommandRun → Result ℕ Exit → Type 0
ShowsBy command.Report call run result = ShowsReport call run.sink result
    × IsUntouched run.source
ShowsBy command.Bundle call run result = ShowsBundle call run.sink result
    × IsUntouched run.source
ShowsBy command.Explain call run result = ShowsExplanation call run result
ShowsBy command.Polls call run result = ShowsPolls call run result
ShowsBy command.List call run result = ShowsList call run.sink result × IsUntouched run.source
ShowsBy command.Graph call run result = ShowsGraph call run.sink result × IsUntouched run.source
ShowsBy command.Status call run result = ShowsStatus call run result
ShowsBy command.Distrust call run result = ShowsEffect call run.sink result
    × IsUntouched run.source
ShowsBy name call run result = RefusesUnread (λ exit. exit ≡ Usage) run result

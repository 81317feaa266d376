-- What the commands that show what is held answer over memory, and what is replied to their calls.
use Rattle.std.proofs.Common.{◌≡◌, inl, inr, ℕ, ℤ, Bool, List, [], ◌++◌, length, Option, Some, None, Ok, Err, Result, IfErr, IfOk}
use Rattle.std.proofs.Common.{true, false, refl, sym, ap, ◌∙◌, subst}
use Rattle.receipt_core.specs.Acceptance.{Meaning}
use Rattle.distrust_view.specs.declared.given_keys.GivenKeys.{GivenKeys}
use Rattle.fedbundle.specs.CommandRun.{CommandRun, WritesNothing}
use Rattle.command_exits.specs.DeviceRuns.{DeviceRun}
use Rattle.fedbundle.specs.CurrentBundle.{RunsBundle, RunsBundlePem}
use Rattle.fedbundle.specs.Distrust.{ShowsDistrust}
use Rattle.fedbundle.specs.Explain.{ExplanationCall, RunsExplain, explanation_call}
use Rattle.fedbundle.specs.Polls.{RunsPollsIn, polls_call}
use Rattle.fedbundle.specs.Shown.{IsReportIn, RunsWriter, ShownCall, ShowsBundle, ShowsBy, ShowsEffect, ShowsExplanation}
use Rattle.fedbundle.specs.Shown.{ShowsGraph, ShowsList, ShowsPolls, ShowsReport, ShowsSight, ShowsStanding, ShowsStatus, StatusSight, exit_if_done}
use Rattle.fedbundle.specs.Shown.{exit_if_warned, exit_if_written, polls_form, shown_said, sight_of_call, watched_by}
use Rattle.fedbundle.specs.Migrate.{Move, RunsMigrate}
use Rattle.fedbundle.specs.ShownCommands.{Compares, ComparesConfigsIn, ConfigCall, EndsMove, IsConfigIn, MovesTo, PrintsBoth, RunsShown, TwoTexts}
use Rattle.fedbundle.specs.ShownCommands.{ShowsConfig, ShowsConfigIn, ShowsDifference, ShowsMove}
use Rattle.fedbundle.specs.ShownCommands.{ShowsNamed, ShowsReseed, config_call, config_said, reseed_texts, exit_if_same}
use Rattle.fed_config.specs.Configuration.{Configuration}
use Rattle.migration.specs.declared.carrying.Choice.{Choice}
use Rattle.status_warnings.specs.declared.seen.Fetch.{Fetch}
use Rattle.command_line.specs.declared.command_name.OptionName.TheVariants.{Polls, To, With}
use Rattle.status_warnings.specs.WarnedStatus.{IsWarnedStatusIn}
use Rattle.command_line.specs.declared.command_name.CommandName.{CommandName}
use Rattle.command_line.specs.declared.command_name.CommandName.TheVariants as command
use Rattle.command_exits.specs.declared.error.CommandError.{CommandError}
use Rattle.command_exits.specs.declared.error.CommandError.TheVariants.{Document, Io, NoMemory, Poll, Take}
use Rattle.command_exits.specs.declared.exits.Exit.{Exit}
use Rattle.command_exits.specs.declared.exits.Exit.TheVariants.{NoBundle, NotAccepted, Refused}
use Rattle.command_line.specs.declared.option_texts.BundleFormat.{BundleFormat}
use Rattle.command_line.specs.declared.option_texts.BundleFormat.TheVariants.{Json, Pem}
use Rattle.command_line.specs.declared.option_texts.OutputForm.{OutputForm}
use Rattle.command_line.specs.declared.option_texts.OutputForm.TheVariants as output
use Rattle.local_answers.specs.RequestRun.{Answers, AnswersShown, CallRun, Ends, EndsAnyhow, EndsOver, IsWith}
use Rattle.local_answers.specs.RequestRun.{exit_over_memory, memory_exit, shown_in}
use Rattle.local_answers.specs.declared.reply.Reply.{Reply}

-- ---- errors

-- any error except one of a device is reported as it is
pub exit_of_other : (e : CommandError) → (e ≡ Io → ⊥) → Refused e ≡ memory_exit e
exit_of_other Io other = absurd (other refl)
exit_of_other e other = refl

-- ---- if a command ended, and not by a device, nothing was written

-- by the answer of a writer
writer_unwritten : (Is : List ℕ → Type 0) (sink : DeviceRun) (answer : Result (Unit {0}) CommandError) (exit : Exit) → RunsWriter Is sink answer
    → Err exit ≡ exit_if_done answer → (exit ≡ Refused Io → ⊥) → WritesNothing sink
writer_unwritten Is sink (Ok v) exit runs is sound = let no : ⊥ = cc in absurd no
writer_unwritten Is sink (Err Io) exit runs is sound = let same : exit ≡ Refused Io = cc in absurd (sound same)
writer_unwritten Is sink (Err NoMemory) exit runs is sound = runs
writer_unwritten Is sink (Err e) exit runs is sound = absurd runs

-- of one that says whether there is a warning
warned_unwritten : (Is : List ℕ → Type 0) (sink : DeviceRun) (answer : Result Bool CommandError) (exit : Exit) → RunsWriter Is sink answer
    → Err exit ≡ exit_if_warned answer → (exit ≡ Refused Io → ⊥) → WritesNothing sink
warned_unwritten Is sink (Ok v) exit runs is sound = let no : ⊥ = cc in absurd no
warned_unwritten Is sink (Err Io) exit runs is sound = let same : exit ≡ Refused Io = cc in absurd (sound same)
warned_unwritten Is sink (Err NoMemory) exit runs is sound = runs
warned_unwritten Is sink (Err e) exit runs is sound = absurd runs

-- of `bundle`
json_unwritten : (m : Meaning) (domain : List ℕ) (sink : DeviceRun) (answer : Result Bool CommandError) (exit : Exit)
    → RunsBundle sink m domain answer → Err exit ≡ exit_if_written NoBundle answer → (exit ≡ Refused Io → ⊥) → WritesNothing sink
json_unwritten m domain sink (Ok true) exit runs is sound = let no : ⊥ = cc in absurd no
json_unwritten m domain sink (Ok false) exit runs is sound = runs.1
json_unwritten m domain sink (Err Io) exit runs is sound = let same : exit ≡ Refused Io = cc in absurd (sound same)
json_unwritten m domain sink (Err e) exit runs is sound = absurd runs

pem_unwritten : (m : Meaning) (domain : List ℕ) (sink : DeviceRun) (answer : Result Bool CommandError) (exit : Exit)
    → RunsBundlePem sink m domain answer → Err exit ≡ exit_if_written NoBundle answer → (exit ≡ Refused Io → ⊥) → WritesNothing sink
pem_unwritten m domain sink (Ok true) exit runs is sound = let no : ⊥ = cc in absurd no
pem_unwritten m domain sink (Ok false) exit runs is sound = runs.1
pem_unwritten m domain sink (Err Io) exit runs is sound = let same : exit ≡ Refused Io = cc in absurd (sound same)
pem_unwritten m domain sink (Err NoMemory) exit runs is sound = runs
pem_unwritten m domain sink (Err e) exit runs is sound = absurd runs

-- in either format
bundle_unwritten : (format : BundleFormat) (m : Meaning) (domain : List ℕ) (sink : DeviceRun) (answer : Result Bool CommandError) (exit : Exit)
    → (format ≡ Json → RunsBundle sink m domain answer) → (format ≡ Pem → RunsBundlePem sink m domain answer)
    → Err exit ≡ exit_if_written NoBundle answer → (exit ≡ Refused Io → ⊥) → WritesNothing sink
bundle_unwritten Json m domain sink answer exit json pem is sound = json_unwritten m domain sink answer exit (json refl) is sound
bundle_unwritten Pem m domain sink answer exit json pem is sound = pem_unwritten m domain sink answer exit (pem refl) is sound

-- of `explain`
explain_unwritten : (m : Meaning) (call : ExplanationCall) (run : CommandRun) (answer : Result Bool CommandError) (exit : Exit)
    → RunsExplain run m call answer → Err exit ≡ exit_if_written NotAccepted answer → (exit ≡ Refused Io → ⊥) → WritesNothing run.sink
explain_unwritten m call run (Ok true) exit runs is sound = let no : ⊥ = cc in absurd no
explain_unwritten m call run (Ok false) exit runs is sound = runs.prints.1
explain_unwritten m call run (Err Io) exit runs is sound = let same : exit ≡ Refused Io = cc in absurd (sound same)
explain_unwritten m call run (Err NoMemory) exit runs is sound = runs
explain_unwritten m call run (Err (Document why)) exit runs is sound = runs.unwritten
explain_unwritten m call run (Err e) exit runs is sound = absurd runs

-- of the times of polls
moments_unwritten : (form : OutputForm) (m : Meaning) (now : ℤ) (run : CommandRun) (answer : Result (Unit {0}) CommandError) (exit : Exit)
    → RunsPollsIn run m (polls_call (polls_form form) now) answer → Err exit ≡ exit_if_done answer → (exit ≡ Refused Io → ⊥) → WritesNothing run.sink
moments_unwritten form m now run (Ok v) exit runs is sound = let no : ⊥ = cc in absurd no
moments_unwritten form m now run (Err Io) exit runs is sound = let same : exit ≡ Refused Io = cc in absurd (sound same)
moments_unwritten form m now run (Err NoMemory) exit runs is sound = runs
moments_unwritten form m now run (Err (Poll why)) exit runs is sound = runs.unwritten
moments_unwritten form m now run (Err e) exit runs is sound = absurd runs

-- of what distrusted keys would change
effect_unwritten : (m : Meaning) (given : GivenKeys) (sink : DeviceRun) (answer : Result (Unit {0}) CommandError) (exit : Exit)
    → ShowsDistrust m given sink answer → Err exit ≡ exit_if_done answer → (exit ≡ Refused Io → ⊥) → WritesNothing sink
effect_unwritten m given sink (Ok v) exit runs is sound = let no : ⊥ = cc in absurd no
effect_unwritten m given sink (Err Io) exit runs is sound = let same : exit ≡ Refused Io = cc in absurd (sound same)
effect_unwritten m given sink (Err NoMemory) exit runs is sound = runs
effect_unwritten m given sink (Err (Take why)) exit runs is sound = runs.unwritten
effect_unwritten m given sink (Err e) exit runs is sound = absurd runs

-- of a command, whether its arguments are refused or its function ends
report_unwritten : (call : ShownCall) (sink : DeviceRun) (exit : Exit) → ShowsReport call sink (Err exit) → (exit ≡ Refused Io → ⊥) → WritesNothing sink
report_unwritten call sink exit (inl refused) sound = refused.unwritten.0
report_unwritten call sink exit (inr shows) sound =
    writer_unwritten (IsReportIn shows.form call.meaning) sink shows.answer exit shows.runs shows.is sound

list_unwritten : (call : ShownCall) (sink : DeviceRun) (exit : Exit) → ShowsList call sink (Err exit) → (exit ≡ Refused Io → ⊥) → WritesNothing sink
list_unwritten call sink exit (inl refused) sound = refused.unwritten.0
list_unwritten call sink exit (inr shows) sound = writer_unwritten _ sink shows.answer exit shows.runs shows.is sound

graph_unwritten : (call : ShownCall) (sink : DeviceRun) (exit : Exit) → ShowsGraph call sink (Err exit) → (exit ≡ Refused Io → ⊥) → WritesNothing sink
graph_unwritten call sink exit (inl refused) sound = refused.unwritten.0
graph_unwritten call sink exit (inr shows) sound = writer_unwritten _ sink shows.answer exit shows.runs shows.is sound

standing_unwritten : (sight : StatusSight) (fetches : List Fetch) (sink : DeviceRun) (exit : Exit) → ShowsStanding sight fetches sink (Err exit)
    → (exit ≡ Refused Io → ⊥) → WritesNothing sink
standing_unwritten sight fetches sink exit shows sound =
    warned_unwritten (IsWarnedStatusIn sight.meaning (watched_by sight fetches) sight.format) sink shows.answer exit shows.runs shows.is sound

sight_unwritten : (said : Option (List ℕ)) (sight : StatusSight) (run : CommandRun) (exit : Exit) → ShowsSight said sight run (Err exit)
    → (exit ≡ Refused Io → ⊥) → WritesNothing run.sink
sight_unwritten None sight run exit shows sound = standing_unwritten sight [] run.sink exit shows.0 sound
sight_unwritten (Some path) sight run exit (inl ended) sound = ended.refused.unwritten
sight_unwritten (Some path) sight run exit (inr (inl lacks)) sound = lacks.1
sight_unwritten (Some path) sight run exit (inr (inr shows)) sound = standing_unwritten sight shows.fetches run.sink exit shows.shows sound

status_unwritten : (call : ShownCall) (run : CommandRun) (exit : Exit) → ShowsStatus call run (Err exit) → (exit ≡ Refused Io → ⊥)
    → WritesNothing run.sink
status_unwritten call run exit (inl refused) sound = refused.0.unwritten.0
status_unwritten call run exit (inr shows) sound =
    sight_unwritten (shown_said call Polls) (sight_of_call call shows.limits shows.format) run exit shows.shows sound

bundle_call_unwritten : (call : ShownCall) (sink : DeviceRun) (exit : Exit) → ShowsBundle call sink (Err exit) → (exit ≡ Refused Io → ⊥)
    → WritesNothing sink
bundle_call_unwritten call sink exit (inl refused) sound = refused.unwritten.0
bundle_call_unwritten call sink exit (inr shows) sound =
    bundle_unwritten shows.format call.meaning shows.domain sink shows.answer exit shows.json shows.pem shows.is sound

explain_call_unwritten : (call : ShownCall) (run : CommandRun) (exit : Exit) → ShowsExplanation call run (Err exit) → (exit ≡ Refused Io → ⊥)
    → WritesNothing run.sink
explain_call_unwritten call run exit (inl refused) sound = refused.0.unwritten.0
explain_call_unwritten call run exit (inr shows) sound =
    explain_unwritten call.meaning (explanation_call shows.domain shows.form) run shows.answer exit shows.runs shows.is sound

effect_call_unwritten : (call : ShownCall) (sink : DeviceRun) (exit : Exit) → ShowsEffect call sink (Err exit) → (exit ≡ Refused Io → ⊥)
    → WritesNothing sink
effect_call_unwritten call sink exit (inl refused) sound = refused.unwritten.0
effect_call_unwritten call sink exit (inr shows) sound =
    effect_unwritten call.meaning shows.given sink shows.answer exit shows.runs shows.is sound

-- of `polls`
polls_unwritten : (call : ShownCall) (run : CommandRun) (exit : Exit) → ShowsPolls call run (Err exit) → (exit ≡ Refused Io → ⊥)
    → WritesNothing run.sink
polls_unwritten call run exit (inl refused) sound = refused.0.unwritten.0
polls_unwritten call run exit (inr shows) sound =
    moments_unwritten shows.form call.meaning shows.now run shows.answer exit shows.runs shows.is sound

-- of any command
shown_unwritten : (name : CommandName) (call : ShownCall) (run : CommandRun) (exit : Exit) → ShowsBy name call run (Err exit)
    → (exit ≡ Refused Io → ⊥) → WritesNothing run.sink
shown_unwritten command.Report call run exit shows sound = report_unwritten call run.sink exit shows.0 sound
shown_unwritten command.List call run exit shows sound = list_unwritten call run.sink exit shows.0 sound
shown_unwritten command.Graph call run exit shows sound = graph_unwritten call run.sink exit shows.0 sound
shown_unwritten command.Bundle call run exit shows sound = bundle_call_unwritten call run.sink exit shows.0 sound
shown_unwritten command.Explain call run exit shows sound = explain_call_unwritten call run exit shows sound
shown_unwritten command.Polls call run exit shows sound = polls_unwritten call run exit shows sound
shown_unwritten command.Status call run exit shows sound = status_unwritten call run exit shows sound
shown_unwritten command.Distrust call run exit shows sound = effect_call_unwritten call run.sink exit shows.0 sound
shown_unwritten name call run exit shows sound = shows.0.unwritten.0

-- of two that are compared
same_unwritten : (Is : List ℕ → Type 0) (sink : DeviceRun) (answer : Result Bool CommandError) (exit : Exit) → RunsWriter Is sink answer
    → Err exit ≡ exit_if_same answer → (exit ≡ Refused Io → ⊥) → WritesNothing sink
same_unwritten Is sink (Ok v) exit runs is sound = let no : ⊥ = cc in absurd no
same_unwritten Is sink (Err Io) exit runs is sound = let same : exit ≡ Refused Io = cc in absurd (sound same)
same_unwritten Is sink (Err NoMemory) exit runs is sound = runs
same_unwritten Is sink (Err e) exit runs is sound = absurd runs

compared_unwritten : (Is : List ℕ → Type 0) (Same : Type 0) (sink : DeviceRun) (exit : Exit) → Compares Is Same sink (Err exit)
    → (exit ≡ Refused Io → ⊥) → WritesNothing sink
compared_unwritten Is Same sink exit compares sound = same_unwritten Is sink compares.answer exit compares.runs compares.is sound

-- of `config`
configs_unwritten : (form : OutputForm) (c : Configuration) (run : CommandRun) (exit : Exit) → ComparesConfigsIn form c run (Err exit)
    → (exit ≡ Refused Io → ⊥) → WritesNothing run.sink
configs_unwritten output.Text c run exit (inl ended) sound = ended.unwritten.0
configs_unwritten output.Text c run exit (inr compares) sound = compared_unwritten _ _ run.sink exit compares.compares sound
configs_unwritten output.Json c run exit refused sound = refused.0.unwritten.0

config_in_unwritten : (with : Option (List ℕ)) (form : OutputForm) (c : Configuration) (run : CommandRun) (exit : Exit)
    → ShowsConfigIn with form c run (Err exit) → (exit ≡ Refused Io → ⊥) → WritesNothing run.sink
config_in_unwritten None form c run exit shows sound =
    writer_unwritten (IsConfigIn form c) run.sink shows.0.answer exit shows.0.runs shows.0.is sound
config_in_unwritten (Some path) form c run exit compares sound = configs_unwritten form c run exit compares sound

config_unwritten : (call : ConfigCall) (run : CommandRun) (exit : Exit) → ShowsConfig call run (Err exit) → (exit ≡ Refused Io → ⊥)
    → WritesNothing run.sink
config_unwritten call run exit (inl refused) sound = refused.0.unwritten.0
config_unwritten call run exit (inr shows) sound =
    config_in_unwritten (config_said call With) shows.form call.config run exit shows.shows sound

-- of `diff`
difference_unwritten : (call : ShownCall) (run : CommandRun) (exit : Exit) → ShowsDifference call run (Err exit) → (exit ≡ Refused Io → ⊥)
    → WritesNothing run.sink
difference_unwritten call run exit (inl refused) sound = refused.0.unwritten.0
difference_unwritten call run exit (inr (inl ended)) sound = ended.unwritten.0
difference_unwritten call run exit (inr (inr compares)) sound = compared_unwritten _ _ run.sink exit compares.compares sound

-- of `migrate`, on both sinks
answer_unwritten : (move : Move) (sink line_errors : DeviceRun) (answer : Result ℕ CommandError) (exit : Exit) → RunsMigrate move sink line_errors answer
    → EndsMove answer (Err exit) → (exit ≡ Refused Io → ⊥) → (exit ≡ Refused NoMemory → ⊥) → WritesNothing sink × WritesNothing line_errors
answer_unwritten move sink line_errors (Ok n) exit runs (inl (none, same)) sound memory = let no : ⊥ = cc in absurd no
answer_unwritten move sink line_errors (Ok n) exit runs (inr (some, same)) sound memory = let no : ⊥ = cc in absurd no
answer_unwritten move sink line_errors (Err Io) exit runs is sound memory = let same : exit ≡ Refused Io = cc in absurd (sound same)
answer_unwritten move sink line_errors (Err NoMemory) exit runs is sound memory = let same : exit ≡ Refused NoMemory = cc in absurd (memory same)
answer_unwritten move sink line_errors (Err e) exit runs is sound memory = absurd runs.answer

move_unwritten : (move : Move) (sink line_errors : DeviceRun) (exit : Exit) → ShowsMove move sink line_errors (Err exit) → (exit ≡ Refused Io → ⊥)
    → (exit ≡ Refused NoMemory → ⊥) → WritesNothing sink × WritesNothing line_errors
move_unwritten move sink line_errors exit shows sound memory = answer_unwritten move sink line_errors shows.answer exit shows.runs shows.is sound memory

moves_unwritten : (said : Option (List ℕ)) (choice : Choice) (m : Meaning) (run : CommandRun) (line_errors : DeviceRun) (exit : Exit)
    → MovesTo said choice m run line_errors (Err exit) → (exit ≡ Refused Io → ⊥) → (exit ≡ Refused NoMemory → ⊥)
    → WritesNothing run.sink × WritesNothing line_errors
moves_unwritten None choice m run line_errors exit moves sound memory = move_unwritten _ run.sink line_errors exit moves.0 sound memory
moves_unwritten (Some path) choice m run line_errors exit (inl ended) sound memory = (ended.0.unwritten.0, ended.1.0)
moves_unwritten (Some path) choice m run line_errors exit (inr on) sound memory = move_unwritten _ run.sink line_errors exit on.moves sound memory

-- of `reseed`, on both sinks
both_failed : (texts : TwoTexts) (sink line_errors : DeviceRun) (exit : Exit) → PrintsBoth texts sink line_errors (Err exit) → exit ≡ Refused Io
both_failed texts sink line_errors (Refused Io) prints = refl
both_failed texts sink line_errors exit prints = absurd prints

reseed_unwritten : (call : ShownCall) (sink line_errors : DeviceRun) (exit : Exit) → ShowsReseed call sink line_errors (Err exit)
    → (exit ≡ Refused Io → ⊥) → WritesNothing sink × WritesNothing line_errors
reseed_unwritten call sink line_errors exit (inl refused) sound = (refused.0.unwritten.0, refused.1.0)
reseed_unwritten call sink line_errors exit (inr said) sound = elim said.reseeds.reseeds [
  | inl lacks ↦ (lacks.unwritten.0, lacks.silent.0)
  | inr prints ↦ absurd (sound (both_failed (reseed_texts said.reseeds.floors (length call.meaning.held) prints.outcome) sink line_errors exit prints.prints))
]

-- of a command by its name
named_unwritten : (name : CommandName) (call : ShownCall) (run : CommandRun) (line_errors : DeviceRun) (exit : Exit)
    → ShowsNamed name call run line_errors (Err exit) → (exit ≡ Refused Io → ⊥) → (exit ≡ Refused NoMemory → ⊥)
    → WritesNothing run.sink × WritesNothing line_errors
named_unwritten command.Config call run line_errors exit shows sound memory =
    (config_unwritten (config_call call.name call.texts call.meaning.config) run exit shows.0 sound, shows.1.0)
named_unwritten command.Diff call run line_errors exit shows sound memory = (difference_unwritten call run exit shows.0 sound, shows.1.0)
named_unwritten command.Migrate call run line_errors exit shows sound memory =
    moves_unwritten (shown_said call To) shows.choice call.meaning run line_errors exit shows.moves sound memory
named_unwritten command.Reseed call run line_errors exit shows sound memory = reseed_unwritten call run.sink line_errors exit shows.0 sound
named_unwritten name call run line_errors exit shows sound memory = (shown_unwritten name call run exit shows.0 sound, shows.1.0)

-- ---- what is shown, over memory

-- what runs at a second that is the one of the replica
pub runs_at : (run : CallRun) (devices : CommandRun) (line_errors : DeviceRun) (result : Result ℕ Exit) (stated : ℤ) → stated ≡ run.running.moment
    → RunsShown (record (shown_in run) { moment = stated }) devices line_errors result → RunsShown (shown_in run) devices line_errors result
runs_at run devices line_errors result stated same runs =
    subst (λ (z : ℤ). RunsShown (record (shown_in run) { moment = z }) devices line_errors result) same runs

-- the command ended: its device failed only because memory ran out
ended_over : (run : CallRun) (devices : CommandRun) (line_errors : DeviceRun) (exit : Exit) → devices.source.before ≡ Some run.change.input
    → devices.sink.before ≡ Some [] → line_errors.before ≡ Some [] → RunsShown (shown_in run) devices line_errors (Err exit)
    → EndsOver run (exit_over_memory exit)
ended_over run devices line_errors (Refused Io) source empty silent runs = inl tt
ended_over run devices line_errors (Refused NoMemory) source empty silent runs = inl tt
ended_over run devices line_errors exit source empty silent runs =
    let unwritten = named_unwritten run.name (shown_in run) devices line_errors exit runs (λ io. cc) (λ none. cc) in
    inr (record {
      devices = devices;
      over = record { source = source; empty = empty; filled = unwritten.0 ∙ empty };
      line_errors = line_errors;
      silent = silent;
      said = unwritten.1 ∙ silent;
      runs = runs;
    })

-- the same for how it is reported
pub shown_ended : (run : CallRun) (devices : CommandRun) (line_errors : DeviceRun) (exit why : Exit) → why ≡ exit_over_memory exit
    → devices.source.before ≡ Some run.change.input → devices.sink.before ≡ Some [] → line_errors.before ≡ Some []
    → RunsShown (shown_in run) devices line_errors (Err exit) → EndsOver run why
shown_ended run devices line_errors exit why is source empty silent runs =
    subst (EndsOver run) (sym is) (ended_over run devices line_errors exit source empty silent runs)

-- the command is done: its output and its error text are replied
pub shown_done : (run : CallRun) (devices : CommandRun) (line_errors : DeviceRun) (output with_it : List ℕ) (status : ℕ) (reply : Reply)
    → devices.source.before ≡ Some run.change.input → devices.sink.before ≡ Some [] → devices.sink.after ≡ Some output
    → line_errors.before ≡ Some [] → line_errors.after ≡ Some with_it
    → RunsShown (shown_in run) devices line_errors (Ok status) → IsWith reply output with_it status → AnswersShown run reply
shown_done run devices line_errors output with_it status reply source empty filled silent said runs with = record {
  output = output;
  with_it = with_it;
  status = status;
  shows = record {
    devices = devices;
    over = record { source = source; empty = empty; filled = filled };
    line_errors = line_errors;
    silent = silent;
    said = said;
    runs = runs;
  };
  replied = with;
}

-- ---- calls

-- a number in the arguments is out of its range, or memory ran out
pub anyhow : (name : CommandName) (run : CallRun) (exit why : Exit) → exit ≡ why → EndsAnyhow run why → Ends name run exit
anyhow name run exit why is so = inl (subst (EndsAnyhow run) (sym is) so)

-- what the command of this name answers is what the call answers
pub answers_as : (name other : CommandName) (run : CallRun) (result : Result Reply Exit) → name ≡ other → IfOk result (Answers other run)
    → IfOk result (Answers name run)
answers_as name other run result is answers = subst (λ n. IfOk result (Answers n run)) (sym is) answers

-- the same for how it ends
pub ends_as : (name other : CommandName) (run : CallRun) (result : Result Reply Exit) → name ≡ other → IfErr result (Ends other run)
    → IfErr result (Ends name run)
ends_as name other run result is ends = subst (λ n. IfErr result (Ends n run)) (sym is) ends

-- a name of none of these commands is that of one that shows what is held
pub answers_shown : (name : CommandName) (run : CallRun) (result : Result Reply Exit) → (name ≡ command.Observe → ⊥) → (name ≡ command.Merge → ⊥)
    → (name ≡ command.Distrust → ⊥) → (name ≡ command.Stop → ⊥) → IfOk result (AnswersShown run) → IfOk result (Answers name run)
answers_shown command.Observe run result observe merge distrust stop answers = absurd (observe refl)
answers_shown command.Merge run result observe merge distrust stop answers = absurd (merge refl)
answers_shown command.Distrust run result observe merge distrust stop answers = absurd (distrust refl)
answers_shown command.Stop run result observe merge distrust stop answers = absurd (stop refl)
answers_shown name run result observe merge distrust stop answers = answers

-- the same for how it ends
pub ends_shown : (name : CommandName) (run : CallRun) (result : Result Reply Exit) → (name ≡ command.Observe → ⊥) → (name ≡ command.Merge → ⊥)
    → (name ≡ command.Distrust → ⊥) → (name ≡ command.Stop → ⊥) → IfErr result (EndsOver run)
    → IfErr result (Ends name run)
ends_shown command.Observe run result observe merge distrust stop ends = absurd (observe refl)
ends_shown command.Merge run result observe merge distrust stop ends = absurd (merge refl)
ends_shown command.Distrust run result observe merge distrust stop ends = absurd (distrust refl)
ends_shown command.Stop run result observe merge distrust stop ends = absurd (stop refl)
ends_shown name run result observe merge distrust stop ends = ends

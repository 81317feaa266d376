-- What comes of a request, in terms of the command's function over files: its source has the input,
-- and its sink, which held nothing, holds the output.
use Rattle.std.specs.Prelude.{◌≡◌, ◌⊎◌, ℕ, List, [], ◌++◌, Bool, true, false, Option, None, Some}
use Rattle.std.specs.Prelude.{is_some}
use Rattle.std.specs.Prelude.{Ok, Err, ◌+◌, ◌-◌, ◌^◌, ◌<◌, ◌≤◌, length, codes, min}
use Rattle.clap.specs.Words.{IsAmong, fault_of, kind_of}
use Rattle.clap.specs.declared.error.kind.ErrorKind.{ErrorKind}
use Rattle.clap.specs.declared.error.kind.ErrorKind.TheVariants.{DisplayHelp, DisplayVersion}
use Rattle.spiffe_name.specs.TrustDomain.{IsDomainText}
use Rattle.receipt_core.specs.Acceptance.{Meaning}
use Rattle.distrust_view.specs.declared.given_keys.GivenKeys.{GivenKeys}
use Rattle.fedbundle.specs.CommandRun.{CommandRun, StateRun}
use Rattle.command_exits.specs.DeviceRuns.{DeviceRun}
use Rattle.fedbundle.specs.Distrust.{RunsDistrust, ShowsDistrust, given_key_lines}
use Rattle.fedbundle.specs.Distrust.{with_distrusted}
use Rattle.fedbundle.specs.SaidKeys.{KeysCall, SaysKeys, SaysNoKeys}
use Rattle.fedbundle.specs.declared.said_keys.Keeper.TheVariants.{Replica}
use Rattle.fedbundle.specs.Merge.{RunsMerge}
use Rattle.fedbundle.specs.Observe.{Fetched, IsAsHeld, RunsObserve}
use Rattle.command_line.specs.OptionTexts.{SaysFlag, SaysManner, SaysNoManner, option_said}
use Rattle.fedbundle.specs.SaidValues.{EndsAtDomain, SaysNoVerdict, SaysVerdict}
use Rattle.fedbundle.specs.Shown.{ShownCall}
use Rattle.fedbundle.specs.ShownCommands.{RunsShown}
use Rattle.command_exits.specs.Exits.{IsExitLine, exit_of_option, exit_status_of}
use Rattle.command_line.specs.Checks.{IsSoundRequest, flaw_of}
use Rattle.command_line.specs.Words.{CallsInRequest, the_command}
use Rattle.command_line.specs.declared.command_name.CommandName.{CommandName}
use Rattle.command_line.specs.declared.command_name.CommandName.TheVariants as command
use Rattle.command_line.specs.declared.command_name.OptionName.{OptionName}
use Rattle.command_line.specs.declared.command_name.OptionName.TheVariants.{Domain, DryRun, Verbose}
use Rattle.command_line.specs.declared.command_name.OptionName.TheVariants.{PublicKey}
use Rattle.command_line.specs.declared.option_error.OptionError.{OptionError}
use Rattle.command_line.specs.declared.option_error.OptionError.TheVariants as unread
use Rattle.command_line.specs.declared.option_texts.Manner.{Manner}
use Rattle.command_line.specs.declared.words.WordsError.{WordsError}
use Rattle.command_line.specs.declared.words.WordsError.TheVariants as no_call
use Rattle.replica_core.specs.declared.error.SyncError.{SyncError}
use Rattle.replica_core.specs.declared.error.SyncError.TheVariants.{Io as StreamFailed}
use Rattle.command_exits.specs.declared.error.CommandError.{CommandError}
use Rattle.command_exits.specs.declared.error.CommandError.TheVariants.{Io, NoMemory, Observe, Sync}
use Rattle.command_exits.specs.declared.error.CommandError.TheVariants.{Take}
use Rattle.command_exits.specs.declared.exits.Exit.{Exit}
use Rattle.command_exits.specs.declared.exits.Exit.TheVariants.{BadNumber, Refused, TooManyBytes}
use Rattle.command_exits.specs.declared.exits.Exit.TheVariants.{Usage}
use Rattle.status_view.specs.declared.running.RunningStatus.{RunningStatus}
use Rattle.local_answers.specs.Fallen.{AreAcceptedCounts, SaysFell}
use Rattle.local_answers.specs.Replies.{first_line}
use Rattle.local_answers.specs.declared.fallen_counts.DomainCount.{DomainCount}
use Rattle.local_answers.specs.declared.changing_replies.Sayings.{Sayings}
use Rattle.local_answers.specs.declared.reply.Reply.{Reply}

-- ---- memory as devices

-- These were the devices.
pub record OverMemory (devices : CommandRun) (input output : List ℕ) : Type 0 where
  pub source : devices.source.before ≡ Some input
  pub empty : devices.sink.before ≡ Some []
  pub filled : devices.sink.after ≡ Some output

-- Over some such devices this is so.
pub record Gives (Runs : CommandRun → Type 0) (input output : List ℕ) : Type 0 where
  pub devices : CommandRun
  pub over : OverMemory devices input output
  pub runs : Runs devices

-- The same with a second sink, which held nothing and holds what is said with the output.
pub record GivesWithIt (Runs : CommandRun → DeviceRun → Type 0) (input output with_it : List ℕ)
    : Type 0 where
  pub devices : CommandRun
  pub over : OverMemory devices input output
  pub line_errors : DeviceRun
  pub silent : line_errors.before ≡ Some []
  pub said : line_errors.after ≡ Some with_it
  pub runs : Runs devices line_errors

-- Into some such sink this is so.
pub record GivesInto (Runs : DeviceRun → Type 0) (output : List ℕ) : Type 0 where
  pub sink : DeviceRun
  pub empty : sink.before ≡ Some []
  pub filled : sink.after ≡ Some output
  pub runs : Runs sink

-- A device over memory fails only if memory runs out.
abbrev pub memory_exit : CommandError → Exit
memory_exit Io = Refused NoMemory
memory_exit e = Refused e

abbrev pub exit_over_memory : Exit → Exit
exit_over_memory (Refused e) = memory_exit e
exit_over_memory exit = exit

-- ---- commands that change what is held

-- what is held before and after, and the input
pub record ChangeRun : Type 0 where
  pub state : StateRun
  pub input : List ℕ

abbrev pub change_run : StateRun → List ℕ → ChangeRun
change_run state input = record { state = state; input = input }

abbrev pub AnswersObserve : ChangeRun → Fetched → List ℕ → Type 0
AnswersObserve run fetched output =
    Gives (λ devices. RunsObserve devices run.state fetched (Ok tt)) run.input output

-- Nothing is observed.
abbrev pub EndsObserve : ChangeRun → Fetched → Exit → Type 0
EndsObserve run fetched (Refused (Observe e)) =
    Gives (λ devices. RunsObserve devices run.state fetched (Err (Observe e))) run.input []
EndsObserve run fetched (Refused NoMemory) = IsAsHeld run.state
EndsObserve run fetched exit = ⊥

abbrev pub AnswersMerge : ChangeRun → List ℕ → Type 0
AnswersMerge run output = Gives (λ devices. RunsMerge devices run.state (Ok tt)) run.input output

-- The input is not a snapshot, or what it holds is not taken. Bytes in memory never fail to be
-- read.
abbrev pub EndsMerge : ChangeRun → Exit → Type 0
EndsMerge run (Refused (Sync StreamFailed)) = ⊥
EndsMerge run (Refused (Sync e)) =
    Gives (λ devices. RunsMerge devices run.state (Err (Sync e))) run.input []
EndsMerge run (Refused (Take e)) =
    Gives (λ devices. RunsMerge devices run.state (Err (Take e))) run.input []
EndsMerge run (Refused NoMemory) = IsAsHeld run.state
EndsMerge run exit = ⊥

-- how `merge` ends if the input is not read
abbrev pub exit_of_unread : SyncError → Exit
exit_of_unread StreamFailed = Refused NoMemory
exit_of_unread why = Refused (Sync why)

-- The records are refused.
abbrev pub EndsDistrust : StateRun → GivenKeys → Exit → Type 0
EndsDistrust state given (Refused (Take e)) =
    RunsDistrust state.old.meaning given state.new.meaning (Err (Take e))
EndsDistrust state given (Refused NoMemory) = IsAsHeld state
EndsDistrust state given exit = ⊥

-- ---- the reply

-- These streams and this status, which the first line says; nothing is journalled, and the replica
-- continues.
pub record IsWith (reply : Reply) (text with_it : List ℕ) (exit : ℕ) : Type 0 where
  pub head : reply.head.items ≡ first_line text with_it exit
  pub output : reply.output.items ≡ text
  pub errors : reply.errors.items ≡ with_it
  pub status : reply.status ≡ exit
  pub unjournalled : reply.journal.items ≡ []
  pub unreported : reply.change ≡ None
  pub continues : reply.ends ≡ false

-- The command is done: its output, and what is on standard error.
abbrev pub IsReplied : Reply → List ℕ → List ℕ → Type 0
IsReplied reply output errors = IsWith reply output errors 0

-- The command is done with an output of which this is so, and nothing is on standard error.
pub record HasStreams (Answers : List ℕ → Type 0) (reply : Reply) : Type 0 where
  pub output : List ℕ
  pub answers : Answers output
  pub head : reply.head.items ≡ first_line output [] 0
  pub is_output : reply.output.items ≡ output
  pub errors : reply.errors.items ≡ []
  pub status : reply.status ≡ 0
  pub continues : reply.ends ≡ false

-- what is said if there is no memory to say what a record changes
abbrev pub unsaid_line : List ℕ
unsaid_line = codes "fedbundle: no memory to say what changes\n"

-- What distrusting the keys changes, if that is asked for: all of it, or that there is no memory
-- to say it.
abbrev pub SaysEffect : Meaning → GivenKeys → Bool → List ℕ → Type 0
SaysEffect m given true errors = GivesInto (λ sink. ShowsDistrust m given sink (Ok tt)) errors
    ⊎ (errors ≡ unsaid_line)
SaysEffect m given false errors = errors ≡ []

-- These streams and the status 0, whatever is journalled; the replica continues.
pub record HasBoth (reply : Reply) (output errors : List ℕ) : Type 0 where
  pub head : reply.head.items ≡ first_line output errors 0
  pub is_output : reply.output.items ≡ output
  pub is_errors : reply.errors.items ≡ errors
  pub status : reply.status ≡ 0
  pub continues : reply.ends ≡ false

-- what is said if there is no memory to say what fell
abbrev pub unsaid_fall : List ℕ
unsaid_fall = codes "fedbundle: no memory to say what fell\n"

-- the keys, if that is to be said
abbrev pub named_keys : GivenKeys → (names_keys : Bool) → List ℕ
named_keys given true = given_key_lines given
named_keys given false = []

-- Which keys they are and what they change, as far as that was asked for, and what fell.
pub record SaysAll (state : StateRun) (given : GivenKeys) (sayings : Sayings)
    (reply : Reply) : Type 0 where
  pub errors : List ℕ
  pub said : SaysEffect state.old.meaning given sayings.is_verbose errors
  pub before : List DomainCount
  pub counted : AreAcceptedCounts state.old.meaning before
  pub fell : List ℕ
  pub is_fell : SaysFell state.new.meaning before fell
  pub has : HasBoth reply (named_keys given sayings.names_keys ++ fell) errors

-- The keys are distrusted, and that is said, or only that there is no memory to say it.
pub record SaysDistrusted (state : StateRun) (given : GivenKeys) (sayings : Sayings)
    (reply : Reply) : Type 0 where
  pub held : state.new.meaning ≡ with_distrusted given state.old.meaning
  pub says : SaysAll state given sayings reply ⊎ HasBoth reply [] unsaid_fall

-- The command ended so: nothing but the line that says why.
abbrev pub IsEnded : Reply → Exit → Type 0
IsEnded reply exit = (line : List ℕ) × IsExitLine exit line
    × IsWith reply [] line (exit_status_of exit)

-- ---- a call

-- a call whose arguments were read, what the replica says of itself, the input, and what is held
-- before and after
pub record CallRun : Type 0 where
  pub name : CommandName
  pub texts : List (Option (List ℕ))
  pub running : RunningStatus
  pub change : ChangeRun

-- the text that the arguments give the option
abbrev pub said : CallRun → OptionName → Option (List ℕ)
said run option = option_said run.name run.texts option

abbrev pub IsGiven : CallRun → OptionName → List ℕ → Type 0
IsGiven run option text = said run option ≡ Some text

-- The arguments say whose bundle was fetched, and what TLS said.
pub record SaysFetched (run : CallRun) (fetched : Fetched) : Type 0 where
  pub domain : IsGiven run Domain fetched.domain
  pub form : IsDomainText fetched.domain
  pub verdict : SaysVerdict run.name run.texts fetched.verdict

abbrev pub call_run : CommandName → List (Option (List ℕ)) → RunningStatus → ChangeRun → CallRun
call_run name texts running change =
    record { name = name; texts = texts; running = running; change = change }

-- ---- how much may come

-- how many bytes both files of the replica have, at most what 64 bits hold
abbrev pub bytes_of_files : RunningStatus → ℕ
bytes_of_files r = min (r.snapshot_bytes + r.journal_bytes) (2 ^ 64 - 1)

-- How many bytes the input of `merge` may have: what the files of the replica leave of the most
-- that the arguments allow.
pub record LeavesRoom (name : CommandName) (texts : List (Option (List ℕ)))
    (running : RunningStatus) (room : ℕ) : Type 0 where
  pub manner : Manner
  pub says : SaysManner name texts manner
  pub rest : room ≡ manner.most_bytes - bytes_of_files running

-- The input has no more bytes than there is room for.
pub record IsWithinRoom (run : CallRun) : Type 0 where
  pub room : ℕ
  pub is_room : LeavesRoom run.name run.texts run.running room
  pub within : length run.change.input ≤ room

-- It has more.
pub record PassesRoom (run : CallRun) : Type 0 where
  pub room : ℕ
  pub is_room : LeavesRoom run.name run.texts run.running room
  pub over : room < length run.change.input

-- ---- what a call answers, by what the arguments say

-- the arguments and what is held, of a command that only shows it, with what the replica says of
-- itself
abbrev pub shown_in : CallRun → ShownCall
shown_in run = record {
  name = run.name;
  texts = run.texts;
  meaning = run.change.state.old.meaning;
  running = Some run.running;
  moment = run.running.moment;
}

-- A command that shows what is held, over memory: its output, its error text, and its exit status.
pub record AnswersShown (run : CallRun) (reply : Reply) : Type 0 where
  pub output : List ℕ
  pub with_it : List ℕ
  pub status : ℕ
  pub shows : GivesWithIt
      (λ devices line_errors. RunsShown (shown_in run) devices line_errors (Ok status))
      run.change.input output with_it
  pub replied : IsWith reply output with_it status

-- `observe`
pub record AnswersObserveCall (run : CallRun) (reply : Reply) : Type 0 where
  pub fetched : Fetched
  pub says : SaysFetched run fetched
  pub answers : HasStreams (AnswersObserve run.change fetched) reply

-- `merge`
pub record AnswersMergeCall (run : CallRun) (reply : Reply) : Type 0 where
  pub within : IsWithinRoom run
  pub answers : HasStreams (AnswersMerge run.change) reply

-- the arguments of a call at a replica
abbrev pub keys_asked : CallRun → KeysCall
keys_asked run = record {
  name = run.name;
  texts = run.texts;
  keeper = Replica;
  meaning = run.change.state.old.meaning;
}

-- The keys that the arguments say are distrusted, and what that changes is on standard error if
-- they have `--verbose`.
pub record HoldsAsSaid (run : CallRun) (reply : Reply) : Type 0 where
  pub given : GivenKeys
  pub says : SaysKeys (keys_asked run) given
  pub sayings : Sayings
  pub is_verbose : SaysFlag (said run Verbose) sayings.is_verbose
  pub names_keys : sayings.names_keys ≡ is_some (said run PublicKey)
  pub held : SaysDistrusted run.change.state given sayings reply

-- What would change if the arguments have `--dry-run`; otherwise the keys are distrusted.
abbrev pub AnswersRecord : (is_dry : Bool) → CallRun → Reply → Type 0
AnswersRecord true run reply = AnswersShown run reply
AnswersRecord false run reply = HoldsAsSaid run reply

-- `distrust`
pub record AnswersDistrust (run : CallRun) (reply : Reply) : Type 0 where
  pub dry : Bool
  pub is_dry : SaysFlag (said run DryRun) dry
  pub answers : AnswersRecord dry run reply

-- `stop`: nothing is said, and the replica ends
pub record AnswersStop (reply : Reply) : Type 0 where
  pub head : reply.head.items ≡ first_line [] [] 0
  pub output : reply.output.items ≡ []
  pub errors : reply.errors.items ≡ []
  pub status : reply.status ≡ 0
  pub unjournalled : reply.journal.items ≡ []
  pub ends : reply.ends ≡ true

-- What is replied, by the command: the others show what is held.
abbrev pub Answers : CommandName → CallRun → Reply → Type 0
Answers command.Observe run reply = AnswersObserveCall run reply
Answers command.Merge run reply = AnswersMergeCall run reply
Answers command.Distrust run reply = AnswersDistrust run reply
Answers command.Stop run reply = AnswersStop reply
Answers name run reply = AnswersShown run reply

-- ---- how a call ends

-- How any command may end: a number in the arguments is out of its range, or memory ran out.
abbrev pub EndsAnyhow : CallRun → Exit → Type 0
EndsAnyhow run (BadNumber option) = SaysNoManner run.name run.texts (unread.BadNumber option)
EndsAnyhow run (Refused NoMemory) = Unit {0}
EndsAnyhow run exit = ⊥

-- A command that shows what is held ends over memory, and nothing was written. No sink failed.
abbrev pub EndsShown : CallRun → Exit → Type 0
EndsShown run (Refused Io) = ⊥
EndsShown run exit = GivesWithIt
    (λ devices line_errors. RunsShown (shown_in run) devices line_errors (Err exit))
    run.change.input [] []

-- The same, or memory ran out.
abbrev pub EndsOver : CallRun → Exit → Type 0
EndsOver run exit = EndsAnyhow run exit ⊎ EndsShown run exit

-- `merge` ends: the input has too many bytes; or it has not, and is refused.
abbrev pub EndsMergeCall : CallRun → Exit → Type 0
EndsMergeCall run TooManyBytes = PassesRoom run
EndsMergeCall run (Refused e) = IsWithinRoom run × EndsMerge run.change (Refused e)
EndsMergeCall run exit = ⊥

-- `observe` ends, and nothing is observed
pub record EndsObserveCall (run : CallRun) (exit : Exit) : Type 0 where
  pub fetched : Fetched
  pub says : SaysFetched run fetched
  pub ends : EndsObserve run.change fetched exit

-- The records for the keys that the arguments say are refused.
pub record EndsLasting (run : CallRun) (exit : Exit) : Type 0 where
  pub given : GivenKeys
  pub says : SaysKeys (keys_asked run) given
  pub ends : EndsDistrust run.change.state given exit

-- They say none, or they are refused; nothing has changed.
abbrev pub EndsRecord : (is_dry : Bool) → CallRun → Exit → Type 0
EndsRecord true run exit = EndsShown run exit
EndsRecord false run exit = SaysNoKeys (keys_asked run) exit ⊎ EndsLasting run exit

-- `distrust` ends, and nothing has changed
pub record EndsDistrustCall (run : CallRun) (exit : Exit) : Type 0 where
  pub dry : Bool
  pub is_dry : SaysFlag (said run DryRun) dry
  pub ends : EndsRecord dry run exit

-- How a command ends for what the arguments say, for what is held or for what is read, by the
-- command. `stop` never does.
abbrev pub EndsFor : CommandName → CallRun → Exit → Type 0
EndsFor command.Stop run exit = ⊥
EndsFor command.Observe run exit = EndsAtDomain run.name run.texts exit
    ⊎ (SaysNoVerdict run.name run.texts exit ⊎ EndsObserveCall run exit)
EndsFor command.Merge run exit = EndsMergeCall run exit
EndsFor command.Distrust run exit = EndsDistrustCall run exit
EndsFor name run exit = EndsShown run exit

-- How a command ends that is not done.
abbrev pub Ends : CommandName → CallRun → Exit → Type 0
Ends name run exit = EndsAnyhow run exit ⊎ EndsFor name run exit

-- ---- a request

-- The command ended, nothing has changed, and how it ended is replied.
pub record RepliesWithEnd (run : CallRun) (reply : Reply) : Type 0 where
  pub exit : Exit
  pub ends : Ends run.name run exit
  pub held : IsAsHeld run.change.state
  pub replied : IsEnded reply exit

-- What is replied to a call: what its command answers, or how it ends.
abbrev pub RepliesToCall : CallRun → Reply → Type 0
RepliesToCall run reply = Answers run.name run reply ⊎ RepliesWithEnd run reply

-- The arguments are a call in a request, without a flaw, and that is replied.
pub record RepliesAsCommand (words : List (List ℕ)) (running : RunningStatus) (change : ChangeRun)
    (reply : Reply) : Type 0 where
  pub name : CommandName
  pub texts : List (Option (List ℕ))
  pub call : IsSoundRequest words name texts
  pub replied : RepliesToCall (call_run name texts running change) reply

-- clap shows its help or its version
abbrev pub is_help : ErrorKind → Bool
is_help DisplayHelp = true
is_help DisplayVersion = true
is_help kind = false

-- Help and the version are output, and end well; anything else of clap is an error text, with
-- status 2.
abbrev pub RepliesByKind : (helps : Bool) → Reply → Type 0
RepliesByKind true reply = IsWith reply reply.output.items [] 0
RepliesByKind false reply = IsWith reply [] reply.errors.items 2

-- Clap gives an error of this kind for these arguments, and that is replied.
pub record ShowsText (words : List (List ℕ)) (reply : Reply) : Type 0 where
  pub kind : ErrorKind
  pub gives : IsAmong kind (fault_of the_command words)
  pub replied : RepliesByKind (is_help kind) reply

-- Clap takes the arguments, and they are not a call: a subcommand or an option is missing, or an
-- option names a place.
pub record IsNoRequest (words : List (List ℕ)) : Type 0 where
  pub taken : fault_of the_command words ≡ []
  pub none : (name : CommandName) (texts : List (Option (List ℕ)))
      → CallsInRequest words name texts → ⊥

-- Clap takes the arguments, and they are a call with this flaw.
pub record IsFlawedRequest (words : List (List ℕ)) (flaw : OptionError) : Type 0 where
  pub name : CommandName
  pub texts : List (Option (List ℕ))
  pub call : CallsInRequest words name texts
  pub is : flaw_of name texts ≡ Some flaw

-- How a command ends by that flaw is replied.
pub record EndsByFlaw (words : List (List ℕ)) (reply : Reply) : Type 0 where
  pub flaw : OptionError
  pub has : IsFlawedRequest words flaw
  pub replied : IsEnded reply (exit_of_option flaw)

-- What is replied to arguments that are not a call, or that are one with a flaw.
abbrev pub SaysOfWords : List (List ℕ) → Reply → Type 0
SaysOfWords words reply = (IsNoRequest words × IsEnded reply Usage)
    ⊎ (ShowsText words reply ⊎ EndsByFlaw words reply)

-- the same, by the error of reading the arguments
abbrev pub RepliesToError : WordsError → Reply → Type 0
RepliesToError (no_call.Words error) reply = RepliesByKind (is_help (kind_of error)) reply
RepliesToError no_call.Usage reply = IsEnded reply Usage
RepliesToError (no_call.Flawed call flaw) reply = IsEnded reply (exit_of_option flaw)
RepliesToError no_call.NoMemory reply = ⊥

-- The arguments are not a call, or have a flaw, and nothing has changed.
pub record RepliesToWords (words : List (List ℕ)) (change : ChangeRun) (reply : Reply)
    : Type 0 where
  pub replied : SaysOfWords words reply
  pub held : IsAsHeld change.state

-- What is replied to a request.
abbrev pub RepliesTo : (words : List (List ℕ)) → RunningStatus → ChangeRun → Reply → Type 0
RepliesTo words running change reply =
    RepliesAsCommand words running change reply ⊎ RepliesToWords words change reply

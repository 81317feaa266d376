-- What the commands that change what is held answer, and what is replied to their calls.
use Rattle.std.proofs.Common.{◌≡◌, ◌||◌, ℕ, ◌<◌, Bool, true, false, List, [], length}
use Rattle.std.proofs.Common.{inl, inr, Option, Some, Result, Ok, Err, IfErr, IfOk, OnErr, refl, sym, ap, ◌∙◌, subst}
use Rattle.std.proofs.Common.{arith}
use Rattle.std.proofs.lemmas.Bool.{both_ways, cases_lt}
use Rattle.std.proofs.lemmas.Result.{IfErr-weaker}
use Rattle.std.specs.Prelude.{◌≢◌, ◌↔◌, ◌≤◌, IsTrue, is_some}
use Rattle.clap.specs.Words.{IsAmong, fault_of, kind_of}
use Rattle.clap.specs.declared.error.Error.{Error}
use Rattle.clap.specs.declared.error.kind.ErrorKind.{ErrorKind}
use Rattle.clap.specs.declared.error.kind.ErrorKind.TheVariants.{DisplayHelp, DisplayVersion}
use Rattle.std.specs.declared.alloc.AllocError.{AllocError}
use Rattle.spiffe_name.specs.TrustDomain.{IsDomainText}
use Rattle.distrust_view.specs.declared.given_keys.GivenKeys.{GivenKeys}
use Rattle.closure_core.specs.Changes.{HeldAndRoom}
use Rattle.bundle_view.specs.declared.observation.Verdict.{Verdict}
use Rattle.replica_core.specs.declared.error.SyncError.{SyncError}
use Rattle.replica_core.specs.declared.error.SyncError.TheVariants.{Io as StreamFailed}
use Rattle.replica_texts.specs.Snapshots.{is_io}
use Rattle.fedbundle.specs.CommandRun.{StateRun, state_run}
use Rattle.command_exits.specs.DeviceRuns.{DeviceRun}
use Rattle.fedbundle.specs.Distrust.{RunsDistrust}
use Rattle.fedbundle.specs.Observe.{Fetched, IsAsHeld, RefusesToMake}
use Rattle.command_line.specs.OptionTexts.{SaysFlag}
use Rattle.command_line.specs.Checks.{IsSoundRequest}
use Rattle.command_line.specs.Words.{the_command}
use Rattle.command_line.specs.declared.option_error.OptionError.{OptionError}
use Rattle.command_line.specs.declared.words.Call.{Call}
use Rattle.command_line.specs.declared.words.WordsError.{WordsError}
use Rattle.command_line.specs.declared.words.WordsError.TheVariants as no_call
use Rattle.command_line.specs.declared.command_name.CommandName.TheVariants as command
use Rattle.command_line.specs.declared.command_name.OptionName.TheVariants.{Domain, DryRun, PublicKey, Verbose}
use Rattle.command_exits.specs.declared.error.CommandError.{CommandError}
use Rattle.command_exits.specs.declared.error.CommandError.TheVariants.{NoMemory, Observe, Sync, Take}
use Rattle.command_exits.specs.declared.exits.Exit.{Exit}
use Rattle.command_exits.specs.declared.exits.Exit.TheVariants.{Refused, Usage}
use Rattle.command_exits.specs.Exits.{exit_of_option, exit_status_of}
use Rattle.fedbundle.specs.SaidKeys.{SaysKeys}
use Rattle.local_answers.specs.Journalling.{IsSilent, RepliesChange, ReportsLines}
use Rattle.local_answers.specs.declared.changing_replies.Sayings.{Sayings}
use Rattle.fedbundle.specs.SaidValues.{SaysVerdict}
use Rattle.local_answers.specs.RequestRun.{Answers, AnswersObserve, AnswersShown, CallRun, ChangeRun, Ends, EndsDistrust, EndsMerge, EndsMergeCall, EndsOver}
use Rattle.local_answers.specs.RequestRun.{AnswersMerge, IsWithinRoom, exit_of_unread}
use Rattle.local_answers.specs.RequestRun.{EndsObserve, LeavesRoom}
use Rattle.local_answers.specs.RequestRun.{HasStreams, IsFlawedRequest, IsNoRequest, IsWith, RepliesByKind, RepliesTo, RepliesToCall, RepliesToError}
use Rattle.local_answers.specs.RequestRun.{SaysOfWords, is_help}
use Rattle.local_answers.specs.RequestRun.{SaysDistrusted, SaysFetched, change_run, keys_asked, memory_exit, said}
use Rattle.local_answers.specs.declared.reply.Reply.{Reply}
use Rattle.local_answers.specs.declared.request_fault.RequestFault.{RequestFault}
use Rattle.local_answers.proofs.RequestFacts.{observe_unmade, same_journalled}

-- ---- the reply

-- without an output
pub without_output : (reply : Reply) (output errors : List ℕ) (status : ℕ) → output ≡ [] → IsWith reply output errors status → IsWith reply [] errors status
without_output reply output errors status nothing with = subst (λ l. IsWith reply l errors status) nothing with

-- an error text, and no output
pub line_errors_named : (output errors : List ℕ) (result : Result Reply AllocError) → output ≡ [] → IfOk result (λ reply. IsWith reply output errors 2)
    → IfOk result (RepliesByKind false)
line_errors_named output errors (Ok reply) nothing with =
    subst (λ l. IsWith reply [] l 2) (sym with.errors) (without_output reply output errors 2 nothing with)
line_errors_named output errors (Err e) nothing with = tt

-- an output, and no error text
pub printed : (output errors : List ℕ) (result : Result Reply AllocError) → errors ≡ [] → IfOk result (λ reply. IsWith reply output errors 0)
    → IfOk result (RepliesByKind true)
printed output errors (Ok reply) nothing with =
    subst (λ l. IsWith reply l [] 0) (sym with.output) (subst (λ l. IsWith reply output l 0) nothing with)
printed output errors (Err e) nothing with = tt

-- The error of reading arguments is replied, and says what they are: clap refuses them, they are not a
-- call, or they are one with a flaw.
pub said_of_words : (Refuses : WordsError → Type 0) (spelt words : List (List ℕ)) (error : WordsError) (reply : Reply) → spelt ≡ words
    → ((e : Error) → Refuses (no_call.Words e) → IsAmong (kind_of e) (fault_of the_command spelt))
    → (Refuses no_call.Usage → IsNoRequest spelt)
    → ((call : Call) (flaw : OptionError) → Refuses (no_call.Flawed call flaw) → IsFlawedRequest spelt flaw)
    → Refuses error → RepliesToError error reply → SaysOfWords words reply
said_of_words Refuses spelt words (no_call.Words e) reply same at_fault none flawed refused replied =
    inr (inl (record { kind = kind_of e; gives = subst (λ ws. IsAmong (kind_of e) (fault_of the_command ws)) same (at_fault e refused); replied = replied }))
said_of_words Refuses spelt words no_call.Usage reply same at_fault none flawed refused replied = inl (subst IsNoRequest same (none refused), replied)
said_of_words Refuses spelt words (no_call.Flawed call flaw) reply same at_fault none flawed refused replied =
    inr (inr (record { flaw = flaw; has = subst (λ ws. IsFlawedRequest ws flaw) same (flawed call flaw refused); replied = replied }))
said_of_words Refuses spelt words no_call.NoMemory reply same at_fault none flawed refused replied = absurd replied

-- a kind that is neither of the two shows no help
no_help : (kind : ErrorKind) → (kind ≢ DisplayHelp) × (kind ≢ DisplayVersion) → is_help kind ≡ false
no_help DisplayHelp neither = absurd (neither.0 refl)
no_help DisplayVersion neither = absurd (neither.1 refl)
no_help kind neither = refl

-- a kind that shows none is neither of them
other_kind : (kind other : ErrorKind) → is_help kind ≡ false → is_help other ≡ true → kind ≢ other
other_kind kind other is not same = both_ways (is_help kind) is (ap is_help same ∙ not)

some_help : (kind : ErrorKind) → ((kind ≢ DisplayHelp) × (kind ≢ DisplayVersion) → ⊥) → is_help kind ≡ true
some_help DisplayHelp one = refl
some_help DisplayVersion one = refl
some_help kind one = absurd (one (other_kind kind DisplayHelp refl refl, other_kind kind DisplayVersion refl refl))

-- Clap's answer says which it is.
pub names_line_errors : (kind : ErrorKind) (stated : Bool) → stated ≡ true → (IsTrue stated ↔ ((kind ≢ DisplayHelp) × (kind ≢ DisplayVersion)))
    → is_help kind ≡ false
names_line_errors kind stated is both = no_help kind (both.0 is)

pub helps : (kind : ErrorKind) (stated : Bool) → stated ≡ false → (IsTrue stated ↔ ((kind ≢ DisplayHelp) × (kind ≢ DisplayVersion)))
    → is_help kind ≡ true
helps kind stated is both = some_help kind (λ neither. both_ways stated is (both.1 neither))

-- a reply of streams says nothing of a change
pub silent_with : (reply : Reply) (output errors : List ℕ) (status : ℕ) → IsWith reply output errors status → IsSilent reply
silent_with reply output errors status with = record { unjournalled = with.unjournalled; unreported = with.unreported }

-- nor does what clap shows
by_kind_silent : (helps : Bool) (reply : Reply) → RepliesByKind helps reply → IsSilent reply
by_kind_silent true reply with = silent_with reply reply.output.items [] 0 with
by_kind_silent false reply with = silent_with reply [] reply.errors.items 2 with

-- nor what is said to arguments that are not a call
pub error_silent : (error : WordsError) (reply : Reply) → RepliesToError error reply → IsSilent reply
error_silent (no_call.Words e) reply replied = by_kind_silent (is_help (kind_of e)) reply replied
error_silent no_call.Usage reply ended = silent_with reply [] ended.0 (exit_status_of Usage) ended.2
error_silent (no_call.Flawed call flaw) reply ended = silent_with reply [] ended.0 (exit_status_of (exit_of_option flaw)) ended.2
error_silent no_call.NoMemory reply replied = absurd replied

-- ---- `observe`

-- if no receipt is made, by the exit
pub observe_prevented : (s : HeldAndRoom) (source : DeviceRun) (input : List ℕ) (fetched : Fetched) (e : CommandError) (exit : Exit)
    → exit ≡ memory_exit e → source.before ≡ Some input → RefusesToMake source s.meaning fetched e
    → EndsObserve (change_run (state_run s s) input) fetched exit
observe_prevented s source input fetched e exit is before none =
    subst (EndsObserve (change_run (state_run s s) input) fetched) (sym is) (observe_unmade s source input fetched e before none)

-- however it ends, nothing has changed
pub observe_unchanged : (run : ChangeRun) (fetched : Fetched) (exit : Exit) → EndsObserve run fetched exit → IsAsHeld run.state
observe_unchanged run fetched (Refused (Observe e)) ends = ends.runs.refused.unchanged.meaning
observe_unchanged run fetched (Refused NoMemory) ends = ends
observe_unchanged run fetched exit ends = absurd ends

-- what was fetched, as the arguments say it
pub says_fetched : (run : CallRun) (domain text : List ℕ) (verdict : Verdict) → said run Domain ≡ Some text
    → (domain ≡ text) × IsDomainText text → SaysVerdict run.name run.texts verdict
    → SaysFetched run (record { domain = domain; verdict = verdict })
says_fetched run domain text verdict given read says =
    record { domain = given ∙ ap Some (sym read.0); form = subst IsDomainText (sym read.0) read.1; verdict = says }

-- ---- `merge`

-- an error of a failed source says that it failed
pub source_failed : (T : Type 0) (e : SyncError) (new old : Bool) → new ≡ (is_io {T = T} (Err e) || old) → e ≡ StreamFailed → new ≡ true
source_failed T e new old fault io = fault ∙ ap (λ w. is_io {T = T} (Err w) || old) io

-- however it ends, nothing has changed
pub merge_unchanged : (run : ChangeRun) (exit : Exit) → EndsMerge run exit → IsAsHeld run.state
merge_unchanged run (Refused (Sync StreamFailed)) ends = absurd ends
merge_unchanged run (Refused (Sync e)) ends = ap (λ (s : HeldAndRoom). s.meaning) ends.runs.unchanged
merge_unchanged run (Refused (Take e)) ends = ends.runs.refused.unchanged.meaning
merge_unchanged run (Refused NoMemory) ends = ends
merge_unchanged run exit ends = absurd ends

-- an error of the stream, or another refusal of it
pub exit_of_sync : (e : SyncError) → (e ≡ StreamFailed → ⊥) → Refused (Sync e) ≡ exit_of_unread e
exit_of_sync StreamFailed other = absurd (other refl)
exit_of_sync e other = refl

-- ---- `distrust`

-- records that are refused
pub distrust_refused : (old new : HeldAndRoom) (given : GivenKeys) (e : CommandError) → RunsDistrust old.meaning given new.meaning (Err e)
    → EndsDistrust (state_run old new) given (Refused e)
distrust_refused old new given (Take why) runs = runs
distrust_refused old new given NoMemory runs = runs
distrust_refused old new given e runs = absurd runs

-- however it ends, nothing has changed
pub distrust_unchanged : (state : StateRun) (given : GivenKeys) (exit : Exit) → EndsDistrust state given exit → IsAsHeld state
distrust_unchanged state given (Refused (Take e)) ends = ends.same
distrust_unchanged state given (Refused NoMemory) ends = ends
distrust_unchanged state given exit ends = absurd ends

-- what a flag's text says
pub flag_said : (text stated : Option (List ℕ)) (flag value : Bool) → text ≡ stated → SaysFlag text flag → flag ≡ value → SaysFlag stated value
flag_said text stated flag value same says is = subst (SaysFlag stated) is (subst (λ t. SaysFlag t flag) same says)

-- ---- calls

-- what is so at each error is so of the result
pub on_any_error : {T E : Type 0} (result : Result T E) (P : E → Type 0) (Q : Type 0) → ((e : E) → P e → Q) → IfErr result P → OnErr result Q
on_any_error result P Q each ends = IfErr-weaker result P (λ _. Q) each ends

-- what `observe` answers, as the answer of its call
pub observe_called : (run : CallRun) (fetched : Fetched) (result : Result Reply Exit) → SaysFetched run fetched
    → IfOk result (λ reply. HasStreams (AnswersObserve run.change fetched) reply) → IfOk result (Answers command.Observe run)
observe_called run fetched (Ok reply) says answers = record { fetched = fetched; says = says; answers = answers }
observe_called run fetched (Err exit) says answers = tt

-- the same for how it ends
pub observe_call_ends : (run : CallRun) (fetched : Fetched) (result : Result Reply Exit) → SaysFetched run fetched
    → IfErr result (EndsObserve run.change fetched) → IfErr result (Ends command.Observe run)
observe_call_ends run fetched (Ok reply) says ends = tt
observe_call_ends run fetched (Err exit) says ends = inr (inr (inr (record { fetched = fetched; says = says; ends = ends })))

-- the input was not too long
pub within_room : (run : CallRun) (room : ℕ) → LeavesRoom run.name run.texts run.running room → length run.change.input ≤ room → IsWithinRoom run
within_room run room is low = record { room = room; is_room = is; within = low }

-- the input was too long
pub not_within : (stated : Bool) (count room : ℕ) → (IsTrue stated ↔ (count ≤ room)) → stated ≡ false → room < count
not_within stated count room both is = elim (cases_lt room count) [
  | inl over ↦ over
  | inr high ↦ absurd (both_ways stated is (both.1 (omega (arith, high))))
]

-- what `merge` answers, as the answer of its call
pub merge_called : (run : CallRun) (result : Result Reply Exit) → IsWithinRoom run
    → IfOk result (λ reply. HasStreams (AnswersMerge run.change) reply) → IfOk result (Answers command.Merge run)
merge_called run (Ok reply) within answers = record { within = within; answers = answers }
merge_called run (Err exit) within answers = tt

-- how `merge` ends, by the exit
merge_ends : (run : CallRun) (exit : Exit) → IsWithinRoom run → EndsMerge run.change exit → EndsMergeCall run exit
merge_ends run (Refused e) within ends = (within, ends)
merge_ends run exit within ends = absurd ends

-- the same, as the end of its call
pub merge_call_ends : (run : CallRun) (result : Result Reply Exit) → IsWithinRoom run → IfErr result (EndsMerge run.change)
    → IfErr result (Ends command.Merge run)
merge_call_ends run (Ok reply) within ends = tt
merge_call_ends run (Err exit) within ends = inr (merge_ends run exit within ends)

-- what a dry run answers, as the answer of its call
pub dry_run_called : (run : CallRun) (result : Result Reply Exit) → SaysFlag (said run DryRun) true → IfOk result (AnswersShown run)
    → IfOk result (Answers command.Distrust run)
dry_run_called run (Ok reply) dry answers = record { dry = true; is_dry = dry; answers = answers }
dry_run_called run (Err exit) dry answers = tt

-- the same for how it ends
pub dry_run_ends : (run : CallRun) (result : Result Reply Exit) → SaysFlag (said run DryRun) true
    → IfErr result (EndsOver run) → IfErr result (Ends command.Distrust run)
dry_run_ends run (Ok reply) dry ends = tt
dry_run_ends run (Err exit) dry (inl anyhow) = inl anyhow
dry_run_ends run (Err exit) dry (inr ends) = inr (record { dry = true; is_dry = dry; ends = ends })

-- what `distrust` answers, as the answer of its call
pub distrust_called : (run : CallRun) (given : GivenKeys) (sayings : Sayings) (result : Result Reply Exit) → SaysKeys (keys_asked run) given
    → SaysFlag (said run DryRun) false → SaysFlag (said run Verbose) sayings.is_verbose → sayings.names_keys ≡ is_some (said run PublicKey)
    → IfOk result (λ reply. SaysDistrusted run.change.state given sayings reply) → IfOk result (Answers command.Distrust run)
distrust_called run given sayings (Ok reply) says lasting flag names held = record {
  dry = false;
  is_dry = lasting;
  answers = record { given = given; says = says; sayings = sayings; is_verbose = flag; names_keys = names; held = held };
}
distrust_called run given sayings (Err exit) says lasting flag names held = tt

-- the same for how it ends
pub distrust_call_ends : (run : CallRun) (given : GivenKeys) (result : Result Reply Exit) → SaysKeys (keys_asked run) given
    → SaysFlag (said run DryRun) false → IfErr result (EndsDistrust run.change.state given) → IfErr result (Ends command.Distrust run)
distrust_call_ends run given (Ok reply) says lasting ends = tt
distrust_call_ends run given (Err exit) says lasting ends =
    inr (record { dry = false; is_dry = lasting; ends = inr (record { given = given; says = says; ends = ends }) })

-- a reply that is silent, if nothing has changed
pub silent_change : (old new : HeldAndRoom) (reply : Reply) → IsSilent reply → new.meaning ≡ old.meaning → RepliesChange reply (state_run old new)
silent_change old new reply silent same = record {
  journals = same_journalled old new reply.journal.items silent.unjournalled same;
  reports = subst (ReportsLines (state_run old new) reply.journal.items) (sym silent.unreported) silent.unjournalled;
}

pub none_changed : (state : HeldAndRoom) (result : Result Reply Exit) → IfOk result IsSilent
    → IfOk result (λ reply. RepliesChange reply (state_run state state))
none_changed state (Ok reply) silent = silent_change state state reply silent refl
none_changed state (Err exit) silent = tt

-- ---- requests

-- what is replied to a call is replied to its arguments
pub words_called : (words : List (List ℕ)) (run : CallRun) (result : Result Reply RequestFault) → IsSoundRequest words run.name run.texts
    → IfOk result (RepliesToCall run) → IfOk result (RepliesTo words run.running run.change)
words_called words run (Ok reply) calls replied = inl (record { name = run.name; texts = run.texts; call = calls; replied = replied })
words_called words run (Err fault) calls replied = tt

-- What comes of a request at a socket at which nothing can be changed
use Rattle.std.specs.Prelude.{◌≡◌, ◌⊎◌, ℕ, List, Option, Bool, true, false, not}
use Rattle.command_line.specs.OptionTexts.{SaysFlag}
use Rattle.command_line.specs.Checks.{IsSoundRequest}
use Rattle.command_line.specs.declared.command_name.CommandName.{CommandName}
use Rattle.command_line.specs.declared.command_name.CommandName.TheVariants as command
use Rattle.command_line.specs.declared.command_name.OptionName.TheVariants.{DryRun}
use Rattle.command_exits.specs.declared.exits.Exit.{Exit}
use Rattle.command_exits.specs.declared.exits.Exit.TheVariants.{ReadOnly}
use Rattle.status_view.specs.declared.running.RunningStatus.{RunningStatus}
use Rattle.local_answers.specs.RequestRun.{AnswersShown, CallRun, ChangeRun, EndsAnyhow, EndsShown}
use Rattle.local_answers.specs.RequestRun.{IsEnded, RepliesToWords, call_run, said}
use Rattle.local_answers.specs.declared.reply.Reply.{Reply}

-- The command changes what is held, or ends the replica.
abbrev pub is_change : CommandName → (is_dry : Bool) → Bool
is_change command.Observe is_dry = true
is_change command.Merge is_dry = true
is_change command.Stop is_dry = true
is_change command.Distrust is_dry = not is_dry
is_change name is_dry = false

-- the same for a call
pub record Changes (run : CallRun) (changes : Bool) : Type 0 where
  pub dry : Bool
  pub is_dry : SaysFlag (said run DryRun) dry
  pub is : is_change run.name dry ≡ changes

-- It only looks, and what it shows is replied.
pub record AnswersLook (run : CallRun) (reply : Reply) : Type 0 where
  pub looks : Changes run false
  pub shows : AnswersShown run reply

-- It only looks, and ends.
pub record EndsLooking (run : CallRun) (exit : Exit) : Type 0 where
  pub looks : Changes run false
  pub ends : EndsShown run exit

-- It would change something.
pub record RefusesChange (run : CallRun) (exit : Exit) : Type 0 where
  pub changes : Changes run true
  pub is : exit ≡ ReadOnly

-- How a command ends that is not done.
abbrev pub EndsLook : CallRun → Exit → Type 0
EndsLook run exit = EndsAnyhow run exit ⊎ (RefusesChange run exit ⊎ EndsLooking run exit)

-- The command ended, and that is replied.
pub record RepliesWithLookEnd (run : CallRun) (reply : Reply) : Type 0 where
  pub exit : Exit
  pub ends : EndsLook run exit
  pub replied : IsEnded reply exit

-- What is replied to a call: what is shown, or how the command ends.
abbrev pub LooksAtCall : CallRun → Reply → Type 0
LooksAtCall run reply = AnswersLook run reply ⊎ RepliesWithLookEnd run reply

-- The arguments are a call in a request, without a flaw, and that is replied.
pub record LooksAsCommand (words : List (List ℕ)) (running : RunningStatus) (change : ChangeRun)
    (reply : Reply) : Type 0 where
  pub name : CommandName
  pub texts : List (Option (List ℕ))
  pub call : IsSoundRequest words name texts
  pub replied : LooksAtCall (call_run name texts running change) reply

-- What is replied to a request.
abbrev pub RepliesToLook : (words : List (List ℕ)) → RunningStatus → ChangeRun → Reply → Type 0
RepliesToLook words running change reply =
    LooksAsCommand words running change reply ⊎ RepliesToWords words change reply

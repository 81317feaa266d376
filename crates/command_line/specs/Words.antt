-- The arguments of the command line, as clap's definition of a command reads them.
use Rattle.std.specs.Prelude.{Bool, true, false, not, if◌then◌else◌}
use Rattle.std.specs.Prelude.{◌≡◌, ℕ, List, [], ◌∷◌, map, fold, codes, Option, None, Some, is_some}
use Rattle.std.specs.Prelude.{find}
use Rattle.std.specs.List.{list_all}
use Rattle.std.specs.Str.{bytes_eq}
use Rattle.clap.specs.Words.{App, Row, Rule, Text, fault_of, first_of, new_app}
use Rattle.clap.specs.Words.{new_rule, subcommand_of, with_rule, with_subcommand}
use Rattle.command_line.specs.OptionRows.{is_flag, option_text, options_of, taken_name}
use Rattle.clap.specs.declared.builder.action.ArgAction.TheVariants.{Set, SetTrue}
use Rattle.command_line.specs.declared.command_name.CommandName.{CommandName}
use Rattle.command_line.specs.declared.command_name.CommandName.TheVariants as command
use Rattle.command_line.specs.declared.command_name.OptionName.{OptionName}
use Rattle.command_line.specs.declared.command_name.OptionName.TheVariants.{At}
use Rattle.command_line.specs.declared.command_name.TakenOption.{TakenOption}
use Rattle.command_line.specs.declared.command_name.TakenOption.TheVariants.{Required, Optional}
use Rattle.command_line.specs.declared.command_name.TakenOption.TheVariants.{RequiredOverFiles}
use Rattle.command_line.specs.declared.command_name.TakenOption.TheVariants.{OptionalOverFiles}
use Rattle.command_line.specs.declared.command_name.TakenOption.TheVariants.{OptionalAtReplica}
use Rattle.command_line.specs.declared.command_name.TakenOption.TheVariants.{Asking}
use Rattle.command_line.specs.declared.words.WordsPlace.{WordsPlace}
use Rattle.command_line.specs.declared.words.WordsPlace.TheVariants.{CommandLine, Request}

abbrev pub name_text : CommandName → List ℕ
name_text command.Canon = codes "canon"
name_text command.Config = codes "config"
name_text command.New = codes "new"
name_text command.Report = codes "report"
name_text command.List = codes "list"
name_text command.Diff = codes "diff"
name_text command.Graph = codes "graph"
name_text command.Status = codes "status"
name_text command.Bundle = codes "bundle"
name_text command.Explain = codes "explain"
name_text command.Observe = codes "observe"
name_text command.Merge = codes "merge"
name_text command.Migrate = codes "migrate"
name_text command.Reseed = codes "reseed"
name_text command.Polls = codes "polls"
name_text command.Distrust = codes "distrust"
name_text command.Serve = codes "serve"
name_text command.Pull = codes "pull"
name_text command.Replica = codes "replica"
name_text command.Stop = codes "stop"

abbrev pub all_names : List CommandName
all_names = command.Canon ∷ command.Config ∷ command.New ∷ command.Report ∷ command.List
    ∷ command.Diff ∷ command.Graph ∷ command.Status ∷ command.Bundle ∷ command.Explain
    ∷ command.Observe ∷ command.Merge ∷ command.Migrate ∷ command.Reseed ∷ command.Polls
    ∷ command.Distrust ∷ command.Serve ∷ command.Pull ∷ command.Replica ∷ command.Stop ∷ []

-- the subcommand that has this text, if there is one
abbrev pub named : Text → Option CommandName
named word = find (λ name. bytes_eq (name_text name) word) all_names

-- ---- the command, as clap knows it

-- an option with one text, which may be left out
abbrev pub text_rule : OptionName → Rule
text_rule option = record (new_rule (option_text option))
    { long = Some (option_text option); action = Some Set; value_names = 1 }

-- an option without a text: clap takes it for one with the text `true`, and with the text `false`
-- if it is left out
abbrev pub flag_rule : OptionName → Rule
flag_rule option = record (new_rule (option_text option))
    { long = Some (option_text option); action = Some SetTrue }

abbrev pub rule_of_option : OptionName → Rule
rule_of_option option = if is_flag option then flag_rule option else text_rule option

abbrev pub with_option : App → TakenOption → App
with_option app taken = with_rule app (rule_of_option (taken_name taken))

-- a subcommand with its options
abbrev pub leaf : CommandName → App
leaf name = fold with_option (new_app (name_text name)) (options_of name)

abbrev pub with_name : App → CommandName → App
with_name app name = with_subcommand app (leaf name).top

-- the command before it has its subcommands: its arguments begin after the program's name, and it
-- has a version
abbrev pub bare_app : App
bare_app = let app = new_app (codes "fedbundle") in record app
    { top = record app.top { no_binary_name = true; has_version = true } }

abbrev pub the_command : App
the_command = fold with_name bare_app all_names

-- ---- what arguments call for

-- the text that clap's definition of the command gives an option, if the arguments give it one
abbrev pub given : List Row → OptionName → Option Text
given rows option = first_of (option_text option) rows

-- there is a text, and it is this one
abbrev pub is_text : Option Text → Text → Bool
is_text None wanted = false
is_text (Some text) wanted = bytes_eq text wanted

-- the option with this text is given: a flag, with the text `true`; another, with any
abbrev pub is_given_as : OptionName → Option Text → Bool
is_given_as option text = if is_flag option then is_text text (codes "true") else is_some text

abbrev pub is_given : List Row → OptionName → Bool
is_given rows option = is_given_as option (given rows option)

-- the text of an option that a subcommand takes
abbrev pub given_taken : List Row → TakenOption → Option Text
given_taken rows taken = given rows (taken_name taken)

-- A running replica is asked: by a request, or by a command line with `--at`.
abbrev pub asks_running : WordsPlace → (at : Bool) → Bool
asks_running CommandLine at = at
asks_running Request at = true

-- Whether an option may be as it is, given or not. `at`: whether the arguments have `--at`.
abbrev pub settled_at : WordsPlace → (at is_given : Bool) → TakenOption → Bool
settled_at place at is_given (Required name) = is_given
settled_at place at is_given (Optional name) = true
settled_at place at is_given (RequiredOverFiles name) =
    if asks_running place at then not is_given else is_given
settled_at place at is_given (OptionalOverFiles name) =
    if asks_running place at then not is_given else true
settled_at place at is_given (OptionalAtReplica name) =
    if asks_running place at then true else not is_given
settled_at CommandLine at is_given (Asking name) = true
settled_at Request at is_given (Asking name) = not is_given

abbrev pub is_settled_in : WordsPlace → List Row → TakenOption → Bool
is_settled_in place rows taken =
    settled_at place (is_given rows At) (is_given rows (taken_name taken)) taken

-- Clap takes the arguments. They name the subcommand, give each of its options its text, and leave
-- out no option that it needs.
pub record CallsFrom (place : WordsPlace) (words : List Text) (name : CommandName)
    (texts : List (Option Text)) : Type 0 where
  pub rows : List Row
  pub taken : fault_of the_command words ≡ []
  pub entered : subcommand_of the_command words ≡ Some (name_text name, rows)
  pub given : map (given_taken rows) (options_of name) ≡ texts
  pub settled : list_all (is_settled_in place rows) (options_of name) ≡ true

-- the same for the arguments of a request to a running replica
abbrev pub CallsInRequest : List Text → CommandName → List (Option Text) → Type 0
CallsInRequest words name texts = CallsFrom Request words name texts

-- Clap takes the arguments, and they are not a call.
pub record IsNoCall (place : WordsPlace) (words : List Text) : Type 0 where
  pub taken : fault_of the_command words ≡ []
  pub none : (name : CommandName) (texts : List (Option Text)) → CallsFrom place words name texts
      → ⊥

-- How arguments are read before their options are checked, and how an error of clap is passed on.
use Rattle.std.specs.Prelude.{◌≡◌, List, map, option_map, Result, MatchResult, true}
use Rattle.clap.specs.Words.{App, Text, fault_of, is_simple, is_simple_and_free, kind_of}
use Rattle.clap.specs.Words.{subcommand_of}
use Rattle.clap.specs.declared.error.Error.{Error}
use Rattle.command_line.specs.Checks.{RefusesWords}
use Rattle.command_line.specs.Words.{CallsFrom, the_command}
use Rattle.command_line.specs.declared.words.Call.{Call}
use Rattle.command_line.specs.declared.words.WordsError.{WordsError}
use Rattle.command_line.specs.declared.words.WordsError.TheVariants.{Words, Usage, NoMemory, Flawed}
use Rattle.command_line.specs.declared.words.WordsPlace.{WordsPlace}

-- The refusal has the kind of clap's error, unless memory ran out.
abbrev pub KeepsKind : Error → WordsError → Type 0
KeepsKind error (Words refused) = kind_of refused ≡ kind_of error
KeepsKind error Usage = ⊥
KeepsKind error (Flawed call flaw) = ⊥
KeepsKind error NoMemory = Unit {0}

-- The call that arguments are, with or without a flaw, or why they are refused.
abbrev pub ParsesWords : WordsPlace → List Text → Result Call WordsError → Type 0
ParsesWords place words result = MatchResult result
    (λ call. CallsFrom place words call.name (map (option_map (λ t. t.now)) call.texts.items))
    (RefusesWords place words)

-- The command reads these arguments as the whole command does, as clap's contract says of it.
pub record ReadsAsAll (words : List Text) (app : App) : Type 0 where
  pub simple : is_simple app ≡ true
  pub free : is_simple_and_free app ≡ true
  pub same_fault : fault_of app words ≡ fault_of the_command words
  pub same_entered : subcommand_of app words ≡ subcommand_of the_command words

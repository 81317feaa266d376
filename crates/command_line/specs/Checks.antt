-- What reading arguments gives: a call whose options agree, or why they are refused.
use Rattle.std.specs.Prelude.{◌≡◌, ◌&&◌, Bool, true, false, not, List, map, find, codes}
use Rattle.std.specs.Prelude.{Option, Some, None, option_map, Result, MatchResult}
use Rattle.clap.specs.Words.{IsAmong, Text, fault_of, kind_of}
use Rattle.command_line.specs.OptionRows.{is_path, options_of, taken_name}
use Rattle.command_line.specs.Words.{CallsFrom, IsNoCall, is_text, the_command}
use Rattle.command_line.specs.OptionTexts.{option_said}
use Rattle.command_line.specs.declared.command_name.CommandName.{CommandName}
use Rattle.command_line.specs.declared.command_name.CommandName.TheVariants as command
use Rattle.command_line.specs.declared.command_name.OptionName.{OptionName}
use Rattle.command_line.specs.declared.command_name.OptionName.TheVariants.{Key, PublicKey}
use Rattle.command_line.specs.declared.command_name.TakenOption.{TakenOption}
use Rattle.command_line.specs.declared.option_error.OptionError.{OptionError}
use Rattle.command_line.specs.declared.option_error.OptionError.TheVariants as unread
use Rattle.command_line.specs.declared.words.Call.{Call}
use Rattle.command_line.specs.declared.words.WordsError.{WordsError}
use Rattle.command_line.specs.declared.words.WordsError.TheVariants.{Words, Usage, NoMemory, Flawed}
use Rattle.command_line.specs.declared.words.WordsPlace.{WordsPlace}
use Rattle.command_line.specs.declared.words.WordsPlace.TheVariants.{Request}

-- ---- what is wrong with a call

-- the option names a file or a socket, and its text is empty
abbrev pub is_empty_path : CommandName → List (Option Text) → TakenOption → Bool
is_empty_path name texts taken =
    is_path (taken_name taken) && is_text (option_said name texts (taken_name taken)) (codes "")

-- the first such option of the subcommand
abbrev pub empty_path : CommandName → List (Option Text) → Option OptionName
empty_path name texts = option_map taken_name (find (is_empty_path name texts) (options_of name))

abbrev pub is_one_given : Option Text → Option Text → Bool
is_one_given (Some one) None = true
is_one_given None (Some other) = true
is_one_given one other = false

-- `distrust` has a key or a public key, and not both.
abbrev pub lacks_key : CommandName → List (Option Text) → Bool
lacks_key command.Distrust texts = not (is_one_given
    (option_said command.Distrust texts Key) (option_said command.Distrust texts PublicKey))
lacks_key name texts = false

abbrev pub flaw_by : Option OptionName → (lacks_key : Bool) → Option OptionError
flaw_by (Some path) lacks_key = Some (unread.EmptyPath path)
flaw_by None true = Some unread.Usage
flaw_by None false = None

-- What a call is refused for: a file without a name, or its key.
abbrev pub flaw_of : CommandName → List (Option Text) → Option OptionError
flaw_of name texts = flaw_by (empty_path name texts) (lacks_key name texts)

-- ---- what is read

-- Why arguments are refused: by clap, and its error has a kind that clap gives at these arguments;
-- since they are not a call; since they are a call with this flaw; or memory ran out.
abbrev pub RefusesWords : WordsPlace → List Text → WordsError → Type 0
RefusesWords place words (Words error) = IsAmong (kind_of error) (fault_of the_command words)
RefusesWords place words Usage = IsNoCall place words
RefusesWords place words (Flawed call flaw) =
    CallsFrom place words call.name (map (option_map (λ t. t.now)) call.texts.items)
    × (flaw_of call.name (map (option_map (λ t. t.now)) call.texts.items) ≡ Some flaw)
RefusesWords place words NoMemory = Unit {0}

-- The arguments are a call without a flaw.
abbrev pub IsSoundCall : WordsPlace → List Text → CommandName → List (Option Text) → Type 0
IsSoundCall place words name texts =
    CallsFrom place words name texts × (flaw_of name texts ≡ None)

-- the same for the arguments of a request to a running replica
abbrev pub IsSoundRequest : List Text → CommandName → List (Option Text) → Type 0
IsSoundRequest words name texts = IsSoundCall Request words name texts

-- The result of reading arguments: the call that they are, or why they are refused.
abbrev pub ReadsWords : WordsPlace → List Text → Result Call WordsError → Type 0
ReadsWords place words result = MatchResult result
    (λ call. IsSoundCall place words call.name (map (option_map (λ t. t.now)) call.texts.items))
    (RefusesWords place words)

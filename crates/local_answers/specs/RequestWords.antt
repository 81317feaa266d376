-- The arguments by which a request asks for what the arguments of a command line ask for.
use Rattle.std.specs.Prelude.{ℕ, List, [], ◌∷◌, ◌++◌, codes, Option, None, Some, Bool, false, true}
use Rattle.std.specs.Prelude.{if◌then◌else◌, bytes_eq, option_to_list}
use Rattle.command_line.specs.OptionRows.{is_flag, option_text, options_of, taken_name}
use Rattle.command_line.specs.Words.{name_text}
use Rattle.command_line.specs.declared.command_name.CommandName.{CommandName}
use Rattle.command_line.specs.declared.command_name.OptionName.{OptionName}
use Rattle.command_line.specs.declared.command_name.TakenOption.{TakenOption}
use Rattle.command_line.specs.declared.command_name.TakenOption.TheVariants.{Required, Optional}
use Rattle.command_line.specs.declared.command_name.TakenOption.TheVariants.{RequiredOverFiles}
use Rattle.command_line.specs.declared.command_name.TakenOption.TheVariants.{OptionalOverFiles}
use Rattle.command_line.specs.declared.command_name.TakenOption.TheVariants.{OptionalAtReplica}
use Rattle.command_line.specs.declared.command_name.TakenOption.TheVariants.{Asking}

-- a request may have it: it is nothing that the replica has itself, and names no replica
abbrev pub is_asked : TakenOption → Bool
is_asked (Required name) = true
is_asked (Optional name) = true
is_asked (RequiredOverFiles name) = false
is_asked (OptionalOverFiles name) = false
is_asked (OptionalAtReplica name) = true
is_asked (Asking name) = false

-- the argument for a flag that is given
abbrev pub flag_word : OptionName → List ℕ → Option (List ℕ)
flag_word option text =
    if bytes_eq text (codes "true") then Some (codes "--" ++ option_text option) else None

-- the argument for another option and its text
abbrev pub text_word : TakenOption → List ℕ → Option (List ℕ)
text_word taken text = if is_asked taken
    then Some (codes "--" ++ (option_text (taken_name taken) ++ (codes "=" ++ text))) else None

-- the argument for an option, if it is given and a request has one for it
abbrev pub word_with : TakenOption → Option (List ℕ) → Option (List ℕ)
word_with taken None = None
word_with taken (Some text) =
    if is_flag (taken_name taken) then flag_word (taken_name taken) text else text_word taken text

-- the arguments for options, each with its text
abbrev pub words_with : List TakenOption → List (Option (List ℕ)) → List (List ℕ)
words_with [] texts = []
words_with (o ∷ os) [] = []
words_with (o ∷ os) (text ∷ texts) = option_to_list (word_with o text) ++ words_with os texts

-- the subcommand, and the arguments for its options
abbrev pub asked_words : CommandName → List (Option (List ℕ)) → List (List ℕ)
asked_words name texts = name_text name ∷ words_with (options_of name) texts

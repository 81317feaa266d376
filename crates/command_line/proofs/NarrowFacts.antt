-- A command that has only one subcommand reads arguments that begin with its name as the whole command does.
use Rattle.std.proofs.Common.{◌≡◌, ◌≤◌, Bool, true, false, List, [], ◌∷◌, ◌++◌, length, map, get_or, fold, Option, Some}
use Rattle.std.proofs.Common.{arith, refl, sym, ap, ◌∙◌, append_assoc, append-nil}
use Rattle.std.specs.Option.{option_map_or}
use Rattle.std.specs.Prelude.{drop, find, if◌then◌else◌, is_some, option_map}
use Rattle.clap.specs.Words.{App, Row, Rule, Text, fault_of, is_simple, is_simple_and_free, subcommand_of}
use Rattle.clap.specs.Faults.{built_fault, check_fault, defaults_fault, entered_fault, level_fault, settle_fault, turn_fault, walk_fault}
use Rattle.clap.specs.Kinds.{Kinds, or_else}
use Rattle.clap.specs.Simple.{Shape, argument_words, built, entered, label_of, names_of, rows_at}
use Rattle.clap.specs.Walk.{Names, Walk, answers_to, finished, nothing_held, settled, walk, walk_from, walked}
use Rattle.command_line.specs.declared.command_name.CommandName.{CommandName}
use Rattle.command_line.specs.declared.command_name.CommandName.TheVariants as command
use Rattle.command_line.specs.Inside.WordsErrors.{ReadsAsAll}
use Rattle.command_line.specs.Words.{bare_app, name_text, the_command, with_name}

-- arguments, of which the first is a name
pub first_word : {X : Type 0} (f : X → Text) (words : List X) (none : X) {word : Text} → 1 ≤ length words → f (get_or words 0 none) ≡ word
    → (rest : List Text) × map f words ≡ word ∷ rest
first_word f [] none some is = absurd (omega (arith, some))
first_word f (first ∷ rest) none some is = (map f rest, ap (λ w. w ∷ map f rest) is)

-- the command with only this subcommand
abbrev pub only : CommandName → App
only name = with_name bare_app name

-- ---- a walk that stopped

abbrev pub stopped_at : Text → List Text → Walk
stopped_at word rest = record (walk_from nothing_held) { stopped = Some (word, rest) }

-- it takes no more arguments
stays : (rules : List Rule) (names : Names) (word : Text) (some rest : List Text)
    → fold (walked rules names) (stopped_at word some) rest ≡ stopped_at word (some ++ rest)
unfolding walked
stays rules names word some [] = ap (stopped_at word) (sym (append-nil some))
stays rules names word some (next ∷ rest) =
    stays rules names word (some ++ next ∷ []) rest ∙ ap (stopped_at word) (append_assoc some (next ∷ []) rest)

-- and refuses none
passes : (s : Shape) (names : Names) (word : Text) (some rest : List Text) → walk_fault s names (stopped_at word some) rest ≡ []
unfolding walk_fault walked
passes s names word some [] = refl
passes s names word some (next ∷ rest) = passes s names word (some ++ next ∷ []) rest

-- ---- the first argument

first_of_all : (name : CommandName)
    → walked (built the_command).top.rules (names_of (built the_command)) (walk_from nothing_held) (name_text name)
    ≡ stopped_at (name_text name) []
unfolding walked
first_of_all command.Canon = refl
first_of_all command.Config = refl
first_of_all command.New = refl
first_of_all command.Report = refl
first_of_all command.List = refl
first_of_all command.Diff = refl
first_of_all command.Graph = refl
first_of_all command.Status = refl
first_of_all command.Bundle = refl
first_of_all command.Explain = refl
first_of_all command.Observe = refl
first_of_all command.Merge = refl
first_of_all command.Migrate = refl
first_of_all command.Reseed = refl
first_of_all command.Polls = refl
first_of_all command.Distrust = refl
first_of_all command.Serve = refl
first_of_all command.Pull = refl
first_of_all command.Replica = refl
first_of_all command.Stop = refl

first_of_one : (name : CommandName)
    → walked (built (only name)).top.rules (names_of (built (only name))) (walk_from nothing_held) (name_text name)
    ≡ stopped_at (name_text name) []
unfolding walked
first_of_one command.Canon = refl
first_of_one command.Config = refl
first_of_one command.New = refl
first_of_one command.Report = refl
first_of_one command.List = refl
first_of_one command.Diff = refl
first_of_one command.Graph = refl
first_of_one command.Status = refl
first_of_one command.Bundle = refl
first_of_one command.Explain = refl
first_of_one command.Observe = refl
first_of_one command.Merge = refl
first_of_one command.Migrate = refl
first_of_one command.Reseed = refl
first_of_one command.Polls = refl
first_of_one command.Distrust = refl
first_of_one command.Serve = refl
first_of_one command.Pull = refl
first_of_one command.Replica = refl
first_of_one command.Stop = refl

silent_of_all : (name : CommandName) → turn_fault (built the_command).top (names_of (built the_command)) (walk_from nothing_held) (name_text name) ≡ []
silent_of_all command.Canon = refl
silent_of_all command.Config = refl
silent_of_all command.New = refl
silent_of_all command.Report = refl
silent_of_all command.List = refl
silent_of_all command.Diff = refl
silent_of_all command.Graph = refl
silent_of_all command.Status = refl
silent_of_all command.Bundle = refl
silent_of_all command.Explain = refl
silent_of_all command.Observe = refl
silent_of_all command.Merge = refl
silent_of_all command.Migrate = refl
silent_of_all command.Reseed = refl
silent_of_all command.Polls = refl
silent_of_all command.Distrust = refl
silent_of_all command.Serve = refl
silent_of_all command.Pull = refl
silent_of_all command.Replica = refl
silent_of_all command.Stop = refl

silent_of_one : (name : CommandName) → turn_fault (built (only name)).top (names_of (built (only name))) (walk_from nothing_held) (name_text name) ≡ []
silent_of_one command.Canon = refl
silent_of_one command.Config = refl
silent_of_one command.New = refl
silent_of_one command.Report = refl
silent_of_one command.List = refl
silent_of_one command.Diff = refl
silent_of_one command.Graph = refl
silent_of_one command.Status = refl
silent_of_one command.Bundle = refl
silent_of_one command.Explain = refl
silent_of_one command.Observe = refl
silent_of_one command.Merge = refl
silent_of_one command.Migrate = refl
silent_of_one command.Reseed = refl
silent_of_one command.Polls = refl
silent_of_one command.Distrust = refl
silent_of_one command.Serve = refl
silent_of_one command.Pull = refl
silent_of_one command.Replica = refl
silent_of_one command.Stop = refl

same_found : (name : CommandName) → find (λ s. answers_to (name_text name) (label_of s)) (built the_command).subs
    ≡ find (λ s. answers_to (name_text name) (label_of s)) (built (only name)).subs
same_found command.Canon = refl
same_found command.Config = refl
same_found command.New = refl
same_found command.Report = refl
same_found command.List = refl
same_found command.Diff = refl
same_found command.Graph = refl
same_found command.Status = refl
same_found command.Bundle = refl
same_found command.Explain = refl
same_found command.Observe = refl
same_found command.Merge = refl
same_found command.Migrate = refl
same_found command.Reseed = refl
same_found command.Polls = refl
same_found command.Distrust = refl
same_found command.Serve = refl
same_found command.Pull = refl
same_found command.Replica = refl
same_found command.Stop = refl

-- ---- clap's contract is about simple commands

simple_one : (name : CommandName) → is_simple (only name) ≡ true
simple_one command.Canon = refl
simple_one command.Config = refl
simple_one command.New = refl
simple_one command.Report = refl
simple_one command.List = refl
simple_one command.Diff = refl
simple_one command.Graph = refl
simple_one command.Status = refl
simple_one command.Bundle = refl
simple_one command.Explain = refl
simple_one command.Observe = refl
simple_one command.Merge = refl
simple_one command.Migrate = refl
simple_one command.Reseed = refl
simple_one command.Polls = refl
simple_one command.Distrust = refl
simple_one command.Serve = refl
simple_one command.Pull = refl
simple_one command.Replica = refl
simple_one command.Stop = refl

free_one : (name : CommandName) → is_simple_and_free (only name) ≡ true
free_one command.Canon = refl
free_one command.Config = refl
free_one command.New = refl
free_one command.Report = refl
free_one command.List = refl
free_one command.Diff = refl
free_one command.Graph = refl
free_one command.Status = refl
free_one command.Bundle = refl
free_one command.Explain = refl
free_one command.Observe = refl
free_one command.Merge = refl
free_one command.Migrate = refl
free_one command.Reseed = refl
free_one command.Polls = refl
free_one command.Distrust = refl
free_one command.Serve = refl
free_one command.Pull = refl
free_one command.Replica = refl
free_one command.Stop = refl

-- ---- arguments that begin with the name of a subcommand

abbrev pub found_in : App → Text → Option Shape
found_in a word = find (λ s. answers_to word (label_of s)) (built a).subs

record Enters (a : App) (word : Text) : Type 0 where
  bare : a.top.no_binary_name ≡ true
  walks : walked (built a).top.rules (names_of (built a)) (walk_from nothing_held) word ≡ stopped_at word []
  silent : turn_fault (built a).top (names_of (built a)) (walk_from nothing_held) word ≡ []

words_of : (a : App) (words : List Text) → a.top.no_binary_name ≡ true → argument_words a words ≡ words
words_of a words bare = ap (λ (no : Bool). if no then words else drop 1 words) bare

stops : (a : App) (word : Text) (rest : List Text) → Enters a word
    → walk (built a).top.rules (names_of (built a)) nothing_held (word ∷ rest) ≡ stopped_at word rest
stops a word rest enters =
    ap (λ w. fold (walked (built a).top.rules (names_of (built a))) w rest) enters.walks ∙ stays _ _ word [] rest

-- what the subcommand has of the other arguments
abbrev pub rows_found : Option Shape → List Text → Option (Text × List Row)
rows_found found rest = option_map (λ s. rows_at s rest) found

entered_as : (a : App) (word : Text) (rest : List Text) → Enters a word → subcommand_of a (word ∷ rest) ≡ rows_found (found_in a word) rest
entered_as a word rest enters =
    ap (λ words. entered (built a) (walk (built a).top.rules (names_of (built a)) nothing_held words).stopped) (words_of a (word ∷ rest) enters.bare)
    ∙ ap (λ (w : Walk). entered (built a) w.stopped) (stops a word rest enters)

-- no argument before the subcommand is refused
quiet : (a : App) (word : Text) (rest : List Text) → Enters a word
    → walk_fault (built a).top (names_of (built a)) (walk_from nothing_held) (word ∷ rest) ≡ []
unfolding walk_fault
quiet a word rest enters =
    ap (λ kinds. or_else kinds (walk_fault (built a).top (names_of (built a))
    (walked (built a).top.rules (names_of (built a)) (walk_from nothing_held) word) rest)) enters.silent
    ∙ ap (λ w. walk_fault (built a).top (names_of (built a)) w rest) enters.walks
    ∙ passes (built a).top (names_of (built a)) word [] rest

-- what is refused of the others, by the command that the subcommand belongs to and by the subcommand
abbrev pub fault_after : (top : Shape) (found : Option Shape) (rest : List Text) → Kinds
fault_after top found rest = or_else (option_map_or (λ s. level_fault s [] nothing_held rest false []) found [])
    (or_else (settle_fault top.rules top.args_override_self nothing_held)
    (or_else (defaults_fault (settled top.rules nothing_held).rows top.rules)
    (check_fault top (finished top.rules nothing_held) (is_some (rows_found found rest)))))

abbrev pub fault_with : App → List Text → Kinds → Walk → Kinds
fault_with a words first w = or_else first (or_else (entered_fault a w.stopped)
    (or_else (settle_fault a.top.rules a.top.args_override_self w.held)
    (or_else (defaults_fault (settled a.top.rules w.held).rows a.top.rules)
    (check_fault a.top (finished a.top.rules w.held) (is_some (entered a w.stopped))))))

refused_as : (a : App) (word : Text) (rest : List Text) → Enters a word
    → fault_of a (word ∷ rest) ≡ fault_after (built a).top (found_in a word) rest
refused_as a word rest enters =
    ap (built_fault (built a) nothing_held) (words_of a (word ∷ rest) enters.bare)
    ∙ ap (fault_with (built a) (word ∷ rest)
    (walk_fault (built a).top (names_of (built a)) (walk_from nothing_held) (word ∷ rest))) (stops a word rest enters)
    ∙ ap (λ kinds. fault_with (built a) (word ∷ rest) kinds (stopped_at word rest)) (quiet a word rest enters)

-- ---- the two commands

enters_all : (name : CommandName) → Enters the_command (name_text name)
enters_all name = record { bare = refl; walks = first_of_all name; silent = silent_of_all name }

enters_one : (name : CommandName) → Enters (only name) (name_text name)
enters_one name = record { bare = refl; walks = first_of_one name; silent = silent_of_one name }

same_subcommand : (name : CommandName) (rest : List Text)
    → subcommand_of (only name) (name_text name ∷ rest) ≡ subcommand_of the_command (name_text name ∷ rest)
same_subcommand name rest = entered_as (only name) (name_text name) rest (enters_one name)
    ∙ ap (λ found. rows_found found rest) (sym (same_found name)) ∙ sym (entered_as the_command (name_text name) rest (enters_all name))

same_fault : (name : CommandName) (rest : List Text)
    → fault_of (only name) (name_text name ∷ rest) ≡ fault_of the_command (name_text name ∷ rest)
same_fault name rest = refused_as (only name) (name_text name) rest (enters_one name)
    ∙ ap (λ found. fault_after (built the_command).top found rest) (sym (same_found name))
    ∙ sym (refused_as the_command (name_text name) rest (enters_all name))

-- so the one reads such arguments as the other does
pub reads_as_all : (name : CommandName) (rest : List Text) → ReadsAsAll (name_text name ∷ rest) (only name)
reads_as_all name rest = record {
  simple = simple_one name;
  free = free_one name;
  same_fault = same_fault name rest;
  same_entered = same_subcommand name rest;
}

pub all_reads : (words : List Text) → ReadsAsAll words the_command
all_reads words = record { simple = refl; free = refl; same_fault = refl; same_entered = refl }

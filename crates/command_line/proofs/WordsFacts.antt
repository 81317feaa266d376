-- Building the command, and what it reads from arguments
use Rattle.std.proofs.Common.{rules, ◌≡◌, ℕ, ◌+◌, ◌<◌, Bool, true, false, ◌&&◌, not, List, [], ◌∷◌, ◌++◌, map, length}
use Rattle.std.proofs.Common.{get_or, drop, take, drop-cons, add-one, fold, Option, Some, None, option_map, unwrap_or, refl}
use Rattle.std.proofs.Common.{sym, ap, ◌∙◌, append_assoc, subst, inl, inr}
use Rattle.std.proofs.lemmas.List.Folds.{list_all_at, list_all_more}
use Rattle.std.specs.List.{list_all}
use Rattle.clap.specs.Words.{HasKind, IsAmong, Row, Text, fault_of, kind_of, subcommand_of}
use Rattle.clap.specs.declared.error.Error.{Error}
use Rattle.clap.specs.declared.error.kind.ErrorKind.TheVariants.{OutOfMemory}
use Rattle.command_line.specs.declared.command_name.CommandName.{CommandName}
use Rattle.command_line.specs.declared.command_name.CommandName.TheVariants as command
use Rattle.command_line.specs.declared.command_name.OptionName.TheVariants.{At}
use Rattle.command_line.specs.declared.command_name.TakenOption.{TakenOption}
use Rattle.command_line.specs.declared.words.WordsError.{WordsError}
use Rattle.command_line.specs.declared.words.WordsError.TheVariants.{Words, Usage, NoMemory, Flawed}
use Rattle.command_line.specs.declared.words.WordsPlace.{WordsPlace}
use Rattle.command_line.specs.Inside.WordsErrors.{KeepsKind}
use Rattle.command_line.specs.Checks.{RefusesWords}
use Rattle.command_line.specs.OptionRows.{options_of, taken_name}
use Rattle.command_line.specs.Words.{IsNoCall, is_given, is_settled_in, leaf, name_text, named}
use Rattle.command_line.specs.Words.{settled_at, the_command}

-- what is left is the next item and what is left after it
next_at : {X : Type 0} (xs : List X) (k : ℕ) (x : X) → k < length xs → x ≡ get_or xs k x → drop k xs ≡ x ∷ drop (k + 1) xs
next_at xs k x low is = drop-cons xs k x low ∙ (λ i. sym is i ∷ drop (sym (add-one k) i) xs)

-- one more item was put in: the step of the loops that build the command
pub fold_more : {X Y : Type 0} (f : Y → X → Y) (xs : List X) (k : ℕ) (x : X) → k < length xs → x ≡ get_or xs k x
    → (o n : Y) → n ≡ f o x → fold f n (drop (k + 1) xs) ≡ fold f o (drop k xs)
fold_more f xs k x low is o n e = ap (λ y. fold f y (drop (k + 1) xs)) e ∙ ap (fold f o) (sym (next_at xs k x low is))

-- one more option's text was looked up: the step of the loop in `texts_of`
pub texts_more : {X : Type 0} (g : X → Option Text) (xs : List X) (k : ℕ) (x : X) → k < length xs → x ≡ get_or xs k x
    → (o n : List (Option Text)) (t : Option Text) → n ≡ o ++ t ∷ [] → g x ≡ t
    → n ++ map g (drop (k + 1) xs) ≡ o ++ map g (drop k xs)
texts_more g xs k x low is o n t e found =
    ap (λ ts. ts ++ map g (drop (k + 1) xs)) e
    ∙ append_assoc o (t ∷ []) (map g (drop (k + 1) xs)) ∙ (λ i. o ++ (sym found i ∷ map g (drop (k + 1) xs)))
    ∙ ap (λ ys. o ++ map g ys) (sym (next_at xs k x low is))

-- what the code finds of an option is what the rows say of it
pub settled_as : (place : WordsPlace) (rows : List Row) (taken : TakenOption) (at stated : Bool) → is_given rows At ≡ at
    → is_given rows (taken_name taken) ≡ stated → settled_at place at stated taken ≡ is_settled_in place rows taken
settled_as place rows taken at stated e f = λ i. settled_at place (sym e i) (sym f i) taken

-- one more option is settled: the step of the loop in `are_settled`
pub settled_more : {X : Type 0} (p : X → Bool) (xs : List X) (k : ℕ) (x : X) → k < length xs → x ≡ get_or xs k x
    → list_all p (take k xs) ≡ true → p x ≡ true → list_all p (take (k + 1) xs) ≡ true
settled_more p xs k x low is before now = list_all_more p xs k x low ∙ (λ i. before i && p (sym is i)) ∙ now

-- one option is not settled: the loop in `are_settled` ends there
pub one_unsettled : {X : Type 0} (p : X → Bool) (xs : List X) (k : ℕ) (x : X) → k < length xs → x ≡ get_or xs k x
    → p x ≡ false → list_all p xs ≡ false
one_unsettled p xs k x low is fails = list_all_at p xs k x low (ap p (sym is) ∙ fails)

-- a plain command has no global argument
pub no_globals : (a b g r : Bool) → (a && (b && (not g && r))) ≡ true → g ≡ false
no_globals a b g r e = search rules

-- each subcommand is a plain one, so it has no global argument
pub plain_leaf : (n : CommandName) → (leaf n).top.is_plain ≡ true
plain_leaf command.Canon = refl
plain_leaf command.Config = refl
plain_leaf command.New = refl
plain_leaf command.Report = refl
plain_leaf command.List = refl
plain_leaf command.Diff = refl
plain_leaf command.Graph = refl
plain_leaf command.Status = refl
plain_leaf command.Bundle = refl
plain_leaf command.Explain = refl
plain_leaf command.Observe = refl
plain_leaf command.Merge = refl
plain_leaf command.Migrate = refl
plain_leaf command.Reseed = refl
plain_leaf command.Polls = refl
plain_leaf command.Distrust = refl
plain_leaf command.Serve = refl
plain_leaf command.Pull = refl
plain_leaf command.Replica = refl
plain_leaf command.Stop = refl

-- two things that are read of one match, as a pair
abbrev pub both : {B : Type 0} → (B → Text) → (B → List Row) → B → Text × List Row
both name rows b = (name b, rows b)

-- two things that were read of one match are the pair that the definition names
pub joined_parts : {B : Type 0} (name : B → Text) (rows : B → List Row) (o : Option B) (w : Text) (rs : List Row) → Some w ≡ option_map name o
    → Some rs ≡ option_map (λ (p : Text × List Row). p.1) (option_map (both name rows) o) → option_map (both name rows) o ≡ Some (w, rs)
joined_parts name rows None w rs e f = absurd (cc)
joined_parts name rows (Some b) w rs e f = (let p = sym (ap (λ o. unwrap_or o w) e) in let q = sym (ap (λ o. unwrap_or o rs) f) in (λ i. Some (p i, q i)))

-- nothing that was read of no match is there
pub no_parts : {B : Type 0} (name : B → Text) (rows : B → List Row) (o : Option B) → None ≡ option_map name o
    → option_map (both name rows) o ≡ None
no_parts name rows None e = refl
no_parts name rows (Some b) e = absurd (cc)

-- the text of each subcommand names it
pub named_text : (name : CommandName) → named (name_text name) ≡ Some name
named_text command.Canon = refl
named_text command.Config = refl
named_text command.New = refl
named_text command.Report = refl
named_text command.List = refl
named_text command.Diff = refl
named_text command.Graph = refl
named_text command.Status = refl
named_text command.Bundle = refl
named_text command.Explain = refl
named_text command.Observe = refl
named_text command.Merge = refl
named_text command.Migrate = refl
named_text command.Reseed = refl
named_text command.Polls = refl
named_text command.Distrust = refl
named_text command.Serve = refl
named_text command.Pull = refl
named_text command.Replica = refl
named_text command.Stop = refl

-- two subcommands have two texts
pub one_name : (m n : CommandName) → name_text m ≡ name_text n → m ≡ n
one_name m n e = ap (λ o. unwrap_or o m) (sym (named_text m) ∙ ap named e ∙ named_text n)

-- clap's error, with its kind, is what arguments are refused for, unless memory ran out
pub refused_words : (place : WordsPlace) (words : List Text) (error : Error) (why : WordsError) → HasKind (fault_of the_command words) error
    → KeepsKind error why → (kind_of error ≡ OutOfMemory → why ≡ NoMemory) → RefusesWords place words why
refused_words place words error (Words refused) (inl memory) kind lacks = (let clash = lacks memory in absurd (cc))
refused_words place words error (Words refused) (inr among) kind lacks = subst (λ k. IsAmong k (fault_of the_command words)) (sym kind) among
refused_words place words error Usage has kind lacks = absurd kind
refused_words place words error (Flawed call flaw) has kind lacks = absurd kind
refused_words place words error NoMemory has kind lacks = search rules

-- no subcommand is named that has all that it needs, so the arguments are not a call
pub no_call : (place : WordsPlace) (words : List Text) → fault_of the_command words ≡ []
    → ((name : CommandName) (rows : List Row) → subcommand_of the_command words ≡ Some (name_text name, rows)
    → list_all (is_settled_in place rows) (options_of name) ≡ true → ⊥) → IsNoCall place words
no_call place words taken none = record { taken = taken; none = λ name texts call. none name call.rows call.entered call.settled }

pub no_subcommand : (place : WordsPlace) (words : List Text) → fault_of the_command words ≡ [] → subcommand_of the_command words ≡ None
    → IsNoCall place words
no_subcommand place words taken none = no_call place words taken (λ name rows entered settled. let clash = sym none ∙ entered in cc)

-- both are what was read of the same arguments
same_word : (o : Option (Text × List Row)) (v w : Text) (r s : List Row) → o ≡ Some (v, r) → o ≡ Some (w, s) → v ≡ w
same_word o v w r s e f = ap (λ p. let q : Text × List Row = unwrap_or p (v, r) in q.0) (sym e ∙ f)

same_rows : (o : Option (Text × List Row)) (v w : Text) (r s : List Row) → o ≡ Some (v, r) → o ≡ Some (w, s) → r ≡ s
same_rows o v w r s e f = ap (λ p. let q : Text × List Row = unwrap_or p (v, r) in q.1) (sym e ∙ f)

pub unknown_subcommand : (place : WordsPlace) (words : List Text) (word : Text) (rows : List Row) → fault_of the_command words ≡ []
    → subcommand_of the_command words ≡ Some (word, rows) → named word ≡ None → IsNoCall place words
unknown_subcommand place words word rows taken is unnamed = no_call place words taken (λ name others entered settled.
    let clash = sym unnamed ∙ ap named (same_word _ word (name_text name) rows others is entered) ∙ named_text name in cc)

pub unsettled_call : (place : WordsPlace) (words : List Text) (name : CommandName) (rows : List Row) → fault_of the_command words ≡ []
    → subcommand_of the_command words ≡ Some (name_text name, rows) → list_all (is_settled_in place rows) (options_of name) ≡ false
    → IsNoCall place words
unsettled_call place words name rows taken is fails = no_call place words taken (λ other others entered settled.
    let same = one_name name other (same_word _ (name_text name) (name_text other) rows others is entered) in
    let equal = same_rows _ (name_text name) (name_text other) rows others is entered in
    let clash = sym fails ∙ (λ i. list_all (is_settled_in place (equal i)) (options_of (same i))) ∙ settled in cc)

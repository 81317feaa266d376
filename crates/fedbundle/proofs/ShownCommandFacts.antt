-- What each command does that shows what is held, by what its functions answer
use Rattle.std.proofs.Common.{◌≡◌, ℕ, List, [], length, Option, Some, None, Result, inr, refl, ap, ◌∙◌, subst}
use Rattle.std.proofs.Common.{sym}
use Rattle.std.specs.Global.{Vec}
use Rattle.fed_config.specs.Configuration.{Configuration}
use Rattle.migration.specs.declared.carrying.Choice.{Choice}
use Rattle.receipt_core.specs.Acceptance.{Meaning}
use Rattle.reseeding.specs.Reseeding.{Reseeds}
use Rattle.reseeding.specs.declared.new_start.NewConfig.{NewConfig}
use Rattle.reseeding.specs.declared.new_start.Reseeded.{Reseeded}
use Rattle.reseeding.specs.declared.new_start.Reseeded.TheVariants.{Refusals, Seeded}
use Rattle.command_line.specs.declared.option_texts.OutputForm.{OutputForm}
use Rattle.command_line.specs.declared.command_name.CommandName.{CommandName}
use Rattle.command_line.specs.declared.command_name.CommandName.TheVariants as command
use Rattle.fedbundle.specs.CommandRun.{CommandRun}
use Rattle.command_exits.specs.DeviceRuns.{DeviceRun}
use Rattle.fedbundle.specs.Migrate.{move_to}
use Rattle.fedbundle.specs.Shown.{IsUntouched, ShownCall, ShowsBy}
use Rattle.fedbundle.specs.ShownCommands.{ComparesConfigsIn, MovesTo, MovesToRead, PrintsBoth}
use Rattle.fedbundle.specs.ShownCommands.{ReseedChoice, ReseedsInto, TwoTexts, reseed_texts, stay_line}
use Rattle.fedbundle.specs.ShownCommands.{ShowsConfig, ShowsConfigIn, ShowsMove, ShowsNamed, config_call}
use Rattle.command_exits.specs.declared.exits.Exit.{Exit}

-- what the command of this name does is what the call does
pub named_as : (name other : CommandName) (call : ShownCall) (run : CommandRun) (line_errors : DeviceRun) (result : Result ℕ Exit) → name ≡ other
    → ShowsNamed other call run line_errors result → ShowsNamed name call run line_errors result
named_as name other call run line_errors result is shows = subst (λ n. ShowsNamed n call run line_errors result) (sym is) shows

-- a name of none of these is that of a command that writes on one sink
pub other_named : (name : CommandName) (call : ShownCall) (run : CommandRun) (line_errors : DeviceRun) (result : Result ℕ Exit)
    → (name ≡ command.Config → ⊥) → (name ≡ command.Diff → ⊥) → (name ≡ command.Migrate → ⊥) → (name ≡ command.Reseed → ⊥)
    → ShowsBy name call run result → IsUntouched line_errors → ShowsNamed name call run line_errors result
other_named command.Config call run line_errors result config diff migrate reseed shows silent = absurd (config refl)
other_named command.Diff call run line_errors result config diff migrate reseed shows silent = absurd (diff refl)
other_named command.Migrate call run line_errors result config diff migrate reseed shows silent = absurd (migrate refl)
other_named command.Reseed call run line_errors result config diff migrate reseed shows silent = absurd (reseed refl)
other_named name call run line_errors result config diff migrate reseed shows silent = (shows, silent)

-- the configuration that was lent is the one that is held
pub config_shown : (name : CommandName) (texts : List (Option (List ℕ))) (lent held : Configuration) (run : CommandRun) (result : Result ℕ Exit)
    → lent ≡ held → ShowsConfig (config_call name texts lent) run result → ShowsConfig (config_call name texts held) run result
config_shown name texts lent held run result is shows = subst (λ c. ShowsConfig (config_call name texts c) run result) is shows

-- what is shown of a configuration, by the option that names another one
pub config_there : (path : List ℕ) (said : Option (List ℕ)) (form : OutputForm) (c : Configuration) (run : CommandRun) (result : Result ℕ Exit)
    → Some path ≡ said → ComparesConfigsIn form c run result → ShowsConfigIn said form c run result
config_there path said form c run result is compares = subst (λ text. ShowsConfigIn text form c run result) is compares

-- what goes along, by the option that names another configuration
pub moves_there : (path : List ℕ) (said : Option (List ℕ)) (choice : Choice) (m : Meaning) (run : CommandRun) (line_errors : DeviceRun)
    (result : Result ℕ Exit) → Some path ≡ said → MovesToRead choice m run line_errors result → MovesTo said choice m run line_errors result
moves_there path said choice m run line_errors result is moves = subst (λ text. MovesTo text choice m run line_errors result) is moves

pub moves_here : (said : Option (List ℕ)) (choice : Choice) (lent : Configuration) (m : Meaning) (run : CommandRun) (line_errors : DeviceRun)
    (result : Result ℕ Exit) → None ≡ said → lent ≡ m.config → ShowsMove (move_to choice lent m) run.sink line_errors result
    → IsUntouched run.source → MovesTo said choice m run line_errors result
moves_here said choice lent m run line_errors result is same moves unread =
    subst (λ text. MovesTo text choice m run line_errors result) is (subst (λ c. ShowsMove (move_to choice c m) run.sink line_errors result) same moves, unread)

-- the result of a new start was printed
pub reseeded_as : (m : Meaning) (choice : ReseedChoice) (sink line_errors : DeviceRun) (found outcome : Reseeded) (result : Result ℕ Exit)
    → found ≡ outcome → Reseeds m choice.allowed choice.floors found
    → PrintsBoth (reseed_texts choice.floors (length m.held) outcome) sink line_errors result → ReseedsInto m choice sink line_errors result
reseeded_as m choice sink line_errors found outcome result is reseeds prints =
    inr (record { outcome = outcome; reseeds = subst (Reseeds m choice.allowed choice.floors) is reseeds; prints = prints })

abbrev two_texts : (output with_it : List ℕ) (status : ℕ) → TwoTexts
two_texts output with_it status = record { output = output; with_it = with_it; status = status }

-- the new configuration was printed, and what is said with it
pub seeded_as : (m : Meaning) (choice : ReseedChoice) (sink line_errors : DeviceRun) (found : Reseeded) (new : NewConfig)
    (output with_it line : List ℕ) (held : ℕ) (result : Result ℕ Exit) → found ≡ Seeded new → Reseeds m choice.allowed choice.floors found
    → output ≡ new.text.items → with_it ≡ line → line ≡ stay_line choice.floors new.staying held → held ≡ length m.held
    → PrintsBoth (record { output = output; with_it = with_it; status = 0 }) sink line_errors result → ReseedsInto m choice sink line_errors result
seeded_as m choice sink line_errors found new output with_it line held result is reseeds text said lines all prints =
    let says : with_it ≡ stay_line choice.floors new.staying (length m.held) = said ∙ lines ∙ ap (stay_line choice.floors new.staying) all in
    let texts : two_texts output with_it 0 ≡ two_texts new.text.items (stay_line choice.floors new.staying (length m.held)) 0 =
    λ i. two_texts (text i) (says i) 0 in
    reseeded_as m choice sink line_errors found (Seeded new) result is reseeds
    (subst (λ (t : TwoTexts). PrintsBoth t sink line_errors result) texts prints)

-- the lines of refused domains were printed
pub refused_as : (m : Meaning) (choice : ReseedChoice) (sink line_errors : DeviceRun) (found : Reseeded) (lines : Vec ℕ) (with_it : List ℕ)
    (result : Result ℕ Exit) → found ≡ Refusals lines → Reseeds m choice.allowed choice.floors found → with_it ≡ lines.items
    → PrintsBoth (record { output = []; with_it = with_it; status = 1 }) sink line_errors result → ReseedsInto m choice sink line_errors result
refused_as m choice sink line_errors found lines with_it result is reseeds said prints =
    let texts : two_texts [] with_it 1 ≡ two_texts [] lines.items 1 = λ i. two_texts [] (said i) 1 in
    reseeded_as m choice sink line_errors found (Refusals lines) result is reseeds
    (subst (λ (t : TwoTexts). PrintsBoth t sink line_errors result) texts prints)

-- What each command does that shows what is held, or the configuration, with a sink for what it
-- complains of: `config`, `diff`, `migrate` and `reseed` here, and the others by `Shown`.
use Rattle.std.specs.Prelude.{◌≡◌, ◌≢◌, ◌↔◌, ◌⊎◌, ℕ, ◌++◌, List, [], length, codes, decimal, Bool}
use Rattle.std.specs.Prelude.{true, false, Option, Some, None}
use Rattle.std.specs.Prelude.{Result, Ok, Err, IfOk, IsTrue, if◌then◌else◌}
use Rattle.config_view.specs.ConfigJson.{IsConfigJson}
use Rattle.config_view.specs.ConfigText.{IsConfigDifference, IsConfigText}
use Rattle.fed_config.specs.Configuration.{Configuration, config_id_of}
use Rattle.migration.specs.declared.carrying.Choice.{Choice}
use Rattle.migration.specs.declared.carrying.Choice.TheVariants.{All, RecordsOnly as OnlyRecords}
use Rattle.receipt_core.specs.Acceptance.{Meaning}
use Rattle.replica_core.specs.declared.error.SyncError.{SyncError}
use Rattle.replica_core.specs.declared.error.SyncError.TheVariants.{Io as StreamFailed}
use Rattle.replica_texts.specs.Snapshots.{IsSnapshot, RefusesSnapshot}
use Rattle.replica_view.specs.HeldTexts.{HoldSame, IsHeldDifference}
use Rattle.reseeding.specs.Reseeding.{Reseeds}
use Rattle.reseeding.specs.declared.new_floors.FloorChoice.{FloorChoice}
use Rattle.reseeding.specs.declared.new_floors.FloorChoice.TheVariants.{Kept, Raised}
use Rattle.reseeding.specs.declared.new_start.Reseeded.{Reseeded}
use Rattle.reseeding.specs.declared.new_start.Reseeded.TheVariants.{Refusals, Seeded}
use Rattle.command_line.specs.OptionTexts.{SaysFlag, SaysNoOutputForm, SaysOutputForm, option_said}
use Rattle.command_line.specs.declared.command_name.CommandName.{CommandName}
use Rattle.command_line.specs.declared.command_name.CommandName.TheVariants as command
use Rattle.command_line.specs.declared.command_name.OptionName.{OptionName}
use Rattle.command_line.specs.declared.command_name.OptionName.TheVariants.{Allow, Format, To, With}
use Rattle.command_line.specs.declared.command_name.OptionName.TheVariants.{Floors, RecordsOnly}
use Rattle.command_line.specs.declared.option_texts.OutputForm.{OutputForm}
use Rattle.command_line.specs.declared.option_texts.OutputForm.TheVariants as output
use Rattle.fedbundle.specs.CommandRun.{CommandRun, CutsOff, IsReadOut}
use Rattle.command_exits.specs.DeviceRuns.{DeviceRun, HasFailed}
use Rattle.fedbundle.specs.CommandRun.{IsAsSound, PrintsText}
use Rattle.fedbundle.specs.Migrate.{Move, RunsMigrate, move_to}
use Rattle.fedbundle.specs.SaidValues.{EndsWithout, SaysChosen, SaysNoName}
use Rattle.fedbundle.specs.Shown.{IsUntouched, RefusesUnread, RefusesUnwritten, RunsWriter}
use Rattle.fedbundle.specs.Shown.{ShownCall, ShowsBy, exit_if_done, shown_said}
use Rattle.command_exits.specs.ConfigSource.{ReadsConfig}
use Rattle.command_exits.specs.declared.error.CommandError.{CommandError}
use Rattle.command_exits.specs.declared.error.CommandError.TheVariants.{Io, NoMemory, Sync}
use Rattle.command_exits.specs.declared.exits.Exit.{Exit}
use Rattle.command_exits.specs.declared.exits.Exit.TheVariants.{Refused, Usage}

-- ---- a configuration, out of a source

-- There is no configuration, and nothing was written.
pub record EndsAtConfig (run : CommandRun) (result : Result ℕ Exit) : Type 0 where
  pub why : CommandError
  pub reads : ReadsConfig run.source (Err why)
  pub is : result ≡ Err (Refused why)
  pub unwritten : IsUntouched run.sink

-- ---- comparing

-- If two are the same the exit status is 0, and else 1.
abbrev pub exit_if_same : Result Bool CommandError → Result ℕ Exit
exit_if_same (Ok same) = Ok (if same then 0 else 1)
exit_if_same (Err e) = Err (Refused e)

-- Such a text was written, and the exit status says whether the two are the same.
pub record Compares (Is : List ℕ → Type 0) (Same : Type 0) (sink : DeviceRun)
    (result : Result ℕ Exit) : Type 0 where
  pub answer : Result Bool CommandError
  pub runs : RunsWriter Is sink answer
  pub same : IfOk answer (λ is_same. IsTrue is_same ↔ Same)
  pub is : result ≡ exit_if_same answer

-- ---- `config`

abbrev pub IsConfigIn : OutputForm → Configuration → List ℕ → Type 0
IsConfigIn output.Text c text = IsConfigText c text
IsConfigIn output.Json c text = IsConfigJson c text

-- what the configuration says, in this form
pub record ShowsOneConfig (form : OutputForm) (c : Configuration) (sink : DeviceRun)
    (result : Result ℕ Exit) : Type 0 where
  pub answer : Result (Unit {0}) CommandError
  pub runs : RunsWriter (IsConfigIn form c) sink answer
  pub is : result ≡ exit_if_done answer

-- how it differs from the one that was read
pub record ComparesRead (c : Configuration) (run : CommandRun)
    (result : Result ℕ Exit) : Type 0 where
  pub other : Configuration
  pub reads : ReadsConfig run.source (Ok other)
  pub compares : Compares (IsConfigDifference c other) (config_id_of c ≡ config_id_of other)
      run.sink result

abbrev pub ComparesConfigs : Configuration → CommandRun → Result ℕ Exit → Type 0
ComparesConfigs c run result = EndsAtConfig run result ⊎ ComparesRead c run result

-- There is no JSON of two configurations.
abbrev pub ComparesConfigsIn : OutputForm → Configuration → CommandRun → Result ℕ Exit → Type 0
ComparesConfigsIn output.Text c run result = ComparesConfigs c run result
ComparesConfigsIn output.Json c run result = RefusesUnread (λ exit. exit ≡ Usage) run result

-- by the option `--with`
abbrev pub ShowsConfigIn : (with : Option (List ℕ)) → OutputForm → Configuration → CommandRun
    → Result ℕ Exit → Type 0
ShowsConfigIn None form c run result = ShowsOneConfig form c run.sink result
    × IsUntouched run.source
ShowsConfigIn (Some path) form c run result = ComparesConfigsIn form c run result

-- the arguments of a call, and the configuration
pub record ConfigCall : Type 0 where
  pub name : CommandName
  pub texts : List (Option (List ℕ))
  pub config : Configuration

abbrev pub config_call : CommandName → List (Option (List ℕ)) → Configuration → ConfigCall
config_call name texts config = record { name = name; texts = texts; config = config }

abbrev pub config_said : ConfigCall → OptionName → Option (List ℕ)
config_said call option = option_said call.name call.texts option

-- in the form that the arguments say
pub record ShowsConfigSaid (call : ConfigCall) (run : CommandRun)
    (result : Result ℕ Exit) : Type 0 where
  pub form : OutputForm
  pub is_form : SaysOutputForm (config_said call Format) form
  pub shows : ShowsConfigIn (config_said call With) form call.config run result

-- They say no form.
abbrev pub EndsAtForm : ConfigCall → Exit → Type 0
EndsAtForm call exit = (exit ≡ Usage) × SaysNoOutputForm (config_said call Format)

abbrev pub ShowsConfig : ConfigCall → CommandRun → Result ℕ Exit → Type 0
ShowsConfig call run result = RefusesUnread (EndsAtForm call) run result
    ⊎ ShowsConfigSaid call run result

-- ---- `diff`

-- what only one of two holds
abbrev pub ComparesSides : (one other : Meaning) → DeviceRun → Result ℕ Exit → Type 0
ComparesSides one other sink result =
    Compares (IsHeldDifference one other) (HoldSame one other) sink result

-- The source has no snapshot of the configuration, and nothing was written.
pub record EndsAtSnapshot (m : Meaning) (run : CommandRun)
    (result : Result ℕ Exit) : Type 0 where
  pub why : SyncError
  pub cause : RefusesSnapshot m.config run.source.before why
  pub fault : why ≡ StreamFailed → HasFailed run.source
  pub is : result ≡ Err (Refused (Sync why))
  pub unwritten : IsUntouched run.sink

-- The other side is what the snapshot holds that was read.
pub record ComparesSnapshot (m : Meaning) (run : CommandRun)
    (result : Result ℕ Exit) : Type 0 where
  pub other : Meaning
  pub snapshot : IsSnapshot m.config run.source.before other
  pub read : IsReadOut run.source
  pub compares : ComparesSides m other run.sink result

abbrev pub ComparesHeld : Meaning → CommandRun → Result ℕ Exit → Type 0
ComparesHeld m run result = EndsAtSnapshot m run result ⊎ ComparesSnapshot m run result

-- The arguments may leave the other side out.
abbrev pub ShowsDifference : ShownCall → CommandRun → Result ℕ Exit → Type 0
ShowsDifference call run result = RefusesUnread (EndsWithout With call.name call.texts) run result
    ⊎ ComparesHeld call.meaning run result

-- ---- `migrate`

-- by the flag for records
abbrev pub SaysChoice : Option (List ℕ) → Choice → Type 0
SaysChoice text OnlyRecords = SaysFlag text true
SaysChoice text All = SaysFlag text false

-- If nothing was left out the exit status is 0, and else 1.
abbrev pub EndsMove : Result ℕ CommandError → Result ℕ Exit → Type 0
EndsMove (Ok n) result = ((n ≡ 0) × (result ≡ Ok 0)) ⊎ ((n ≢ 0) × (result ≡ Ok 1))
EndsMove (Err e) result = result ≡ Err (Refused e)

-- what goes along, and lines of what does not
pub record ShowsMove (move : Move) (sink line_errors : DeviceRun)
    (result : Result ℕ Exit) : Type 0 where
  pub answer : Result ℕ CommandError
  pub runs : RunsMigrate move sink line_errors answer
  pub is : EndsMove answer result

-- to the configuration that was read
pub record MovesToOther (choice : Choice) (m : Meaning) (run : CommandRun) (line_errors : DeviceRun)
    (result : Result ℕ Exit) : Type 0 where
  pub to : Configuration
  pub reads : ReadsConfig run.source (Ok to)
  pub moves : ShowsMove (move_to choice to m) run.sink line_errors result

abbrev pub MovesToRead : Choice → Meaning → CommandRun → DeviceRun → Result ℕ Exit → Type 0
MovesToRead choice m run line_errors result =
    (EndsAtConfig run result × IsUntouched line_errors) ⊎ MovesToOther choice m run line_errors
    result

-- Without `--to` it remains under its configuration.
abbrev pub MovesTo : Option (List ℕ) → Choice → Meaning → CommandRun → DeviceRun
    → Result ℕ Exit → Type 0
MovesTo None choice m run line_errors result =
    ShowsMove (move_to choice m.config m) run.sink line_errors result × IsUntouched run.source
MovesTo (Some path) choice m run line_errors result =
    MovesToRead choice m run line_errors result

pub record ShowsMigration (call : ShownCall) (run : CommandRun) (line_errors : DeviceRun)
    (result : Result ℕ Exit) : Type 0 where
  pub choice : Choice
  pub is_choice : SaysChoice (shown_said call RecordsOnly) choice
  pub moves : MovesTo (shown_said call To) choice call.meaning run line_errors result

-- ---- `reseed`

abbrev pub allowed_said : CommandName → List (Option (List ℕ)) → Option (List ℕ)
allowed_said name texts = option_said name texts Allow

-- The domain that the arguments allow is not a name.
abbrev pub EndsAtAllowed : CommandName → List (Option (List ℕ)) → Exit → Type 0
EndsAtAllowed name texts exit = SaysNoName (allowed_said name texts) exit

-- by the flag for floors
abbrev pub SaysFloorChoice : Option (List ℕ) → FloorChoice → Type 0
SaysFloorChoice text Raised = SaysFlag text true
SaysFloorChoice text Kept = SaysFlag text false

-- what the arguments say of a new start: the domain that they allow, if any, and the floors
pub record ReseedChoice : Type 0 where
  pub allowed : Option (List ℕ)
  pub floors : FloorChoice

-- how many of the receipts that are held fit the new configuration: said if floors are raised
abbrev pub stay_line : FloorChoice → (staying held : ℕ) → List ℕ
stay_line Kept staying held = []
stay_line Raised staying held = (codes "receipts that stay: " ++ decimal staying)
    ++ ((codes " of " ++ decimal held) ++ codes "\n")

-- what is written on each of two devices, and the exit status
pub record TwoTexts : Type 0 where
  pub output : List ℕ
  pub with_it : List ℕ
  pub status : ℕ

-- The new configuration, and next to it how many of the receipts fit it; or nothing, and next to
-- it the lines of the refused domains.
abbrev pub reseed_texts : FloorChoice → (held : ℕ) → Reseeded → TwoTexts
reseed_texts floors held (Seeded new) = record {
  output = new.text.items;
  with_it = stay_line floors new.staying held;
  status = 0;
}
reseed_texts floors held (Refusals lines) = record {
  output = [];
  with_it = lines.items;
  status = 1;
}

-- By the answer: all of the text was written, and this is the exit status; the device failed after
-- a beginning of it. There is no other end.
abbrev pub PrintsWhole : (text : List ℕ) (status : ℕ) → DeviceRun → Result ℕ Exit → Type 0
PrintsWhole text status device (Ok ended) = (ended ≡ status) × PrintsText device text
    × IsAsSound device
PrintsWhole text status device (Err (Refused Io)) = CutsOff device text
PrintsWhole text status device (Err _) = ⊥

-- By the answer: all of both texts was written, and this is the exit status; the first device
-- failed, and the second was left; or the first text was written, and the second device failed.
-- There is no other end.
abbrev pub PrintsBoth : TwoTexts → (sink line_errors : DeviceRun) → Result ℕ Exit → Type 0
PrintsBoth texts sink line_errors (Ok ended) = PrintsWhole texts.output 0 sink (Ok 0)
    × PrintsWhole texts.with_it texts.status line_errors (Ok ended)
PrintsBoth texts sink line_errors (Err (Refused Io)) =
    (CutsOff sink texts.output × IsUntouched line_errors)
    ⊎ (PrintsWhole texts.output 0 sink (Ok 0) × CutsOff line_errors texts.with_it)
PrintsBoth texts sink line_errors (Err _) = ⊥

-- The result of a new start was printed.
pub record PrintsReseed (m : Meaning) (choice : ReseedChoice) (sink line_errors : DeviceRun)
    (result : Result ℕ Exit) : Type 0 where
  pub outcome : Reseeded
  pub reseeds : Reseeds m choice.allowed choice.floors outcome
  pub prints : PrintsBoth (reseed_texts choice.floors (length m.held) outcome) sink line_errors
      result

-- Memory ran out before anything was written.
pub record LacksReseed (sink line_errors : DeviceRun) (result : Result ℕ Exit) : Type 0 where
  pub is : result ≡ Err (Refused NoMemory)
  pub unwritten : IsUntouched sink
  pub silent : IsUntouched line_errors

abbrev pub ReseedsInto : Meaning → ReseedChoice → (sink line_errors : DeviceRun)
    → Result ℕ Exit → Type 0
ReseedsInto m choice sink line_errors result = LacksReseed sink line_errors result
    ⊎ PrintsReseed m choice sink line_errors result

-- with the floors that the arguments say
pub record ReseedsFloored (call : ShownCall) (allowed : Option (List ℕ))
    (sink line_errors : DeviceRun) (result : Result ℕ Exit) : Type 0 where
  pub floors : FloorChoice
  pub is_floors : SaysFloorChoice (shown_said call Floors) floors
  pub reseeds : ReseedsInto call.meaning (record { allowed = allowed; floors = floors }) sink
      line_errors result

-- in spite of what is against the domain that the arguments allow, if they allow one
pub record ReseedsSaid (call : ShownCall) (sink line_errors : DeviceRun)
    (result : Result ℕ Exit) : Type 0 where
  pub allowed : Option (List ℕ)
  pub is_allowed : SaysChosen (allowed_said call.name call.texts) allowed
  pub reseeds : ReseedsFloored call allowed sink line_errors result

abbrev pub ShowsReseed : ShownCall → (sink line_errors : DeviceRun) → Result ℕ Exit → Type 0
ShowsReseed call sink line_errors result =
    (RefusesUnwritten (EndsAtAllowed call.name call.texts) sink result × IsUntouched line_errors)
    ⊎ ReseedsSaid call sink line_errors result

-- ---- each command

-- Only `migrate` and `reseed` write on `line_errors`.
abbrev pub ShowsNamed : CommandName → ShownCall → CommandRun → DeviceRun → Result ℕ Exit → Type 0
ShowsNamed command.Config call run line_errors result =
    ShowsConfig (config_call call.name call.texts call.meaning.config) run result
    × IsUntouched line_errors
ShowsNamed command.Diff call run line_errors result =
    ShowsDifference call run result × IsUntouched line_errors
ShowsNamed command.Migrate call run line_errors result =
    ShowsMigration call run line_errors result
ShowsNamed command.Reseed call run line_errors result =
    ShowsReseed call run.sink line_errors result × IsUntouched run.source
ShowsNamed name call run line_errors result = ShowsBy name call run result
    × IsUntouched line_errors

-- What a command does that shows what is held.
abbrev pub RunsShown : ShownCall → CommandRun → DeviceRun → Result ℕ Exit → Type 0
RunsShown call run line_errors result = ShowsNamed call.name call run line_errors result

-- What a run of `migrate` does. `line_errors` is the sink of the lines of what is left out.
use Rattle.std.specs.Prelude.{ℕ, ◌⊎◌, Result, Ok, Err, IsErrOf}
use Rattle.fed_config.specs.Configuration.{Configuration}
use Rattle.receipt_core.specs.Acceptance.{Meaning}
use Rattle.migration.specs.Carry.{CarryRun, carry_run, CarriesOver, StopsCarrying, config_for}
use Rattle.migration.specs.declared.carrying.Choice.{Choice}
use Rattle.replica_texts.specs.WrittenSnapshot.{written_snapshot}
use Rattle.fedbundle.specs.CommandRun.{PrintsText, BeginsText, WritesNothing}
use Rattle.command_exits.specs.DeviceRuns.{DeviceRun}
use Rattle.fedbundle.specs.CommandRun.{IsAsSound}
use Rattle.command_exits.specs.DeviceRuns.{HasFailed}
use Rattle.command_exits.specs.declared.error.CommandError.{CommandError}
use Rattle.command_exits.specs.declared.error.CommandError.TheVariants.{NoMemory, Io}

-- what is to go along, to which configuration, of what is held
pub record Move : Type 0 where
  pub choice : Choice
  pub config : Configuration
  pub old : Meaning

abbrev pub move_to : Choice → Configuration → Meaning → Move
move_to choice config old = record { choice = choice; config = config; old = old }

-- the same, to that configuration with the limits of what is held, and with what the sink
-- `line_errors` holds before and after
abbrev pub carry_of : Move → DeviceRun → CarryRun
carry_of move line_errors = carry_run move.choice (config_for move.old move.config) move.old
    line_errors.before line_errors.after

-- What goes along was carried over, n of the others were reported, and the snapshot of the former
-- was written and nothing else.
pub record PrintsMigration (move : Move) (sink line_errors : DeviceRun) (n : ℕ) : Type 0 where
  pub carried : Meaning
  pub over : CarriesOver (carry_of move line_errors) carried n
  pub written : PrintsText sink (written_snapshot carried)

-- That was carried over, and a beginning of its snapshot was written.
pub record CutsMigration (move : Move) (sink line_errors : DeviceRun) : Type 0 where
  pub count : ℕ
  pub carried : Meaning
  pub over : CarriesOver (carry_of move line_errors) carried count
  pub begun : BeginsText sink (written_snapshot carried)

-- A beginning of what there is to report was reported, and no snapshot was written.
pub record StopsMigration (move : Move) (sink line_errors : DeviceRun) : Type 0 where
  pub stops : StopsCarrying (carry_of move line_errors)
  pub unwritten : WritesNothing sink

-- By the answer: the snapshot was written and n lines reported; a sink failed; memory ran out.
-- There is no other error: what goes along is never too much.
abbrev pub AnswersMigrate : Move → DeviceRun → DeviceRun → Result ℕ CommandError → Type 0
AnswersMigrate move sink line_errors (Ok n) = PrintsMigration move sink line_errors n
AnswersMigrate move sink line_errors (Err Io) =
    (HasFailed line_errors × StopsMigration move sink line_errors)
    ⊎ (HasFailed sink × CutsMigration move sink line_errors)
AnswersMigrate move sink line_errors (Err NoMemory) = StopsMigration move sink line_errors
    ⊎ CutsMigration move sink line_errors
AnswersMigrate move sink line_errors (Err _) = ⊥

-- That, and no error of a device is passed over, or reported as another error.
pub record RunsMigrate (move : Move) (sink line_errors : DeviceRun)
    (result : Result ℕ CommandError) : Type 0 where
  pub answer : AnswersMigrate move sink line_errors result
  pub sound : (IsErrOf result Io → ⊥) → IsAsSound sink × IsAsSound line_errors

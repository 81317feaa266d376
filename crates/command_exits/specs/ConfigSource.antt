-- A configuration, out of the bytes of a source.
use Rattle.std.specs.Prelude.{◌≡◌, ℕ, List, Result, Ok, Err}
use Rattle.byte_lines.specs.Device.{TakesUpTo}
use Rattle.fed_config.specs.Configuration.{Configuration}
use Rattle.fed_config.specs.Reading.{IsConfig, RefusesConfigBytes}
use Rattle.command_exits.specs.DeviceRuns.{DeviceRun, HasFailed}
use Rattle.command_exits.specs.declared.error.CommandError.{CommandError}
use Rattle.command_exits.specs.declared.error.CommandError.TheVariants.{Config, Io, NoMemory}

-- The source was read to its end, and of its bytes this is so.
pub record ReadsAll (Is : List ℕ → Type 0) (source : DeviceRun) : Type 0 where
  pub bytes : List ℕ
  pub read : TakesUpTo source.before source.after 18446744073709551615 bytes
  pub is : Is bytes

-- By the answer: the bytes are this configuration; they are not a configuration, for this cause;
-- the source failed; memory ran out for the bytes. There is no other error.
abbrev pub ReadsConfig : DeviceRun → Result Configuration CommandError → Type 0
ReadsConfig source (Ok c) = ReadsAll (λ bytes. IsConfig bytes c) source
ReadsConfig source (Err (Config why)) = ReadsAll (λ bytes. RefusesConfigBytes bytes why) source
ReadsConfig source (Err Io) = HasFailed source
ReadsConfig source (Err NoMemory) = Unit {0}
ReadsConfig source (Err _) = ⊥

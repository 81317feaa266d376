-- A source that failed, and a configuration that is not read, since its source gave no bytes.
use Rattle.std.proofs.Common.{◌≡◌, ◌∙◌, ◌||◌, Bool, true, Err, ap, refl}
use Rattle.byte_lines.specs.Device.{is_source_fault}
use Rattle.byte_lines.specs.declared.error.DeviceError.{DeviceError}
use Rattle.byte_lines.specs.declared.error.DeviceError.TheVariants.{Io as SourceFailed}
use Rattle.byte_lines.specs.declared.error.DeviceError.TheVariants.{NoMemory as NoMemoryForBytes}
use Rattle.command_exits.specs.ConfigSource.{ReadsConfig}
use Rattle.command_exits.specs.DeviceRuns.{DeviceRun, HasFailed}
use Rattle.command_exits.specs.Errors.{of_read}

-- After `Io` the source has failed.
pub source_failed : (T : Type 0) (e : DeviceError) (new old : Bool) → new ≡ (is_source_fault {T = T} (Err e) || old) → e ≡ SourceFailed → new ≡ true
source_failed T e new old fault io = fault ∙ ap (λ (d : DeviceError). is_source_fault {T = T} (Err d) || old) io

-- a source gave no bytes
pub no_bytes : (source : DeviceRun) (e : DeviceError) → (e ≡ SourceFailed → HasFailed source) → ReadsConfig source (Err (of_read e))
no_bytes source SourceFailed failed = failed refl
no_bytes source NoMemoryForBytes failed = tt

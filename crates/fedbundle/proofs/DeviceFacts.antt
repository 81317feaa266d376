-- Lemmas on devices: if an error is not reported as that of a failed device, the device is as
-- sound as it was.
use Rattle.std.proofs.Common.{◌≡◌, ◌||◌, Bool, Err, refl}
use Rattle.byte_lines.specs.Device.{is_source_fault}
use Rattle.byte_lines.specs.declared.error.DeviceError.{DeviceError}
use Rattle.byte_lines.specs.declared.error.DeviceError.TheVariants.{Io as SourceFailed}
use Rattle.byte_lines.specs.declared.error.DeviceError.TheVariants.{NoMemory as NoMemoryForBytes}
use Rattle.bundle_view.specs.Report.{is_report_fault}
use Rattle.bundle_view.specs.declared.error.ReportError.{ReportError}
use Rattle.bundle_view.specs.declared.error.ReportError.TheVariants.{Io as SinkFailed}
use Rattle.bundle_view.specs.declared.error.ReportError.TheVariants.{NoMemory as NoMemoryForReport}
use Rattle.replica_texts.specs.Snapshots.{is_io}
use Rattle.replica_core.specs.declared.error.SyncError.{SyncError}
use Rattle.replica_core.specs.declared.error.SyncError.TheVariants.{BadHeader, ConfigDiffers, VersionDiffers}
use Rattle.replica_core.specs.declared.error.SyncError.TheVariants.{NotCanonical, NotRising, BadCount, Truncated}
use Rattle.replica_core.specs.declared.error.SyncError.TheVariants.{Refused}
use Rattle.replica_core.specs.declared.error.SyncError.TheVariants.{Io as StreamFailed}
use Rattle.replica_core.specs.declared.error.SyncError.TheVariants.{NoMemory as NoMemoryForStream}
use Rattle.command_exits.specs.Errors.{of_line, of_report, of_read, of_snapshot}
use Rattle.command_exits.specs.declared.error.CommandError.TheVariants.{Io}
use Rattle.command_exits.specs.declared.run_error.RunError.TheVariants.{Io as RunIo}

-- if an error of reading a whole input is not reported as `Io`, the source is as sound as it was
pub read_sound : (T : Type 0) (e : DeviceError) (new old : Bool) → (of_read e ≡ Io → ⊥) → new ≡ (is_source_fault {T = T} (Err e) || old) → new ≡ old
read_sound T SourceFailed new old unless fault = absurd (unless refl)
read_sound T NoMemoryForBytes new old unless fault = fault

-- the same for an error of reading a line
pub line_sound : (T : Type 0) (e : DeviceError) (new old : Bool) → (of_line e ≡ RunIo → ⊥) → new ≡ (is_source_fault {T = T} (Err e) || old) → new ≡ old
line_sound T SourceFailed new old unless fault = absurd (unless refl)
line_sound T NoMemoryForBytes new old unless fault = fault

-- the same for an error of writing a report and its sink
pub report_sound : (T : Type 0) (e : ReportError) (new old : Bool) → (of_report e ≡ RunIo → ⊥) → new ≡ (is_report_fault {T = T} (Err e) || old) → new ≡ old
report_sound T SinkFailed new old unless fault = absurd (unless refl)
report_sound T NoMemoryForReport new old unless fault = fault

-- the same for an error of reading what a replica wrote
pub stream_sound : (T : Type 0) (e : SyncError) (new old : Bool) → (e ≡ StreamFailed → ⊥) → new ≡ (is_io {T = T} (Err e) || old) → new ≡ old
stream_sound T StreamFailed new old unless fault = absurd (unless refl)
stream_sound T BadHeader new old unless fault = fault
stream_sound T ConfigDiffers new old unless fault = fault
stream_sound T VersionDiffers new old unless fault = fault
stream_sound T (NotCanonical n) new old unless fault = fault
stream_sound T (NotRising n) new old unless fault = fault
stream_sound T BadCount new old unless fault = fault
stream_sound T Truncated new old unless fault = fault
stream_sound T (Refused n why) new old unless fault = fault
stream_sound T NoMemoryForStream new old unless fault = fault

-- a snapshot's writer reports a failed device exactly if that error, as a device's, does
pub snapshot_fault : (T U : Type 0) (e : SyncError) → is_io {T = T} (Err e) ≡ is_source_fault {T = U} (Err (of_snapshot e))
snapshot_fault T U StreamFailed = refl
snapshot_fault T U BadHeader = refl
snapshot_fault T U ConfigDiffers = refl
snapshot_fault T U VersionDiffers = refl
snapshot_fault T U (NotCanonical n) = refl
snapshot_fault T U (NotRising n) = refl
snapshot_fault T U BadCount = refl
snapshot_fault T U Truncated = refl
snapshot_fault T U (Refused n why) = refl
snapshot_fault T U NoMemoryForStream = refl

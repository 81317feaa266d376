-- Refusals of a source, as those of what is read from it.
use Rattle.byte_lines.specs.declared.error.DeviceError.{DeviceError}
use Rattle.byte_lines.specs.declared.error.DeviceError.TheVariants.{Io as SourceFault}
use Rattle.byte_lines.specs.declared.error.DeviceError.TheVariants.{NoMemory as NoLineMemory}
use Rattle.replica_core.specs.declared.error.SyncError.{SyncError}
use Rattle.replica_core.specs.declared.error.SyncError.TheVariants.{Io, NoMemory}

abbrev pub fault_of : DeviceError → SyncError
fault_of SourceFault = Io
fault_of NoLineMemory = NoMemory

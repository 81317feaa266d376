-- The errors of the parts that a command uses, as its own.
use Rattle.byte_lines.specs.declared.error.DeviceError.{DeviceError}
use Rattle.byte_lines.specs.declared.error.DeviceError.TheVariants.{Io as DeviceIo}
use Rattle.byte_lines.specs.declared.error.DeviceError.TheVariants.{NoMemory as DeviceNoMemory}
use Rattle.bundle_view.specs.declared.error.ReportError.{ReportError}
use Rattle.bundle_view.specs.declared.error.ReportError.TheVariants.{Io as SinkFailed}
use Rattle.bundle_view.specs.declared.error.ReportError.TheVariants.{NoMemory as NoMemoryForReport}
use Rattle.replica_core.specs.declared.error.SyncError.{SyncError}
use Rattle.replica_core.specs.declared.error.SyncError.TheVariants.{Io as StreamIo}
use Rattle.command_exits.specs.declared.error.CommandError.{CommandError}
use Rattle.command_exits.specs.declared.error.CommandError.TheVariants.{Full, NoMemory, Io}
use Rattle.command_exits.specs.declared.run_error.RunError.{RunError}
use Rattle.command_exits.specs.declared.run_error.RunError.TheVariants.{Full as RunFull}
use Rattle.command_exits.specs.declared.run_error.RunError.TheVariants.{NoMemory as RunNoMemory}
use Rattle.command_exits.specs.declared.run_error.RunError.TheVariants.{Io as RunIo}

-- the error for a line that could not be had
abbrev pub of_line : DeviceError → RunError
of_line DeviceIo = RunIo
of_line DeviceNoMemory = RunNoMemory

-- the error for a report that could not be written
abbrev pub of_report : ReportError → RunError
of_report SinkFailed = RunIo
of_report NoMemoryForReport = RunNoMemory

-- the error for a source that gave no bytes
abbrev pub of_read : DeviceError → CommandError
of_read DeviceIo = Io
of_read DeviceNoMemory = NoMemory

-- the error for a snapshot that was not written, as that of a device: its writer knows no other
abbrev pub of_snapshot : SyncError → DeviceError
of_snapshot StreamIo = DeviceIo
of_snapshot e = DeviceNoMemory

-- the error for a run that gave no report
abbrev pub of_run : RunError → CommandError
of_run RunFull = Full
of_run RunNoMemory = NoMemory
of_run RunIo = Io

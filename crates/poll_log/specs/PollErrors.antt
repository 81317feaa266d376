-- Refusals of a source, as those of a log
use Rattle.std.specs.Prelude.{Bool, true, false, Result, Ok, Err}
use Rattle.byte_lines.specs.declared.error.DeviceError.{DeviceError}
use Rattle.byte_lines.specs.declared.error.DeviceError.TheVariants as line
use Rattle.poll_log.specs.declared.error.PollError.{PollError}
use Rattle.poll_log.specs.declared.error.PollError.TheVariants.{NoRelationship, PastRange, NoMemory}
use Rattle.poll_log.specs.declared.error.PollError.TheVariants.{BadLine, BadMoment, Io}

abbrev pub poll_error_of : DeviceError → PollError
poll_error_of line.Io = Io
poll_error_of line.NoMemory = NoMemory

-- the source failed
abbrev pub is_poll_fault : {T : Type 0} → Result T PollError → Bool
is_poll_fault (Ok value) = false
is_poll_fault (Err NoRelationship) = false
is_poll_fault (Err PastRange) = false
is_poll_fault (Err NoMemory) = false
is_poll_fault (Err (BadLine n)) = false
is_poll_fault (Err (BadMoment n)) = false
is_poll_fault (Err Io) = true

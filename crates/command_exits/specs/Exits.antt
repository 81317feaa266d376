-- Why a command ends before it is done: the line that says so, and the exit status.
use Rattle.std.specs.Prelude.{◌≡◌, ℕ, List, Option, codes}
use Rattle.std.specs.Io.KnownBytes.{Appends}
use Rattle.command_line.specs.declared.option_error.OptionError.{OptionError}
use Rattle.command_line.specs.declared.option_error.OptionError.TheVariants as unread
use Rattle.command_exits.specs.Fault.{fault_line}
use Rattle.command_exits.specs.Status.{status_of}
use Rattle.command_exits.specs.declared.exits.Exit.{Exit}
use Rattle.command_exits.specs.declared.exits.Exit.TheVariants.{Usage, BadKey, BadMoment}
use Rattle.command_exits.specs.declared.exits.Exit.TheVariants.{BadAddress}
use Rattle.command_exits.specs.declared.exits.Exit.TheVariants.{NoBundle, NotAccepted, Locked}
use Rattle.command_exits.specs.declared.exits.Exit.TheVariants.{TooManyBytes, System, Refused}
use Rattle.command_exits.specs.declared.exits.Exit.TheVariants.{EmptyPath, BadNumber, NoReplica}
use Rattle.command_exits.specs.declared.exits.Exit.TheVariants.{NoReply, ReplicaRuns, SocketTaken}
use Rattle.command_exits.specs.declared.exits.Exit.TheVariants.{NoState, ReadOnly, StateExists}
use Rattle.command_exits.specs.declared.exits.Exit.TheVariants.{NoKnownKey}

-- 2 for usage; 3 for a lock, a socket, or a replica that does not answer; what the refusal or the
-- system error has; and else 1
abbrev pub exit_status_of : Exit → ℕ
exit_status_of Usage = 2
exit_status_of (EmptyPath option) = 2
exit_status_of (BadNumber option) = 2
exit_status_of Locked = 3
exit_status_of ReplicaRuns = 3
exit_status_of SocketTaken = 3
exit_status_of NoReplica = 3
exit_status_of NoReply = 3
exit_status_of (System fault) = status_of fault.error
exit_status_of (Refused e) = status_of e
exit_status_of exit = 1

-- The line that says why. For a refusal and a system error it is the text of the error.
abbrev pub IsExitLine : Exit → List ℕ → Type 0
IsExitLine Usage line = line ≡ codes "fedbundle: usage\n"
IsExitLine (EmptyPath option) line = line ≡ codes "fedbundle: usage\n"
IsExitLine (BadNumber option) line = line ≡ codes "fedbundle: usage\n"
IsExitLine BadKey line = line ≡ codes "fedbundle: bad key\n"
IsExitLine BadMoment line = line ≡ codes "fedbundle: bad moment\n"
IsExitLine (BadAddress option) line = line ≡ codes "fedbundle: bad address\n"
IsExitLine NoBundle line = line ≡ codes "fedbundle: no current bundle\n"
IsExitLine NotAccepted line = line ≡ codes "fedbundle: not accepted\n"
IsExitLine NoKnownKey line = line ≡ codes "fedbundle: no known key\n"
IsExitLine Locked line = line ≡ codes "fedbundle: locked\n"
IsExitLine ReplicaRuns line = line ≡ codes "fedbundle: a replica is running\n"
IsExitLine SocketTaken line = line ≡ codes "fedbundle: socket taken\n"
IsExitLine NoState line = line ≡ codes "fedbundle: no state\n"
IsExitLine StateExists line = line ≡ codes "fedbundle: state exists\n"
IsExitLine ReadOnly line = line ≡ codes "fedbundle: read only\n"
IsExitLine NoReplica line = line ≡ codes "fedbundle: no replica\n"
IsExitLine NoReply line = line ≡ codes "fedbundle: no reply\n"
IsExitLine TooManyBytes line = line ≡ codes "fedbundle: too many bytes\n"
IsExitLine (System fault) line = (text : List ℕ) × (line ≡ fault_line text)
IsExitLine (Refused e) line = (text : List ℕ) × (line ≡ fault_line text)

-- such a line was written, and nothing else
abbrev pub AppendsExit : Exit → Option (List ℕ) → Option (List ℕ) → Type 0
AppendsExit exit held holds = (line : List ℕ) × IsExitLine exit line × Appends held holds line

-- how a command ends if an option is not read
abbrev pub exit_of_option : OptionError → Exit
exit_of_option unread.Usage = Usage
exit_of_option (unread.BadNumber name) = BadNumber name
exit_of_option unread.BadKey = BadKey
exit_of_option (unread.BadAddress name) = BadAddress name
exit_of_option (unread.EmptyPath name) = EmptyPath name

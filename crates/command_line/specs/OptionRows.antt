-- The table of the options, and which of them each subcommand takes.
use Rattle.std.specs.Prelude.{Bool, true, false, ℕ, List, [], ◌∷◌, codes}
use Rattle.command_line.specs.declared.command_name.CommandName.{CommandName}
use Rattle.command_line.specs.declared.command_name.CommandName.TheVariants as command
use Rattle.command_line.specs.declared.command_name.OptionName.{OptionName}
use Rattle.command_line.specs.declared.command_name.OptionName.TheVariants as option
use Rattle.command_line.specs.declared.command_name.TakenOption.{TakenOption}
use Rattle.command_line.specs.declared.command_name.TakenOption.TheVariants.{Required, Optional}
use Rattle.command_line.specs.declared.command_name.TakenOption.TheVariants.{RequiredOverFiles}
use Rattle.command_line.specs.declared.command_name.TakenOption.TheVariants.{OptionalOverFiles}
use Rattle.command_line.specs.declared.command_name.TakenOption.TheVariants.{OptionalAtReplica}
use Rattle.command_line.specs.declared.command_name.TakenOption.TheVariants.{Asking}
use Rattle.command_line.specs.declared.option_rows.OptionKind.{OptionKind}
use Rattle.command_line.specs.declared.option_rows.OptionKind.TheVariants.{Flag, Path, Text}

-- its name, and what it has after that
abbrev pub option_row : OptionName → List ℕ × OptionKind
option_row option.Config = (codes "config", Path)
option_row option.State = (codes "state", Path)
option_row option.Domain = (codes "domain", Text)
option_row option.Endpoint = (codes "endpoint", Text)
option_row option.Key = (codes "key", Text)
option_row option.Now = (codes "now", Text)
option_row option.Listen = (codes "listen", Text)
option_row option.Sessions = (codes "sessions", Text)
option_row option.Peer = (codes "peer", Text)
option_row option.To = (codes "to", Path)
option_row option.RecordsOnly = (codes "records-only", Flag)
option_row option.With = (codes "with", Path)
option_row option.At = (codes "at", Path)
option_row option.Wait = (codes "wait", Text)
option_row option.MostBytes = (codes "most-bytes", Text)
option_row option.Allow = (codes "allow", Text)
option_row option.Floors = (codes "floors", Flag)
option_row option.DryRun = (codes "dry-run", Flag)
option_row option.Verbose = (codes "verbose", Flag)
option_row option.Format = (codes "format", Text)
option_row option.Short = (codes "short", Flag)
option_row option.Socket = (codes "socket", Path)
option_row option.Peers = (codes "peers", Text)
option_row option.Every = (codes "every", Text)
option_row option.MostRequestBytes = (codes "most-request-bytes", Text)
option_row option.New = (codes "new", Flag)
option_row option.ReadSocket = (codes "read-socket", Path)
option_row option.ListenAnywhere = (codes "listen-anywhere", Flag)
option_row option.Keys = (codes "keys", Flag)
option_row option.PublicKey = (codes "public-key", Text)
option_row option.UnknownKey = (codes "unknown-key", Flag)
option_row option.Known = (codes "known", Flag)
option_row option.ExpiresWithin = (codes "expires-within", Text)
option_row option.PeerQuiet = (codes "peer-quiet", Text)
option_row option.Polls = (codes "polls", Path)
option_row option.Health = (codes "health", Text)
option_row option.HealthHost = (codes "health-host", Text)
option_row option.Audit = (codes "audit", Path)
option_row option.Previous = (codes "previous", Path)
option_row option.MostReceipts = (codes "most-receipts", Text)
option_row option.MostRecords = (codes "most-records", Text)
option_row option.Sums = (codes "sums", Flag)

abbrev pub option_text : OptionName → List ℕ
option_text name = (option_row name).0

abbrev pub kind_of : OptionName → OptionKind
kind_of name = (option_row name).1

abbrev pub is_flag_kind : OptionKind → Bool
is_flag_kind Flag = true
is_flag_kind Path = false
is_flag_kind Text = false

-- it has no text after it
abbrev pub is_flag : OptionName → Bool
is_flag name = is_flag_kind (kind_of name)

abbrev pub is_path_kind : OptionKind → Bool
is_path_kind Flag = false
is_path_kind Path = true
is_path_kind Text = false

-- its text names a file or a socket
abbrev pub is_path : OptionName → Bool
is_path name = is_path_kind (kind_of name)

-- ---- the subcommands

-- the option that a subcommand takes so
abbrev pub taken_name : TakenOption → OptionName
taken_name (Required name) = name
taken_name (Optional name) = name
taken_name (RequiredOverFiles name) = name
taken_name (OptionalOverFiles name) = name
taken_name (OptionalAtReplica name) = name
taken_name (Asking name) = name

-- what most subcommands that look at a state take at the end
abbrev pub last_options : List TakenOption
last_options = Optional option.Wait ∷ OptionalOverFiles option.MostReceipts
    ∷ OptionalOverFiles option.MostRecords ∷ Optional option.Verbose ∷ Asking option.At ∷ []

-- the options of a subcommand, in the order in which they are read
abbrev pub options_of : CommandName → List TakenOption
options_of command.Canon = Required option.Domain ∷ Optional option.Format ∷ Optional option.Verbose
    ∷ []
options_of command.Config = RequiredOverFiles option.Config ∷ Optional option.With
    ∷ Optional option.Format ∷ Optional option.Wait ∷ Optional option.Verbose ∷ Asking option.At
    ∷ []
options_of command.New = RequiredOverFiles option.Config ∷ RequiredOverFiles option.State
    ∷ Optional option.Wait ∷ OptionalOverFiles option.MostReceipts
    ∷ OptionalOverFiles option.MostRecords ∷ Optional option.Verbose ∷ []
options_of command.Report = RequiredOverFiles option.Config ∷ OptionalOverFiles option.State
    ∷ Optional option.Format ∷ OptionalOverFiles option.New ∷ last_options
options_of command.List = RequiredOverFiles option.Config ∷ RequiredOverFiles option.State
    ∷ Optional option.Domain ∷ Optional option.Keys ∷ Optional option.Format
    ∷ OptionalOverFiles option.New ∷ last_options
options_of command.Graph = RequiredOverFiles option.Config ∷ RequiredOverFiles option.State
    ∷ Optional option.Domain ∷ OptionalOverFiles option.New ∷ last_options
options_of command.Diff = RequiredOverFiles option.Config ∷ RequiredOverFiles option.State
    ∷ Required option.With ∷ OptionalOverFiles option.New ∷ last_options
options_of command.Status = RequiredOverFiles option.Config ∷ RequiredOverFiles option.State
    ∷ Optional option.Format ∷ Optional option.Now ∷ Optional option.ExpiresWithin
    ∷ Optional option.PeerQuiet ∷ Optional option.Polls ∷ OptionalOverFiles option.New
    ∷ last_options
options_of command.Bundle = RequiredOverFiles option.Config ∷ RequiredOverFiles option.State
    ∷ Required option.Domain ∷ Optional option.Format ∷ last_options
options_of command.Explain = RequiredOverFiles option.Config ∷ RequiredOverFiles option.State
    ∷ Required option.Domain ∷ Optional option.Short ∷ Optional option.Format ∷ last_options
options_of command.Observe = RequiredOverFiles option.Config ∷ RequiredOverFiles option.State
    ∷ Required option.Domain ∷ Required option.Endpoint ∷ Required option.Key ∷ last_options
options_of command.Merge = RequiredOverFiles option.Config ∷ RequiredOverFiles option.State
    ∷ Optional option.Wait ∷ Optional option.MostBytes ∷ OptionalOverFiles option.MostReceipts
    ∷ OptionalOverFiles option.MostRecords ∷ Optional option.Verbose ∷ Asking option.At ∷ []
options_of command.Migrate = RequiredOverFiles option.Config ∷ RequiredOverFiles option.State
    ∷ Optional option.To ∷ Optional option.RecordsOnly ∷ last_options
options_of command.Reseed = RequiredOverFiles option.Config ∷ RequiredOverFiles option.State
    ∷ Optional option.Allow ∷ Optional option.Floors ∷ last_options
options_of command.Polls = RequiredOverFiles option.Config ∷ RequiredOverFiles option.State
    ∷ Required option.Now ∷ Optional option.Format ∷ last_options
options_of command.Distrust = RequiredOverFiles option.Config ∷ RequiredOverFiles option.State
    ∷ Required option.Domain ∷ Optional option.Key ∷ Optional option.PublicKey
    ∷ OptionalAtReplica option.UnknownKey ∷ OptionalOverFiles option.Known ∷ Optional option.DryRun
    ∷ OptionalOverFiles option.New ∷ last_options
options_of command.Serve = RequiredOverFiles option.Config ∷ RequiredOverFiles option.State
    ∷ Required option.Listen ∷ Required option.Sessions ∷ OptionalOverFiles option.MostReceipts
    ∷ OptionalOverFiles option.MostRecords ∷ Optional option.Verbose ∷ []
options_of command.Pull = RequiredOverFiles option.Config ∷ RequiredOverFiles option.State
    ∷ Required option.Peer ∷ Optional option.Sums ∷ Optional option.Wait ∷ Optional option.MostBytes
    ∷ OptionalOverFiles option.MostReceipts ∷ OptionalOverFiles option.MostRecords
    ∷ Optional option.Verbose ∷ []
options_of command.Replica = RequiredOverFiles option.Config ∷ Optional option.Previous
    ∷ RequiredOverFiles option.State ∷ Required option.Socket ∷ Optional option.ReadSocket
    ∷ Optional option.Listen ∷ Optional option.Health ∷ Optional option.HealthHost
    ∷ Optional option.Audit ∷ Optional option.ListenAnywhere ∷ Optional option.Peers
    ∷ Optional option.Every ∷ Optional option.PeerQuiet ∷ Optional option.ExpiresWithin
    ∷ Optional option.MostBytes ∷ OptionalOverFiles option.MostReceipts
    ∷ OptionalOverFiles option.MostRecords ∷ Optional option.MostRequestBytes
    ∷ OptionalOverFiles option.New ∷ Optional option.Verbose ∷ []
options_of command.Stop = Optional option.Wait ∷ Optional option.Verbose ∷ Asking option.At ∷ []

-- What a running replica says of itself in addition to what it holds: as lines, as members of a
-- JSON object and as metrics
use Rattle.std.specs.Prelude.{ℕ, List, [], ◌++◌, false, codes, decimal, flat_map, string_bytes}
use Rattle.std.specs.Prelude.{Option, Some, None}
use Rattle.json_text.specs.JsonText.{number_or_null, parted_texts, string_member}
use Rattle.text_lines.specs.TextLines.{number_or_none}
use Rattle.replica_core.specs.declared.error.SyncError.TheVariants.{BadHeader, ConfigDiffers}
use Rattle.replica_core.specs.declared.error.SyncError.TheVariants.{VersionDiffers, NotCanonical}
use Rattle.replica_core.specs.declared.error.SyncError.TheVariants.{NotRising, BadCount, Truncated}
use Rattle.replica_core.specs.declared.error.SyncError.TheVariants.{Refused, Io, NoMemory}
use Rattle.status_view.specs.declared.running.RunningStatus.{RunningStatus}
use Rattle.status_view.specs.declared.running.PeerStatus.{PeerStatus}
use Rattle.status_view.specs.declared.running.PeerFault.{PeerFault}
use Rattle.status_view.specs.declared.running.PeerFault.TheVariants.{Session, TooManyBytes}
use Rattle.status_view.specs.StatusMetrics.{gauge_head, help_line}
use Rattle.status_view.specs.PeerMetrics.{peer_label, peer_sample}
use Rattle.status_view.specs.Changing.{previous_lines, previous_member, previous_metrics}

-- ---- why a session failed, in short

abbrev pub fault_code : PeerFault → List ℕ
fault_code TooManyBytes = codes "bytes"
fault_code (Session BadHeader) = codes "S1"
fault_code (Session ConfigDiffers) = codes "S2"
fault_code (Session VersionDiffers) = codes "S3"
fault_code (Session (NotCanonical line)) = codes "S4"
fault_code (Session (NotRising line)) = codes "S5"
fault_code (Session BadCount) = codes "S6"
fault_code (Session Truncated) = codes "S7"
fault_code (Session (Refused line why)) = codes "S8"
fault_code (Session Io) = codes "S9"
fault_code (Session NoMemory) = codes "S10"

-- ---- as lines

abbrev pub code_or_none : Option PeerFault → List ℕ
code_or_none None = codes "none"
code_or_none (Some fault) = fault_code fault

abbrev pub peer_line : PeerStatus → List ℕ
peer_line p = codes "peer "
    ++ (string_bytes p.address
    ++ (codes " ended-well "
    ++ (number_or_none p.ended_well
    ++ (codes " fault "
    ++ (code_or_none p.fault ++ (codes " receipts " ++ (decimal p.receipts ++ codes "\n")))))))

abbrev pub running_lines : RunningStatus → List ℕ
running_lines r = codes "snapshot "
    ++ (decimal r.snapshot_bytes
    ++ (codes " bytes\njournal "
    ++ (decimal r.journal_bytes
    ++ (codes " bytes\n"
    ++ (flat_map peer_line r.peers.now ++ previous_lines r.peers.now r.previous)))))

-- ---- as members of a JSON object

abbrev pub quoted_code : PeerFault → List ℕ
quoted_code fault = codes "\"" ++ (fault_code fault ++ codes "\"")

abbrev pub code_or_null : Option PeerFault → List ℕ
code_or_null None = codes "null"
code_or_null (Some fault) = quoted_code fault

abbrev pub peer_json : PeerStatus → List ℕ
peer_json p = string_member (codes "{\"peer\":") (string_bytes p.address)
    ++ (codes ",\"ended_well\":"
    ++ (number_or_null p.ended_well
    ++ (codes ",\"fault\":"
    ++ (code_or_null p.fault ++ (codes ",\"receipts\":" ++ (decimal p.receipts ++ codes "}"))))))

-- without the braces, with a comma before the first
abbrev pub running_members : RunningStatus → List ℕ
running_members r = codes ",\"snapshot_bytes\":"
    ++ (decimal r.snapshot_bytes
    ++ (codes ",\"journal_bytes\":"
    ++ (decimal r.journal_bytes
    ++ (codes ",\"peers\":["
    ++ (parted_texts peer_json false r.peers.now
    ++ (codes "]" ++ previous_member r.peers.now r.previous))))))

-- ---- as metrics

-- a metric of the replica, with the one value that it has
abbrev pub bytes_gauge : (name help : List ℕ) → ℕ → List ℕ
bytes_gauge name help count = gauge_head name help
    ++ (name ++ (codes " " ++ (decimal count ++ codes "\n")))

abbrev pub snapshot_gauge : RunningStatus → List ℕ
snapshot_gauge r =
    bytes_gauge (codes "fedbundle_snapshot_bytes") (codes "Bytes of the snapshot.") r.snapshot_bytes

abbrev pub journal_gauge : RunningStatus → List ℕ
journal_gauge r =
    bytes_gauge (codes "fedbundle_journal_bytes") (codes "Bytes of the journal.") r.journal_bytes

abbrev pub counter_line : List ℕ → List ℕ
counter_line name = codes "# TYPE " ++ (name ++ (codes " counter" ++ codes "\n"))

-- what it says, and that it only goes up
abbrev pub counter_head : (name help : List ℕ) → List ℕ
counter_head name help = help_line name help ++ counter_line name

abbrev pub receipts_name : List ℕ
receipts_name = codes "fedbundle_peer_receipts_total"

abbrev pub receipts_sample : PeerStatus → List ℕ
receipts_sample p = peer_sample receipts_name p p.receipts

abbrev pub receipts_counter : RunningStatus → List ℕ
receipts_counter r = counter_head receipts_name
    (codes "Receipts that came from a peer and were not held.")
    ++ flat_map receipts_sample r.peers.now

abbrev pub ended_name : List ℕ
ended_name = codes "fedbundle_peer_ended_well_timestamp_seconds"

abbrev pub ended_sample_at : PeerStatus → Option ℕ → List ℕ
ended_sample_at p None = []
ended_sample_at p (Some seconds) = peer_sample ended_name p seconds

abbrev pub ended_sample : PeerStatus → List ℕ
ended_sample p = ended_sample_at p p.ended_well

abbrev pub ended_gauge : RunningStatus → List ℕ
ended_gauge r = gauge_head ended_name
    (codes "When the last session with a peer that ended well did so.")
    ++ flat_map ended_sample r.peers.now

abbrev pub fault_name : List ℕ
fault_name = codes "fedbundle_peer_fault_info"

abbrev pub fault_sample_of : PeerStatus → Option PeerFault → List ℕ
fault_sample_of p None = []
fault_sample_of p (Some fault) = peer_label fault_name p
    ++ (codes "\",fault=\"" ++ (fault_code fault ++ codes "\"} 1\n"))

abbrev pub fault_sample : PeerStatus → List ℕ
fault_sample p = fault_sample_of p p.fault

abbrev pub fault_info : RunningStatus → List ℕ
fault_info r = gauge_head fault_name
    (codes "The fault of the last session with a peer that had one.")
    ++ flat_map fault_sample r.peers.now

abbrev pub running_metrics : RunningStatus → List ℕ
running_metrics r = snapshot_gauge r
    ++ (journal_gauge r
    ++ (receipts_counter r
    ++ (ended_gauge r ++ (fault_info r ++ previous_metrics r.peers.now r.previous))))

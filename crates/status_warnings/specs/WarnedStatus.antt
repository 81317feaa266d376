-- What is written of the status of a replica, with what is wrong with it at the end
use Rattle.std.specs.Prelude.{◌≡◌, ℕ, List, [], ◌++◌, codes, Option, Some, None, option_map}
use Rattle.receipt_core.specs.Acceptance.{Meaning}
use Rattle.status_view.specs.declared.running.PeerStatus.{PeerStatus}
use Rattle.status_view.specs.declared.running.RunningStatus.{RunningStatus}
use Rattle.status_view.specs.declared.status.Status.{Status}
use Rattle.status_view.specs.declared.status_format.StatusFormat.{StatusFormat}
use Rattle.status_view.specs.declared.status_format.StatusFormat.TheVariants.{Text, Json}
use Rattle.status_view.specs.declared.status_format.StatusFormat.TheVariants.{Prometheus}
use Rattle.status_view.specs.Status.{IsStatus}
use Rattle.status_view.specs.Running.{running_lines, running_members, running_metrics}
use Rattle.status_view.specs.StatusLines.{status_lines}
use Rattle.status_view.specs.StatusJson.{status_members}
use Rattle.status_view.specs.StatusMetrics.{status_metrics}
use Rattle.status_warnings.specs.declared.seen.CertificateEnd.{CertificateEnd}
use Rattle.status_warnings.specs.declared.seen.Fetch.{Fetch}
use Rattle.status_warnings.specs.declared.seen.SamePublicKey.{SamePublicKey}
use Rattle.status_warnings.specs.declared.seen.WarnLimits.{WarnLimits}
use Rattle.status_warnings.specs.declared.seen.Watch.{Watch}
use Rattle.status_warnings.specs.declared.warning_kinds.Warning.{Warning}
use Rattle.status_warnings.specs.CertificateEnds.{AreAllEnds}
use Rattle.status_warnings.specs.SameKeys.{AreAllSameKeys}
use Rattle.status_warnings.specs.Warnings.{Sight, warnings_of}
use Rattle.status_warnings.specs.WarningLines.{lines_of_warnings}
use Rattle.status_warnings.specs.WarningJson.{warning_member}
use Rattle.status_warnings.specs.WarningMetrics.{certificate_gauge, warning_gauge}

-- ---- what is known in addition to what is held

-- when the replica is looked at, and how long things may take; what it says of itself, if it runs;
-- and how domains are fetched, if a log of polls is known
pub record Watching : Type 0 where
  pub limits : WarnLimits
  pub running : Option RunningStatus
  pub fetches : List Fetch

abbrev pub watching_of : Watch → Watching
watching_of w = record {
  limits = w.limits;
  running = option_map (λ r. r.now) w.running;
  fetches = w.fetches.now;
}

abbrev pub peers_of : Option RunningStatus → List PeerStatus
peers_of None = []
peers_of (Some r) = r.peers.now

abbrev pub began_of : Option RunningStatus → ℕ
began_of None = 0
began_of (Some r) = r.began

abbrev pub sight_with : Watching → Status → List CertificateEnd → List SamePublicKey → Sight
sight_with w s certificates same_keys = record {
  status = s;
  certificates = certificates;
  same_keys = same_keys;
  fetches = w.fetches;
  peers = peers_of w.running;
  began = began_of w.running;
}

abbrev pub found_in : Watching → Status → List CertificateEnd → List SamePublicKey
    → List Warning
found_in w s certificates same_keys =
    warnings_of w.limits (sight_with w s certificates same_keys)

-- ---- the texts: what was written without warnings comes first

abbrev pub lines_of_running : Option RunningStatus → List ℕ
lines_of_running None = []
lines_of_running (Some r) = running_lines r

abbrev pub members_of_running : Option RunningStatus → List ℕ
members_of_running None = []
members_of_running (Some r) = running_members r

abbrev pub metrics_of_running : Option RunningStatus → List ℕ
metrics_of_running None = []
metrics_of_running (Some r) = running_metrics r

abbrev pub warned_lines : Option RunningStatus → Status → List Warning → List ℕ
warned_lines running s warnings =
    status_lines s ++ (lines_of_running running ++ lines_of_warnings warnings)

abbrev pub warned_json : Option RunningStatus → Status → List Warning → List ℕ
warned_json running s warnings = codes "{"
    ++ (status_members s
    ++ (members_of_running running ++ (warning_member warnings ++ codes "}\n")))

abbrev pub warned_metrics : Option RunningStatus → Sight → List Warning → List ℕ
warned_metrics running sight warnings = status_metrics sight.status
    ++ (metrics_of_running running
    ++ (certificate_gauge sight.certificates ++ warning_gauge warnings))

abbrev pub warned_text : StatusFormat → Option RunningStatus → Sight → List Warning → List ℕ
warned_text Text running sight warnings = warned_lines running sight.status warnings
warned_text Json running sight warnings = warned_json running sight.status warnings
warned_text Prometheus running sight warnings = warned_metrics running sight warnings

-- the text of what is seen, and of what is found in that
abbrev pub seen_text : StatusFormat → Watching → Status → List CertificateEnd
    → List SamePublicKey → List ℕ
seen_text format w s certificates same_keys = warned_text format w.running
    (sight_with w s certificates same_keys) (found_in w s certificates same_keys)

-- the text of the replica's status
pub record IsWarnedStatusIn (m : Meaning) (w : Watching) (format : StatusFormat)
    (text : List ℕ) : Type 0 where
  pub status : Status
  pub is_status : IsStatus m status
  pub certificates : List CertificateEnd
  pub are_ends : AreAllEnds m certificates
  pub same_keys : List SamePublicKey
  pub are_same : AreAllSameKeys m same_keys
  pub is : text ≡ seen_text format w status certificates same_keys

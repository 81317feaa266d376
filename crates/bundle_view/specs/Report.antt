-- What a replica reports: a text that its configuration, its receipts and its records of distrust
-- determine
use Rattle.std.specs.Prelude.{◌≡◌, ℕ, List, ◌++◌, map, filter, flat_map, length, codes, decimal}
use Rattle.std.specs.Prelude.{Bool, true, false, Contains, Option, Some, None, Result, Ok, Err}
use Rattle.std.specs.Str.{bytes_eq}
use Rattle.std.specs.Io.KnownBytes.{Appends}
use Rattle.hex.specs.Hex.{encode_lower}
use Rattle.bundle_doc.specs.Bundle.{Bundle, doc_id_of}
use Rattle.bundle_doc.specs.declared.document.DocId.{DocId}
use Rattle.fed_config.specs.Configuration.{AreDomains, config_id_of}
use Rattle.receipt_core.specs.Acceptance.{Meaning}
use Rattle.byte_lines.specs.Device.{AppendsBeginning}
use Rattle.receipt_core.specs.declared.distrust.Distrust.{Distrust}
use Rattle.closure_core.specs.AcceptedList.{IsAcceptedList, IsPendingCount}
use Rattle.bundle_view.specs.Current.{IsCurrent}
use Rattle.bundle_view.specs.Conflicts.{ConflictGroup, AreConflicts, ReportedConflict}
use Rattle.bundle_view.specs.Conflicts.{reported_conflict}
use Rattle.bundle_view.specs.declared.conflict.ConflictKind.{ConflictKind}
use Rattle.bundle_view.specs.declared.conflict.ConflictKind.TheVariants.{Keys, HintOnly}
use Rattle.bundle_view.specs.declared.error.ReportError.{ReportError}
use Rattle.bundle_view.specs.declared.error.ReportError.TheVariants.{Io, NoMemory}

-- ---- lines

abbrev pub sequence_text : Option ℕ → List ℕ
sequence_text None = codes "none"
sequence_text (Some n) = decimal n

-- an id in lower-case hexadecimal
abbrev pub document_text : List ℕ → Bundle → List ℕ
document_text domain d = encode_lower (doc_id_of domain d)
    ++ (codes " sequence " ++ sequence_text d.rank)

abbrev pub current_line : List ℕ → Option Bundle → List ℕ
current_line domain None = codes "  current none\n"
current_line domain (Some d) = codes "  current " ++ (document_text domain d ++ codes "\n")

-- all authorities count, also those for JWT-SVIDs
abbrev pub accepted_line : List ℕ → Bundle → List ℕ
accepted_line domain d = codes "  accepted "
    ++ (document_text domain d
    ++ (codes " authorities " ++ (decimal (length d.authorities) ++ codes "\n")))

abbrev pub kind_text : ConflictKind → List ℕ
kind_text Keys = codes " keys"
kind_text HintOnly = codes " hint"

abbrev pub id_text : DocId → List ℕ
id_text id = codes " " ++ encode_lower id.0

abbrev pub conflict_line : ReportedConflict → List ℕ
conflict_line c = codes "  conflict "
    ++ (decimal c.sequence ++ (kind_text c.kind ++ (flat_map id_text c.documents ++ codes "\n")))

abbrev pub reported_distrust_line : Distrust → List ℕ
reported_distrust_line x = codes "  distrust " ++ (encode_lower x.key.0 ++ codes "\n")

-- ---- a domain

pub record Section : Type 0 where
  pub domain : List ℕ
  pub current : Option Bundle
  pub accepted : List Bundle
  pub conflicts : List ConflictGroup

-- the records of distrust of a domain
abbrev pub is_of : List ℕ → Distrust → Bool
is_of domain x = bytes_eq x.domain domain

abbrev pub records_of : List ℕ → List Distrust → List Distrust
records_of domain records = filter (is_of domain) records

abbrev pub section_text : List Distrust → Section → List ℕ
section_text records s =
    codes "domain " ++ (s.domain
    ++ (codes "\n" ++ (current_line s.domain s.current
    ++ (flat_map (accepted_line s.domain) s.accepted
    ++ (flat_map conflict_line (map (reported_conflict s.domain) s.conflicts)
    ++ flat_map reported_distrust_line (records_of s.domain records))))))

-- What it says of a domain is so.
pub record IsSection (m : Meaning) (s : Section) : Type 0 where
  pub current : IsCurrent m s.domain s.current
  pub accepted : IsAcceptedList m s.domain s.accepted
  pub conflicts : AreConflicts m s.domain s.conflicts

-- ---- the whole

abbrev pub head_text : Meaning → ℕ → List ℕ
head_text m pending =
    codes "config " ++ (encode_lower (config_id_of m.config)
    ++ (codes "\nreceipts "
    ++ (decimal (length m.held) ++ (codes " pending " ++ (decimal pending ++ codes "\n")))))

abbrev pub report_text : Meaning → ℕ → List Section → List ℕ
report_text m pending sections = head_text m pending ++ flat_map (section_text m.records) sections

-- the report: a head, and a section for each domain of the configuration, in order
pub record IsReport (m : Meaning) (text : List ℕ) : Type 0 where
  pub pending : ℕ
  pub is_pending : IsPendingCount m pending
  pub sections : List Section
  pub domains : AreDomains m.config (map (λ s. s.domain) sections)
  pub each : (s : Section) → Contains sections s → IsSection m s
  pub is : text ≡ report_text m pending sections

-- exactly the report was written
pub record WritesReport (m : Meaning) (old new : Option (List ℕ)) : Type 0 where
  pub text : List ℕ
  pub report : IsReport m text
  pub written : Appends old new text

-- a beginning of the report was written
pub record BeginsReport (m : Meaning) (old new : Option (List ℕ)) : Type 0 where
  pub text : List ℕ
  pub report : IsReport m text
  pub begun : AppendsBeginning old new text

-- the report's sink failed
abbrev pub is_report_fault : {T : Type 0} → Result T ReportError → Bool
is_report_fault (Ok value) = false
is_report_fault (Err Io) = true
is_report_fault (Err NoMemory) = false

-- What a replica accepts, as one JSON object
use Rattle.std.specs.Prelude.{◌≡◌, ℕ, List, [], ◌++◌, map, length, codes, Option, Some, None}
use Rattle.std.specs.List.{AllZip}
use Rattle.bundle_doc.specs.Bundle.{Bundle, doc_id_of}
use Rattle.bundle_doc.specs.declared.document.DocId.{DocId}
use Rattle.fed_config.specs.Configuration.{AreDomains, config_id_of}
use Rattle.receipt_core.specs.Acceptance.{Meaning}
use Rattle.closure_core.specs.AcceptedList.{IsAcceptedList, IsPendingCount}
use Rattle.json_text.specs.JsonText.{array_member, digest_member, number_member, string_member}
use Rattle.replica_view.specs.HeldJson.{held_record_json}
use Rattle.bundle_view.specs.Current.{IsCurrent}
use Rattle.bundle_view.specs.Conflicts.{AreAllConflicts, ReportedConflict}
use Rattle.bundle_view.specs.declared.conflict.ConflictKind.{ConflictKind}
use Rattle.bundle_view.specs.declared.conflict.ConflictKind.TheVariants.{Keys, HintOnly}

-- ---- a domain

-- all authorities count, also those for JWT-SVIDs
abbrev pub accepted_json : List ℕ → Bundle → List ℕ
accepted_json domain d = digest_member (codes "{\"document\":") (doc_id_of domain d)
    ++ (number_member (codes ",\"sequence\":") d.rank
    ++ (number_member (codes ",\"authorities\":") (Some (length d.authorities)) ++ codes "}"))

unfoldable pub shown_current : List ℕ → Bundle → List ℕ
shown_current domain d = digest_member (codes ",\"current\":{\"document\":") (doc_id_of domain d)
    ++ (number_member (codes ",\"sequence\":") d.rank ++ codes "}")

abbrev pub current_member : List ℕ → Option Bundle → List ℕ
current_member domain None = codes ",\"current\":null"
current_member domain (Some d) = shown_current domain d

-- its name, its current document, and all accepted ones
abbrev pub accepted_domain_json : List ℕ → Option Bundle → List (List ℕ) → List ℕ
accepted_domain_json domain current accepted = string_member (codes "{\"domain\":") domain
    ++ (current_member domain current
    ++ (array_member (codes ",\"accepted\":") accepted ++ codes "}"))

-- the texts of the accepted documents of the domain, in their order
pub record AreAcceptedTexts (m : Meaning) (domain : List ℕ) (texts : List (List ℕ)) : Type 0 where
  pub documents : List Bundle
  pub are_accepted : IsAcceptedList m domain documents
  pub are : texts ≡ map (accepted_json domain) documents

-- The text says what is accepted of the domain.
pub record IsDomainJson (m : Meaning) (domain text : List ℕ) : Type 0 where
  pub current : Option Bundle
  pub is_current : IsCurrent m domain current
  pub accepted : List (List ℕ)
  pub are_accepted : AreAcceptedTexts m domain accepted
  pub is : text ≡ accepted_domain_json domain current accepted

-- ---- a conflict

abbrev pub id_json : DocId → List ℕ
id_json id = digest_member [] id.0

abbrev pub kind_member : ConflictKind → List ℕ
kind_member Keys = codes ",\"kind\":\"keys\""
kind_member HintOnly = codes ",\"kind\":\"hint\""

-- its domain and sequence number, and in what the documents differ
unfoldable pub conflict_members : ReportedConflict → List ℕ
conflict_members c = string_member (codes "{\"domain\":") c.domain
    ++ (number_member (codes ",\"sequence\":") (Some c.sequence) ++ kind_member c.kind)

abbrev pub conflict_json : ReportedConflict → List ℕ
conflict_json c = conflict_members c
    ++ (array_member (codes ",\"documents\":") (map id_json c.documents) ++ codes "}")

-- ---- the whole

-- the configuration's digest, how many receipts are held, and how many of these are pending
unfoldable pub report_counts : Meaning → ℕ → List ℕ
report_counts m pending = digest_member (codes "{\"config\":") (config_id_of m.config)
    ++ (number_member (codes ",\"receipts\":") (Some (length m.held))
    ++ number_member (codes ",\"pending\":") (Some pending))

unfoldable pub report_lists : (domains conflicts records : List (List ℕ)) → List ℕ
report_lists domains conflicts records = array_member (codes ",\"domains\":") domains
    ++ (array_member (codes ",\"conflicts\":") conflicts
    ++ (array_member (codes ",\"records\":") records ++ codes "}\n"))

-- The counts; what is accepted of each domain of the configuration, sorted; the conflicts of all
-- domains, and the records of distrust. An object, and a line feed.
pub record IsReportJson (m : Meaning) (text : List ℕ) : Type 0 where
  pub pending : ℕ
  pub is_pending : IsPendingCount m pending
  pub domains : List (List ℕ)
  pub are_domains : AreDomains m.config domains
  pub texts : List (List ℕ)
  pub each : AllZip (IsDomainJson m) domains texts
  pub conflicts : List ReportedConflict
  pub are_conflicts : AreAllConflicts m conflicts
  pub is : text ≡ report_counts m pending
      ++ report_lists texts (map conflict_json conflicts) (map held_record_json m.records)

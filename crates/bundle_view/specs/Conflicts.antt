-- Conflicts: accepted documents of a domain that contradict each other
use Rattle.std.specs.Prelude.{◌≡◌, ℕ, ◌≤◌, ◌↔◌, List, map, flat_map, length, Contains, Some}
use Rattle.std.specs.declared.cmp.Ordering.{Ordering}
use Rattle.std.specs.Ordering.{nat_cmp}
use Rattle.std.specs.List.Sorted.{IsStrictlySortedBy}
use Rattle.bundle_doc.specs.Bundle.{Bundle, doc_id_of}
use Rattle.bundle_doc.specs.declared.document.DocId.{DocId}
use Rattle.fed_config.specs.Configuration.{AreDomains}
use Rattle.receipt_core.specs.Acceptance.{Meaning, IsMember}
use Rattle.closure_core.specs.AcceptedList.{document_cmp, document_of}
use Rattle.bundle_view.specs.declared.conflict.ConflictKind.{ConflictKind}
use Rattle.bundle_view.specs.declared.conflict.ConflictKind.TheVariants.{Keys, HintOnly}
use Rattle.bundle_view.specs.declared.conflict.Conflict.{Conflict}

-- documents with one sequence number
pub record ConflictGroup : Type 0 where
  pub sequence : ℕ
  pub kind : ConflictKind
  pub documents : List Bundle

-- two of them differ in their authorities, or all have the same
pub record Differ (documents : List Bundle) : Type 0 where
  pub one : Bundle
  pub has_one : Contains documents one
  pub other : Bundle
  pub has_other : Contains documents other
  pub differ : one.authorities ≡ other.authorities → ⊥

abbrev pub Agree : List Bundle → Type 0
Agree documents = (d e : Bundle) → Contains documents d → Contains documents e
    → d.authorities ≡ e.authorities

abbrev pub IsOfKind : List Bundle → ConflictKind → Type 0
IsOfKind documents Keys = Differ documents
IsOfKind documents HintOnly = Agree documents

-- They are all documents with the property and the sequence number, each once, and two or more.
-- They are in their order, which for documents of one rank is that of their canonical texts.
pub record IsConflictGroup (P : Bundle → Type 0) (c : ConflictGroup) : Type 0 where
  pub rising : IsStrictlySortedBy document_cmp c.documents
  pub exactly : (d : Bundle) → Contains c.documents d ↔ (P d × (d.rank ≡ Some c.sequence))
  pub several : 2 ≤ length c.documents
  pub kind : IsOfKind c.documents c.kind

abbrev pub group_cmp : ConflictGroup → ConflictGroup → Ordering
group_cmp c d = nat_cmp c.sequence d.sequence

-- all of them, sorted by sequence number
pub record AreConflictGroups (P : Bundle → Type 0) (clashes : List ConflictGroup) : Type 0 where
  pub rising : IsStrictlySortedBy group_cmp clashes
  pub sound : (c : ConflictGroup) → Contains clashes c → IsConflictGroup P c
  pub complete : (c : ConflictGroup) → IsConflictGroup P c → Contains clashes c

-- all conflicts of a domain: those of its accepted documents
abbrev pub AreConflicts : Meaning → List ℕ → List ConflictGroup → Type 0
AreConflicts m domain clashes = AreConflictGroups (λ d. IsMember m (document_of domain d)) clashes

-- ---- as they are reported

-- a conflict by the ids of its documents
pub record ReportedConflict : Type 0 where
  pub domain : List ℕ
  pub sequence : ℕ
  pub kind : ConflictKind
  pub documents : List DocId

abbrev pub id_in : List ℕ → Bundle → DocId
id_in domain d = record { 0 = doc_id_of domain d }

abbrev pub reported_conflict : List ℕ → ConflictGroup → ReportedConflict
reported_conflict domain
    c = record {
      domain = domain;
      sequence = c.sequence;
      kind = c.kind;
      documents = map (id_in domain) c.documents;
    }

abbrev pub reported_by : Conflict → ReportedConflict
reported_by c = record {
  domain = c.domain;
  sequence = c.sequence;
  kind = c.kind;
  documents = c.documents.items;
}

-- the conflicts of one domain
pub record OfDomain : Type 0 where
  pub domain : List ℕ
  pub clashes : List ConflictGroup

abbrev pub report_all : List OfDomain → List ReportedConflict
report_all parts = flat_map (λ part. map (reported_conflict part.domain) part.clashes) parts

-- the conflicts of all domains of the configuration, sorted by domain and then by sequence number
pub record AreAllConflicts (m : Meaning) (conflicts : List ReportedConflict) : Type 0 where
  pub parts : List OfDomain
  pub domains : AreDomains m.config (map (λ part. part.domain) parts)
  pub each : (part : OfDomain) → Contains parts part → AreConflicts m part.domain part.clashes
  pub are : conflicts ≡ report_all parts

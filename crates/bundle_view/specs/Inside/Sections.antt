-- The report as far as it is made
use Rattle.std.specs.Prelude.{◌≡◌, ℕ, List, ◌++◌, map, Contains}
use Rattle.receipt_core.specs.Acceptance.{Meaning}
use Rattle.closure_core.specs.AcceptedList.{IsPendingCount}
use Rattle.bundle_view.specs.Report.{Section, IsSection, head_text, section_text, report_text}

-- the head was added
pub record HasReportHead (m : Meaning) (old new : List ℕ) : Type 0 where
  pub pending : ℕ
  pub is_pending : IsPendingCount m pending
  pub now : new ≡ old ++ head_text m pending

-- the section of the domain was added
pub record AddsSection (m : Meaning) (domain : List ℕ) (old new : List ℕ) : Type 0 where
  pub section : Section
  pub domain_is : section.domain ≡ domain
  pub is : IsSection m section
  pub now : new ≡ old ++ section_text m.records section

-- The head and the sections of these domains were made.
pub record HasSections (m : Meaning) (domains : List (List ℕ)) (text : List ℕ) : Type 0 where
  pub pending : ℕ
  pub is_pending : IsPendingCount m pending
  pub sections : List Section
  pub domains_are : map (λ s. s.domain) sections ≡ domains
  pub each : (s : Section) → Contains sections s → IsSection m s
  pub now : text ≡ report_text m pending sections

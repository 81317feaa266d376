-- Documents in their order, cut into groups of one rank
use Rattle.std.specs.Prelude.{◌≡◌, ℕ, ◌<◌, ◌≤◌, List, ◌++◌, map, length, take, drop, Contains}
use Rattle.std.specs.List.Sorted.{IsStrictlySortedBy}
use Rattle.bundle_doc.specs.Bundle.{Bundle}
use Rattle.closure_core.specs.AcceptedList.{document_cmp}
use Rattle.receipt_core.specs.Acceptance.{Meaning}
use Rattle.bundle_view.specs.Conflicts.{ConflictGroup, AreConflictGroups, AreConflicts, OfDomain}
use Rattle.bundle_view.specs.Conflicts.{report_all}
use Rattle.bundle_view.specs.Conflicts.{ReportedConflict, reported_conflict}

-- documents of one rank, in their order
pub record IsGroup (group : List Bundle) : Type 0 where
  pub rising : IsStrictlySortedBy document_cmp group
  pub some : 0 < length group
  pub alike : (d e : Bundle) → Contains group d → Contains group e → d.rank ≡ e.rank

-- this many at the front have one rank, and the next has another
pub record IsGroupLength (documents : List Bundle) (len : ℕ) : Type 0 where
  pub some : 0 < len
  pub within : len ≤ length documents
  pub alike : (d e : Bundle) → Contains (take len documents) d → Contains (take len documents) e
      → d.rank ≡ e.rank
  pub ended : (d e : Bundle) → Contains (take len documents) d
      → Contains (take 1 (drop len documents)) e → d.rank ≡ e.rank → ⊥

-- all conflicts among these documents were added
pub record AddsConflicts (domain : List ℕ) (documents : List Bundle)
    (old new : List ReportedConflict) : Type 0 where
  pub clashes : List ConflictGroup
  pub are : AreConflictGroups (Contains documents) clashes
  pub now : new ≡ old ++ map (reported_conflict domain) clashes

-- The conflicts of the first groups were added; with those of the other documents they are all.
pub record SoFar (domain : List ℕ) (documents : List Bundle) (start : ℕ)
    (old new : List ReportedConflict) : Type 0 where
  pub within : start ≤ length documents
  pub clashes : List ConflictGroup
  pub now : new ≡ old ++ map (reported_conflict domain) clashes
  pub all : (others : List ConflictGroup)
      → AreConflictGroups (Contains (drop start documents)) others
      → AreConflictGroups (Contains documents) (clashes ++ others)

-- All conflicts of these domains were found.
pub record AreFoundOf (m : Meaning) (domains : List (List ℕ))
    (found : List ReportedConflict) : Type 0 where
  pub parts : List OfDomain
  pub domains_are : map (λ part. part.domain) parts ≡ domains
  pub each : (part : OfDomain) → Contains parts part → AreConflicts m part.domain part.clashes
  pub now : found ≡ report_all parts

-- The current document of a domain
use Rattle.std.specs.Prelude.{◌≡◌, ℕ, List, Option, Some, None}
use Rattle.std.specs.declared.cmp.Ordering.TheVariants.{Less}
use Rattle.bundle_doc.specs.Bundle.{Bundle}
use Rattle.receipt_core.specs.Acceptance.{Meaning, IsMember}
use Rattle.closure_core.specs.AcceptedList.{document_cmp, document_of}

-- It is accepted, and no accepted document of the domain is greater by rank and then by canonical
-- text; an absent rank is below 0.
pub record IsGreatest (m : Meaning) (domain : List ℕ) (d : Bundle) : Type 0 where
  pub accepted : IsMember m (document_of domain d)
  pub greatest : (e : Bundle) → IsMember m (document_of domain e) → document_cmp d e ≡ Less → ⊥

-- the current document, or none if none of the domain is accepted
abbrev pub IsCurrent : Meaning → List ℕ → Option Bundle → Type 0
IsCurrent m domain None = (d : Bundle) → IsMember m (document_of domain d) → ⊥
IsCurrent m domain (Some d) = IsGreatest m domain d

-- If there was a current document there is one, and it is not lower.
abbrev pub IsNoLower : Option Bundle → Option Bundle → Type 0
IsNoLower None later = Unit {0}
IsNoLower (Some d) None = ⊥
IsNoLower (Some d) (Some e) = document_cmp e d ≡ Less → ⊥

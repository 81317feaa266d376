-- The canonical form of a document that is bytes.
use Rattle.std.specs.Prelude.{◌≡◌, ℕ, List}
use Rattle.spiffe_name.specs.TrustDomain.{IsDomainText}
use Rattle.bundle_doc.specs.Bundle.{Bundle, IsDocument}
use Rattle.bundle_doc.specs.Refusal.{RefusesBytes}
use Rattle.fedbundle.specs.Canon.{canon_text}
use Rattle.replica_c_calls.specs.CallErrors.{RefusesDomainBytes}
use Rattle.replica_c_calls.specs.declared.call_error.CallError.{CallError}
use Rattle.replica_c_calls.specs.declared.call_error.CallError.TheVariants.{Document, NoMemory}

-- The bytes are a document, and this is its text with its ids.
pub record WritesCanon (domain bytes text : List ℕ) : Type 0 where
  pub document : Bundle
  pub read : IsDocument bytes document
  pub is : text ≡ canon_text domain document

-- They are not a document, for this cause, or memory ran out.
abbrev pub RefusesCanon : List ℕ → CallError → Type 0
RefusesCanon bytes (Document e) = RefusesBytes bytes e
RefusesCanon bytes NoMemory = Unit {0}
RefusesCanon bytes _ = ⊥

-- That, in the domain that the first bytes name.
abbrev pub WritesCanonBytes : List ℕ → List ℕ → List ℕ → Type 0
WritesCanonBytes domain bytes text = IsDomainText domain × WritesCanon domain bytes text

abbrev pub RefusesCanonBytes : List ℕ → List ℕ → CallError → Type 0
RefusesCanonBytes domain bytes (Document e) = IsDomainText domain × RefusesBytes bytes e
RefusesCanonBytes domain bytes NoMemory = IsDomainText domain
RefusesCanonBytes domain bytes e = RefusesDomainBytes domain e

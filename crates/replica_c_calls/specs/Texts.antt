-- The texts that are written, each as a list of bytes.
use Rattle.std.specs.Prelude.{◌≡◌, ℕ, List, flat_map, Some, None, Bool}
use Rattle.std.specs.Prelude.{vec_capacity}
use Rattle.spiffe_name.specs.TrustDomain.{IsDomainText}
use Rattle.bundle_doc.specs.Bundle.{Bundle, IsDocument, canonical_text}
use Rattle.bundle_doc.specs.Refusal.{RefusesBytes}
use Rattle.receipt_core.specs.Acceptance.{Meaning, IsMember}
use Rattle.receipt_core.specs.Receipt.{Receipt, Pair}
use Rattle.closure_core.specs.AcceptedList.{document_of}
use Rattle.bundle_view.specs.Current.{IsCurrent}
use Rattle.bundle_view.specs.Explain.{IsShortest}
use Rattle.replica_core.specs.Session.{HaveMessage, give_of}
use Rattle.replica_core.specs.declared.error.SyncError.{SyncError}
use Rattle.replica_core.specs.declared.error.SyncError.TheVariants.{Truncated}
use Rattle.replica_texts.specs.FirstLines.{RefusesHaveLine}
use Rattle.replica_texts.specs.Messages.{give_text, receipt_text}
use Rattle.replica_texts.specs.Snapshots.{ended}
use Rattle.replica_texts.specs.SoleLines.{IsHaveLine}
use Rattle.replica_c_calls.specs.CallErrors.{RefusesDomainBytes}
use Rattle.replica_c_calls.specs.declared.growing_sink.GrowingSink.{GrowingSink}
use Rattle.replica_c_calls.specs.declared.call_error.CallError.{CallError}
use Rattle.replica_c_calls.specs.declared.call_error.CallError.TheVariants.{Document, Sync}
use Rattle.replica_c_calls.specs.declared.call_error.CallError.TheVariants.{NoMemory}

-- ---- the sink

abbrev pub gathered_text : GrowingSink → List ℕ
gathered_text sink = sink.text.items

abbrev pub has_overrun : GrowingSink → Bool
has_overrun sink = sink.failed

-- how many bytes it has memory for
abbrev pub gathered_room : GrowingSink → ℕ
gathered_room sink = vec_capacity sink.text

-- ---- current bundles

-- a document's canonical text as a line
abbrev pub bundle_line : Bundle → List ℕ
bundle_line b = ended (canonical_text b)

-- The bytes are a domain's name, and none is accepted of it.
abbrev pub HasNoCurrentBundle : Meaning → List ℕ → Type 0
HasNoCurrentBundle m domain = IsDomainText domain × IsCurrent m domain None

-- They are one, and this is the text of its current document.
pub record IsCurrentBundle (m : Meaning) (domain text : List ℕ) : Type 0 where
  pub form : IsDomainText domain
  pub document : Bundle
  pub current : IsCurrent m domain (Some document)
  pub is : text ≡ bundle_line document

-- ---- why one is accepted

-- The bytes are a document that is not accepted.
pub record IsNotAccepted (m : Meaning) (domain bytes : List ℕ) : Type 0 where
  pub form : IsDomainText domain
  pub document : Bundle
  pub read : IsDocument bytes document
  pub apart : IsMember m (document_of domain document) → ⊥

-- These are the lines of a shortest chain to it.
pub record ExplainsBy (m : Meaning) (p : Pair) (text : List ℕ) : Type 0 where
  pub chain : List Receipt
  pub shortest : IsShortest m p chain
  pub is : text ≡ flat_map receipt_text chain

-- They are one that is, and these are the lines of a shortest chain to it.
pub record HasChainText (m : Meaning) (domain bytes text : List ℕ) : Type 0 where
  pub form : IsDomainText domain
  pub document : Bundle
  pub read : IsDocument bytes document
  pub explains : ExplainsBy m (document_of domain document) text

-- They are not a domain's name, or not a document, for this cause; or memory ran out.
abbrev pub RefusesDocumentBytes : List ℕ → List ℕ → CallError → Type 0
RefusesDocumentBytes domain bytes (Document e) = IsDomainText domain × RefusesBytes bytes e
RefusesDocumentBytes domain bytes NoMemory = IsDomainText domain
RefusesDocumentBytes domain bytes e = RefusesDomainBytes domain e

-- ---- messages

-- The bytes are the line of a have, and this is the answer.
pub record AnswersBytes (m : Meaning) (bytes text : List ℕ) : Type 0 where
  pub have : HaveMessage
  pub line : List ℕ
  pub ends : bytes ≡ ended line
  pub is_line : IsHaveLine m.config line have
  pub is : text ≡ give_text (give_of m have)

-- They are a line, and no have's, for this cause.
pub record RefusesEndedHave (m : Meaning) (bytes : List ℕ) (e : SyncError) : Type 0 where
  pub line : List ℕ
  pub ends : bytes ≡ ended line
  pub cause : RefusesHaveLine (Some m.config) line e

abbrev pub RefusesHaveBytes : Meaning → List ℕ → CallError → Type 0
RefusesHaveBytes m bytes (Sync Truncated) = (line : List ℕ) → bytes ≡ ended line → ⊥
RefusesHaveBytes m bytes (Sync e) = RefusesEndedHave m bytes e
RefusesHaveBytes m bytes NoMemory = Unit {0}
RefusesHaveBytes m bytes _ = ⊥

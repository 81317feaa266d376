-- What vouches: a key of a document of a trust domain.
use Rattle.std.specs.Prelude.{ℕ, List}
use Rattle.jwk_set.specs.declared.authority.KeyId.{KeyId}
use Rattle.bundle_doc.specs.declared.document.DocId.{DocId}

-- a key of a document of a trust domain, by the document's id and the key's
pub record Triple : Type 0 where
  pub domain : List ℕ
  pub document : DocId
  pub key : KeyId

-- What a bundle document says, as one JSON object
use Rattle.std.specs.Prelude.{ℕ, List, [], ◌∷◌, ◌++◌, flat_map, codes, Option, Some, None}
use Rattle.jwk_set.specs.Element.{key_id_of}
use Rattle.jwk_set.specs.declared.authority.Authority.{Authority}
use Rattle.jwk_set.specs.declared.authority.KeyId.{KeyId}
use Rattle.bundle_doc.specs.Bundle.{Bundle, canonical_text, doc_id_of}
use Rattle.json_text.specs.JsonText.{array_member, digest_member, number_member}

-- the key id of an X.509 authority
abbrev pub key_texts_by : Option KeyId → List (List ℕ)
key_texts_by None = []
key_texts_by (Some key) = digest_member [] key.0 ∷ []

abbrev pub key_texts_of : Authority → List (List ℕ)
key_texts_of a = key_texts_by (key_id_of a)

-- that of each X.509 authority, in the order of the canonical text
abbrev pub key_texts : List Authority → List (List ℕ)
key_texts authorities = flat_map key_texts_of authorities

-- the id, and the numbers
unfoldable pub id_members : List ℕ → Bundle → List ℕ
id_members domain b = digest_member (codes "{\"document\":") (doc_id_of domain b)
    ++ (number_member (codes ",\"sequence\":") b.rank
    ++ number_member (codes ",\"refresh_hint\":") b.hint)

-- the canonical text, which is JSON itself
unfoldable pub bundle_member : Bundle → List ℕ
bundle_member b = codes ",\"bundle\":" ++ (canonical_text b ++ codes "}\n")

-- an object, and a line feed
abbrev pub document_json : List ℕ → Bundle → List ℕ
document_json domain b = id_members domain b
    ++ (array_member (codes ",\"keys\":") (key_texts b.authorities) ++ bundle_member b)

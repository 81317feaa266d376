-- Documents, and values that are not documents, tried on the definitions: a slip there does not
-- check.
use Rattle.std.proofs.Common.{◌≡◌, ◌*◌, [], ◌∷◌, inl, inr, Some, None, codes, refl}
use Rattle.std.specs.Fmt.{digits}
use Rattle.json.specs.Print.{escape_byte}
use Rattle.base64.proofs.OnLiterals.{base64_on_literals}
use Rattle.std.specs.List.Sorted.{IsStrictlySortedBy}
use Rattle.serde_json.specs.Data.{Data, null, number, string, unsigned, array, object, no_items, item, no_members, member}
use Rattle.jwk_set.specs.Element.{IsElement}
use Rattle.jwk_set.specs.declared.authority.PublicKey.TheVariants.{Rsa}
use Rattle.jwk_set.specs.declared.authority.Authority.{Authority}
use Rattle.jwk_set.specs.declared.authority.Authority.TheVariants.{X509, Jwt}
use Rattle.bundle_doc.specs.Bundle.{Bundle, HasNumberMember, Means, canonical_text, document_limit}
use Rattle.bundle_doc.specs.Refusal.{HasSomeNumber, RefusesTree}
use Rattle.bundle_doc.specs.declared.error.DocError.TheVariants.{NotObject, NoKeys, BadSequence}

-- a document has 1 MiB at most
pub limit : document_limit ≡ 1024 * 1024
limit = refl

-- ---- canonical texts

-- the bundle that says nothing
abbrev nothing : Bundle
nothing = record { authorities = []; rank = None; hint = None }

-- its canonical text has an empty array and no numbers
pub text_of_nothing : canonical_text nothing ≡ codes "{\"keys\":[]}"
unfolding escape_byte
text_of_nothing = refl

-- a bundle with two authorities, a sequence number and a refresh hint
abbrev abc : Bundle
abc = record {
  authorities =
      X509 (Rsa (codes "AQAB") (codes "Ag")) (codes "abc") ∷ Jwt (codes "k") (Rsa (codes "AQ") (codes "Aw")) ∷ [];
  rank =
      Some 7;
  hint = Some 600;
}

-- its canonical text has the members in the order of their names, with no space
pub text_of_abc : canonical_text abc
    ≡ codes "{\"keys\":[{\"e\":\"Ag\",\"kty\":\"RSA\",\"n\":\"AQAB\",\"use\":\"x509-svid\",\"x5c\":[\"YWJj\"]},{\"e\":\"Aw\",\"kid\":\"k\",\"kty\":\"RSA\",\"n\":\"AQ\",\"use\":\"jwt-svid\"}],\"spiffe_refresh_hint\":600,\"spiffe_sequence\":7}"
unfolding base64_on_literals escape_byte digits
text_of_abc = refl

-- ---- values

-- an object with these elements and this sequence number
abbrev document : Data → Data → Data
document keys sequence = object (member (codes "keys") keys (member (codes "note") null (member (codes "spiffe_sequence") sequence no_members)))

-- a number, as an element and as a sequence number
abbrev seven : Data
seven = number (unsigned 7)

-- a number says no authority as an element
says_nothing : (a : Authority) → IsElement seven a → ⊥
says_nothing (X509 key der) h = let role = h.0 in cc
says_nothing (Jwt kid key) h = let role = h.0 in cc

-- an element that says nothing is passed over, and `null` is not a number
pub means_nothing : Means (document (array (item seven no_items)) null) nothing
unfolding IsStrictlySortedBy
means_nothing = record {
  keys = item seven no_items;
  has_keys = refl;
  authorities = λ a. (λ h. absurd h, λ h. elim h [ inl is ↦ absurd (says_nothing a is) | inr none ↦ absurd none ]);
  rank = inr refl;
  hint = inl refl;
  is = record { rising = tt; forms = tt; rank = tt; hint = tt };
}

-- a whole number is a sequence number
pub sequence : HasNumberMember (document (array no_items) seven) (codes "spiffe_sequence") (Some 7)
sequence = refl

-- ---- refusals

-- an array is not a document
pub no_object : RefusesTree (array no_items) NotObject
no_object = refl

-- an object without `keys` is not a document
pub no_keys : RefusesTree (object no_members) NoKeys
no_keys = (refl, λ h. let keys = h.1 in cc)

-- `keys` must be an array: `null` counts as none
pub keys_of_null : RefusesTree (document null seven) NoKeys
keys_of_null = (refl, λ h. let keys = h.1 in cc)

-- a text is not a number, and is not absent
no_text : HasSomeNumber (document (array no_items) (string (codes "1"))) (codes "spiffe_sequence") → ⊥
no_text (None, inl h) = cc
no_text (None, inr h) = cc
no_text (Some n, h) = cc

-- a text as the sequence number is refused
pub text_as_sequence : RefusesTree (document (array no_items) (string (codes "1"))) BadSequence
text_as_sequence = ((no_items, refl), no_text)

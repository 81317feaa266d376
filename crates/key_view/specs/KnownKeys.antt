-- The different keys of a domain's documents, in the order in which they are met
use Rattle.std.specs.Prelude.{ℕ, Bool, cond, List, [], ◌∷◌, ◌++◌}
use Rattle.std.specs.Str.{bytes_eq}
use Rattle.std.specs.List.{list_any}
use Rattle.sha2.specs.Sha256.{sha256}
use Rattle.jwk_set.specs.declared.authority.Authority.{Authority}
use Rattle.jwk_set.specs.declared.authority.Authority.TheVariants.{X509, Jwt}
use Rattle.jwk_set.specs.declared.authority.KeyId.{KeyId}
use Rattle.bundle_doc.specs.Bundle.{Bundle}
use Rattle.receipt_core.specs.Receipt.{Receipt}
use Rattle.key_view.specs.declared.met_keys.KnownKey.{KnownKey}

abbrev pub is_one_key : KeyId → KeyId → Bool
is_one_key one other = bytes_eq one.0 other.0

abbrev pub knows : List KnownKey → KeyId → Bool
knows known key = list_any (λ own. is_one_key own.key key) known

-- the id of a certificate's key
abbrev pub id_of_der : List ℕ → KeyId
id_of_der der = record { 0 = sha256 der }

-- a certificate's key is added if it is not known yet
abbrev pub with_der : List KnownKey → List ℕ → List KnownKey
with_der known der = cond (knows known (id_of_der der)) known
    (known ++ record { key = id_of_der der; der = der } ∷ [])

abbrev pub with_listed : List KnownKey → Authority → List KnownKey
with_listed known (X509 key der) = with_der known der
with_listed known (Jwt kid key) = known

abbrev pub with_authorities : List KnownKey → List Authority → List KnownKey
with_authorities known [] = known
with_authorities known (a ∷ others) = with_authorities (with_listed known a) others

abbrev pub with_documents : List KnownKey → List Bundle → List KnownKey
with_documents known [] = known
with_documents known (d ∷ others) = with_documents (with_authorities known d.authorities) others

abbrev pub keys_of_documents : List Bundle → List KnownKey
keys_of_documents documents = with_documents [] documents

-- a receipt's document counts if it is one of the domain
abbrev pub with_keys_of_receipt : List ℕ → List KnownKey → Receipt → List KnownKey
with_keys_of_receipt domain known r =
    cond (bytes_eq r.domain domain) (with_authorities known r.document.authorities) known

abbrev pub with_keys_of_receipts : List ℕ → List KnownKey → List Receipt → List KnownKey
with_keys_of_receipts domain known [] = known
with_keys_of_receipts domain known (r ∷ others) = with_keys_of_receipts domain
    (with_keys_of_receipt domain known r) others

-- the known keys, by the held receipts, the domain and its accepted documents
abbrev pub known_keys : List Receipt → List ℕ → List Bundle → List KnownKey
known_keys held domain accepted = with_keys_of_receipts domain (keys_of_documents accepted) held

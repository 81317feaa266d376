-- Elements of RFC 7517 and RFC 8037, and texts of RFC 7515 and RFC 4648, said of the definitions: a slip in one of
-- these does not check.
use Rattle.std.proofs.Common.{◌≡◌, ℕ, zero, suc, ◌<◌, ◌%◌, List, [], ◌∷◌, true, false, None, codes, length, refl, lit<}
use Rattle.std.specs.List.{list_all}
use Rattle.std.proofs.lemmas.List.Sums.{AllPass-from_list_all}
use Rattle.json.proofs.Printed.Utf8.{IsUtf8-are_ascii}
use Rattle.base64.specs.Engines.{standard}
use Rattle.base64.specs.GeneralPurpose.{IsBytes, encode_of}
use Rattle.base64.proofs.OnLiterals.{base64_on_literals}
use Rattle.json.specs.Print.{escape_byte}
use Rattle.serde_json.specs.Data.{Data, string, array, object, no_items, item, Members, no_members, member}
use Rattle.jwk_set.specs.Forms.{IsUrlText, IsNonEmptyText, IsCertificate, is_url_symbol}
use Rattle.jwk_set.specs.Element.{IsElement, key_id_of, element_text}
use Rattle.jwk_set.specs.declared.authority.PublicKey.TheVariants.{Rsa, Ec}
use Rattle.jwk_set.specs.declared.authority.Authority.{Authority}
use Rattle.jwk_set.specs.declared.authority.Authority.TheVariants.{X509, Jwt}

-- ---- forms

-- a url text, from tests that compute
url_text : (text : List ℕ) → (text ≡ [] → ⊥) → list_all is_url_symbol text ≡ true → (length text % 4 ≡ 1 → ⊥) → IsUrlText text
url_text text some all whole = record { some = some; symbols = AllPass-from_list_all is_url_symbol text all; whole = whole }

-- RFC 7517, appendix A.1: the exponent of its RSA key is a url text
pub exponent : IsUrlText (codes "AQAB")
exponent = url_text _ (λ e. cc) refl (λ e. cc)

-- a url text may have the first and the last letter and digit, the hyphen and the low line
pub each_symbol : IsUrlText (codes "AZaz09-_")
each_symbol = url_text _ (λ e. cc) refl (λ e. cc)

-- the padding sign is not a symbol
pub no_padding : is_url_symbol 61 ≡ false
no_padding = refl

-- the plus sign and the slash of the other base64 alphabet are not symbols
pub not_the_other_alphabet : (is_url_symbol 43 ≡ false) × (is_url_symbol 47 ≡ false)
not_the_other_alphabet = (refl, refl)

-- five symbols leave one over and are not a url text
pub no_symbol_over : IsUrlText (codes "AQABA") → ⊥
no_symbol_over h = h.whole refl

-- an empty text is not a url text
pub nothing : IsUrlText (codes "") → ⊥
nothing h = h.some refl

-- the name of a curve is a text that says something
curve : IsNonEmptyText (codes "P-256")
curve = record { some = λ e. cc; utf8 = IsUtf8-are_ascii (codes "P-256") refl }

-- ---- elements

-- members with these texts, in front of others
abbrev in_front : List (List ℕ × List ℕ) → Members → Members
in_front [] others = others
in_front (t ∷ texts) others = member t.0 (string t.1) (in_front texts others)

-- an element with these texts and other members
abbrev element : List (List ℕ × List ℕ) → Members → Data
element texts others = object (in_front texts others)

-- the member `x5c` with one certificate
abbrev chain : List ℕ → Members
chain base64 = member (codes "x5c") (array (item (string base64) no_items)) no_members

-- each of no bytes is below 256
nil_bytes : IsBytes []
nil_bytes i = lit< tt

-- bytes with one more below 256 in front are below 256
cons_bytes : (b : ℕ) (rest : List ℕ) → b < 256 → IsBytes rest → IsBytes (b ∷ rest)
cons_bytes b rest h hs zero = h
cons_bytes b rest h hs (suc i) = hs i

-- three bytes are a certificate, which is opaque
abc : IsCertificate (codes "abc")
abc = record { some = lit< tt; bytes = cons_bytes 97 (98 ∷ 99 ∷ []) (lit< tt) (cons_bytes 98 (99 ∷ []) (lit< tt) (cons_bytes 99 [] (lit< tt) nil_bytes)) }

-- RFC 4648, section 4: three octets are four symbols
pub base64_of_abc : encode_of standard (codes "abc") ≡ codes "YWJj"
unfolding base64_on_literals
base64_of_abc = refl

-- an RSA key with a certificate, and a member that counts for nothing
abbrev rsa_element : Data
rsa_element =
    element ((codes "kty", codes "RSA") ∷ (codes "alg", codes "RS256") ∷ (codes "n", codes "AQAB") ∷
    (codes "use", codes "x509-svid") ∷ (codes "e", codes "AQAB") ∷ []) (chain (codes "YWJj"))

-- that element says an X.509 authority with its key and its certificate
pub rsa_certificate : IsElement rsa_element (X509 (Rsa (codes "AQAB") (codes "AQAB")) (codes "abc"))
unfolding base64_on_literals
rsa_certificate = (refl, (refl, refl, refl), refl, ((exponent, exponent), abc))

-- RFC 7517, appendix A.1: the members of its elliptic curve key, as a JWT authority
abbrev ec_texts : List ℕ → List (List ℕ × List ℕ)
ec_texts kty =
    (codes "kty", kty) ∷ (codes "crv", codes "P-256") ∷ (codes "x", codes "MKBCTNIcKUSDii11ySs3526iDZ8AiTo7Tu6KPAqv7D4")
    ∷ (codes "y", codes "4Etl6SRW2YiLUrN5vfvVHuhp7x8PxltmWWlbbM4IFyM") ∷ (codes "use", codes "jwt-svid") ∷ []

-- with a key id, these members say a JWT authority
pub ec_key : IsElement (element ((codes "kid", codes "1") ∷ ec_texts (codes "EC")) no_members)
    (Jwt (codes "1") (Ec (codes "P-256") (codes "MKBCTNIcKUSDii11ySs3526iDZ8AiTo7Tu6KPAqv7D4") (codes "4Etl6SRW2YiLUrN5vfvVHuhp7x8PxltmWWlbbM4IFyM")))
ec_key = (
  refl,
  (refl, refl, refl, refl),
  refl,
  (
    record { some = λ e. cc; utf8 = IsUtf8-are_ascii (codes "1") refl },
    (curve, url_text _ (λ e. cc) refl (λ e. cc), url_text _ (λ e. cc) refl (λ e. cc)),
  ),
)

-- ---- elements that say nothing

-- RFC 8037, appendix A.2: a key of another type
abbrev okp_element : Data
okp_element =
    element ((codes "kty", codes "OKP") ∷ (codes "crv", codes "Ed25519") ∷
    (codes "x", codes "11qYAYKxCrfVS_7TyWQHOg7hcvPapiMlrwIaaPcHURo") ∷ (codes "use", codes "x509-svid") ∷ [])
    (chain (codes "YWJj"))

-- that element says no authority
pub another_type : (a : Authority) → IsElement okp_element a → ⊥
another_type (X509 (Rsa n e) der) h = let kty = h.1.0 in cc
another_type (X509 (Ec crv x y) der) h = let kty = h.1.0 in cc
another_type (Jwt kid (Rsa n e)) h = let kty = h.1.0 in cc
another_type (Jwt kid (Ec crv x y)) h = let kty = h.1.0 in cc

-- without a key id, these members say no authority
pub no_key_id : (a : Authority) → IsElement (element (ec_texts (codes "EC")) no_members) a → ⊥
no_key_id (X509 key der) h = let role = h.0 in cc
no_key_id (Jwt kid key) h = let named = h.2 in cc

-- an element with two certificates says no authority
pub two_certificates : (a : Authority)
    → IsElement (element ((codes "use", codes "x509-svid") ∷ [])
    (member (codes "x5c") (array (item (string (codes "YWJj")) (item (string (codes "YWJj")) no_items)))
    no_members)) a → ⊥
two_certificates (X509 key der) h = let certificate = h.2 in cc
two_certificates (Jwt kid key) h = let role = h.0 in cc

-- a text says no authority
pub no_object : (a : Authority) → IsElement (string (codes "x509-svid")) a → ⊥
no_object (X509 key der) h = let role = h.0 in cc
no_object (Jwt kid key) h = let role = h.0 in cc

-- ---- what is written

-- a JWT authority has no key id
pub jwt_has_no_key_id : key_id_of (Jwt (codes "k") (Rsa (codes "AQAB") (codes "AQAB"))) ≡ None
jwt_has_no_key_id = refl

-- the element of an X.509 authority has its members in the order of their names
pub text_of_rsa : element_text (X509 (Rsa (codes "AQAB") (codes "Ag")) (codes "abc"))
    ≡ codes "{\"e\":\"Ag\",\"kty\":\"RSA\",\"n\":\"AQAB\",\"use\":\"x509-svid\",\"x5c\":[\"YWJj\"]}"
unfolding base64_on_literals escape_byte
text_of_rsa = refl

-- the element of a JWT authority too, and a quotation mark in a text is escaped
pub text_of_ec : element_text
    (Jwt (codes "k\"") (Ec (codes "P-256") (codes "AQ") (codes "Ag"))) ≡ codes "{\"crv\":\"P-256\",\"kid\":\"k\\\"\",\"kty\":\"EC\",\"use\":\"jwt-svid\",\"x\":\"AQ\",\"y\":\"Ag\"}"
unfolding escape_byte
text_of_ec = refl

-- What an element of a JWK Set says (RFC 7517, RFC 7518, SPIFFE Trust Domain and Bundle).
use Rattle.std.specs.Prelude.{◌≡◌, ◌⊎◌, ℕ, List, codes, Option, Some, None}
use Rattle.base64.specs.Engines.{standard}
use Rattle.base64.specs.GeneralPurpose.{encode_of}
use Rattle.serde_json.specs.Data.{Data, string, array, object, no_items, item, Members, no_members}
use Rattle.serde_json.specs.Data.{put}
use Rattle.serde_json.specs.Find.{get}
use Rattle.serde_json.specs.Written.{compact_text}
use Rattle.sha2.specs.Sha256.{sha256}
use Rattle.jwk_set.specs.Forms.{IsUrlText, IsNonEmptyText, IsCertificate}
use Rattle.jwk_set.specs.declared.authority.PublicKey.{PublicKey}
use Rattle.jwk_set.specs.declared.authority.PublicKey.TheVariants.{Rsa, Ec}
use Rattle.jwk_set.specs.declared.authority.Authority.{Authority}
use Rattle.jwk_set.specs.declared.authority.Authority.TheVariants.{X509, Jwt}
use Rattle.jwk_set.specs.declared.authority.KeyId.{KeyId}

-- the element has this text as this member
abbrev pub HasText : Data → List ℕ → List ℕ → Type 0
HasText element name text = get name element ≡ Some (string text)

-- `x5c` is an array of exactly one text, the base64 of the certificate (RFC 7517, section 4.7; RFC
-- 4648, section 4)
abbrev pub HasCertificate : Data → List ℕ → Type 0
HasCertificate element der = get (codes "x5c") element
    ≡ Some (array (item (string (encode_of standard der)) no_items))

-- the key's members are in their forms (RFC 7518, sections 6.2.1 and 6.3.1)
abbrev pub IsKey : PublicKey → Type 0
IsKey (Rsa n e) = IsUrlText n × IsUrlText e
IsKey (Ec crv x y) = IsNonEmptyText crv × IsUrlText x × IsUrlText y

-- the element has the members of the key (RFC 7517, section 4.1)
abbrev pub HasKey : Data → PublicKey → Type 0
HasKey element (Rsa n e) = HasText element (codes "kty") (codes "RSA")
    × HasText element (codes "n") n × HasText element (codes "e") e
HasKey element (Ec crv x y) = HasText element (codes "kty") (codes "EC")
    × HasText element (codes "crv") crv × HasText element (codes "x") x
    × HasText element (codes "y") y

-- each member of the authority is in its form
abbrev pub IsAuthority : Authority → Type 0
IsAuthority (X509 key der) = IsKey key × IsCertificate der
IsAuthority (Jwt kid key) = IsNonEmptyText kid × IsKey key

-- The element says this authority. Its role is the member `use` (RFC 7517, section 4.2, with the
-- values of SPIFFE Trust Domain and Bundle, section 4.2.2); all members that are not named here
-- count for nothing.
abbrev pub IsElement : Data → Authority → Type 0
IsElement element (X509 key der) = HasText element (codes "use") (codes "x509-svid")
    × HasKey element key × HasCertificate element der × IsAuthority (X509 key der)
IsElement element (Jwt kid key) = HasText element (codes "use") (codes "jwt-svid")
    × HasKey element key × HasText element (codes "kid") kid × IsAuthority (Jwt kid key)

-- the element has one of the two types of key, and one of the two roles
abbrev pub HasKeyType : Data → Type 0
HasKeyType element = HasText element (codes "kty") (codes "RSA")
    ⊎ HasText element (codes "kty") (codes "EC")

pub record HasKind (element : Data) : Type 0 where
  pub role : HasText element (codes "use") (codes "x509-svid")
      ⊎ HasText element (codes "use") (codes "jwt-svid")
  pub key_type : HasKeyType element

-- the SHA-256 of an X.509 authority's certificate
abbrev pub key_id_of : Authority → Option KeyId
key_id_of (X509 key der) = Some (record { 0 = sha256 der })
key_id_of (Jwt kid key) = None

-- ---- the element that is written

-- what a key and an authority put into an object
abbrev pub with_key : PublicKey → Members → Members
with_key (Rsa n e) ms = put (codes "e") (string e)
    (put (codes "n") (string n) (put (codes "kty") (string (codes "RSA")) ms))
with_key (Ec crv x y) ms = put (codes "y") (string y)
    (put (codes "x") (string x)
    (put (codes "crv") (string crv) (put (codes "kty") (string (codes "EC")) ms)))

abbrev pub with_authority : Authority → Members → Members
with_authority (X509 key der) ms = put (codes "x5c")
    (array (item (string (encode_of standard der)) no_items))
    (put (codes "use") (string (codes "x509-svid")) (with_key key ms))
with_authority (Jwt kid key) ms = put (codes "kid") (string kid)
    (put (codes "use") (string (codes "jwt-svid")) (with_key key ms))

-- the element with these members and no other; an object keeps its names in the order of their
-- bytes
abbrev pub tree_of : Authority → Data
tree_of a = object (with_authority a no_members)

-- its text, with no space
abbrev pub element_text : Authority → List ℕ
element_text a = compact_text (tree_of a)

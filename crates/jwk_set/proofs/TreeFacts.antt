-- The element that is written for an authority, and its text.
use Rattle.std.proofs.Common.{◌≡◌, ℕ, List, refl, append_assoc}
use Rattle.base64.specs.Engines.{standard}
use Rattle.base64.specs.GeneralPurpose.{encode_of}
use Rattle.json.specs.Print.{escape, escape_byte}
use Rattle.jwk_set.specs.Element.{IsElement, IsAuthority, tree_of, element_text}
use Rattle.jwk_set.specs.Forms.{IsCertificate, IsUrlText}
use Rattle.jwk_set.specs.Written.{jwt_ec_text, jwt_rsa_text, x509_ec_text, x509_rsa_text}
use Rattle.jwk_set.specs.declared.authority.PublicKey.TheVariants.{Rsa, Ec}
use Rattle.jwk_set.specs.declared.authority.Authority.{Authority}
use Rattle.jwk_set.specs.declared.authority.Authority.TheVariants.{X509, Jwt}
use Rattle.jwk_set.proofs.EscapeFacts.{escape_base64, escape_url}

-- the element of an authority says that authority, as `laws::elements` says
pub IsElement-tree_of : (a : Authority) → IsAuthority a → IsElement (tree_of a) a
IsElement-tree_of (X509 (Rsa n e) der) h = (refl, (refl, refl, refl), refl, h)
IsElement-tree_of (X509 (Ec crv x y) der) h = (refl, (refl, refl, refl, refl), refl, h)
IsElement-tree_of (Jwt kid (Rsa n e)) h = (refl, (refl, refl, refl), refl, h)
IsElement-tree_of (Jwt kid (Ec crv x y)) h = (refl, (refl, refl, refl, refl), refl, h)

-- ---- its text

-- the parts that are written, if the texts between quotation marks need no escape
rsa_parts : (n e der : List ℕ) → escape n ≡ n → escape e ≡ e → escape (encode_of standard der) ≡ encode_of standard der
    → x509_rsa_text n e der ≡ element_text (X509 (Rsa n e) der)
unfolding escape_byte
rsa_parts n e der p q r = simp (p, q, r, append_assoc)

ec_parts : (crv x y der : List ℕ) → escape x ≡ x → escape y ≡ y → escape (encode_of standard der) ≡ encode_of standard der
    → x509_ec_text crv x y der ≡ element_text (X509 (Ec crv x y) der)
unfolding escape_byte
ec_parts crv x y der p q r = simp (p, q, r, append_assoc)

jwt_rsa_parts : (kid n e : List ℕ) → escape n ≡ n → escape e ≡ e → jwt_rsa_text kid n e ≡ element_text (Jwt kid (Rsa n e))
unfolding escape_byte
jwt_rsa_parts kid n e p q = simp (p, q, append_assoc)

jwt_ec_parts : (kid crv x y : List ℕ) → escape x ≡ x → escape y ≡ y → jwt_ec_text kid crv x y ≡ element_text (Jwt kid (Ec crv x y))
unfolding escape_byte
jwt_ec_parts kid crv x y p q = simp (p, q, append_assoc)

-- and so of members in their forms
pub x509_rsa-written : (n e der : List ℕ) → IsUrlText n → IsUrlText e → IsCertificate der → x509_rsa_text n e der ≡ element_text (X509 (Rsa n e) der)
x509_rsa-written n e der p q r = rsa_parts n e der (escape_url n p) (escape_url e q) (escape_base64 der r)

pub x509_ec-written : (crv x y der : List ℕ) → IsUrlText x → IsUrlText y → IsCertificate der → x509_ec_text crv x y der ≡ element_text (X509 (Ec crv x y) der)
x509_ec-written crv x y der p q r = ec_parts crv x y der (escape_url x p) (escape_url y q) (escape_base64 der r)

pub jwt_rsa-written : (kid n e : List ℕ) → IsUrlText n → IsUrlText e → jwt_rsa_text kid n e ≡ element_text (Jwt kid (Rsa n e))
jwt_rsa-written kid n e p q = jwt_rsa_parts kid n e (escape_url n p) (escape_url e q)

pub jwt_ec-written : (kid crv x y : List ℕ) → IsUrlText x → IsUrlText y → jwt_ec_text kid crv x y ≡ element_text (Jwt kid (Ec crv x y))
jwt_ec-written kid crv x y p q = jwt_ec_parts kid crv x y (escape_url x p) (escape_url y q)

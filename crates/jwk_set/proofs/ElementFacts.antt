-- An element says at most one authority, and what is written for an authority is plain.
use Rattle.std.proofs.Common.{◌≡◌, ℕ, ◌<◌, ◌≤◌, List, true, codes, refl, ap, ap₂, arith}
use Rattle.std.specs.Str.{IsUtf8}
use Rattle.std.proofs.lemmas.Str.{IsUtf8-from_ascii}
use Rattle.base64.specs.Engines.{standard}
use Rattle.base64.specs.GeneralPurpose.{IsBytes, decode_of, encode_of}
use Rattle.base64.proofs.EngineFacts.{decode_of-encode_of, IsAscii-encode_of}
use Rattle.serde_json.specs.Data.{Data, depth}
use Rattle.json.proofs.Printed.Utf8.{are_ascii, IsUtf8-are_ascii}
use Rattle.std.proofs.lemmas.Str.Ascii.{IsAscii-from_all}
use Rattle.std.proofs.lemmas.Bool.Decides.{nat_tests}
use Rattle.jwk_set.specs.Forms.{IsUrlText, is_url_symbol}
use Rattle.jwk_set.specs.Element.{HasText, HasKey, HasCertificate, IsElement, IsAuthority, tree_of}
use Rattle.jwk_set.specs.Json.{IsPlain}
use Rattle.jwk_set.specs.declared.authority.PublicKey.{PublicKey}
use Rattle.jwk_set.specs.declared.authority.PublicKey.TheVariants.{Rsa, Ec}
use Rattle.jwk_set.specs.declared.authority.Authority.{Authority}
use Rattle.jwk_set.specs.declared.authority.Authority.TheVariants.{X509, Jwt}

-- an element has one text at most under a name
one_text : (element : Data) (name s t : List ℕ) → HasText element name s → HasText element name t → s ≡ t
one_text element name s t p q = cc

-- the two types of key have different names
apart : codes "RSA" ≡ codes "EC" → ⊥
apart same = cc

-- an element has one public key at most
one_key : (element : Data) (j k : PublicKey) → HasKey element j → HasKey element k → j ≡ k
one_key element (Rsa n e) (Rsa m f) p q = ap₂ Rsa (one_text element (codes "n") n m p.1 q.1) (one_text element (codes "e") e f p.2 q.2)
one_key element (Rsa n e) (Ec crv x y) p q = absurd (apart (one_text element (codes "kty") (codes "RSA") (codes "EC") p.0 q.0))
one_key element (Ec crv x y) (Rsa n e) p q = absurd (apart (one_text element (codes "kty") (codes "RSA") (codes "EC") q.0 p.0))
one_key element (Ec crv x y) (Ec curve v w) p q =
    let curves : crv ≡ curve = one_text element (codes "crv") crv curve p.1 q.1 in
    let firsts : x ≡ v = one_text element (codes "x") x v p.2 q.2 in
    let seconds : y ≡ w = one_text element (codes "y") y w p.3 q.3 in
    cc

-- an element has one certificate at most, since base64 decodes to the bytes that it encodes
one_certificate : (element : Data) (s t : List ℕ) → HasCertificate element s → HasCertificate element t → IsBytes s → IsBytes t → s ≡ t
one_certificate element s t p q hs ht =
    let same : encode_of standard s ≡ encode_of standard t = cc in
    let decoded : decode_of standard (encode_of standard s) ≡ decode_of standard (encode_of standard t) = ap (decode_of standard) same in
    let first = decode_of-encode_of standard s refl hs in
    let second = decode_of-encode_of standard t refl ht in
    cc

-- the two roles have different names
roles : codes "x509-svid" ≡ codes "jwt-svid" → ⊥
roles same = cc

-- an element says one authority at most, as `laws::elements` says
pub one_authority : (element : Data) (a b : Authority) → IsElement element a → IsElement element b → a ≡ b
one_authority element (X509 key der) (X509 other cert) p q =
    ap₂ X509 (one_key element key other p.1 q.1) (one_certificate element der cert p.2 q.2 p.3.1.bytes q.3.1.bytes)
one_authority element (X509 key der) (Jwt kid other) p q = absurd (roles (one_text element (codes "use") (codes "x509-svid") (codes "jwt-svid") p.0 q.0))
one_authority element (Jwt kid key) (X509 other der) p q = absurd (roles (one_text element (codes "use") (codes "x509-svid") (codes "jwt-svid") q.0 p.0))
one_authority element (Jwt kid key) (Jwt name other) p q = ap₂ Jwt (one_text element (codes "kid") kid name p.2 q.2) (one_key element key other p.1 q.1)

-- a symbol of a url text is ASCII
small : (b : ℕ) → is_url_symbol b ≡ true → b < 128
small b h = grind (arith, nat_tests)

-- a url text is UTF-8, as a string of a plain value is
url_text : (t : List ℕ) → IsUrlText t → IsUtf8 t
url_text t h = IsUtf8-from_ascii t (IsAscii-from_all t (λ k d below. small _ (h.symbols k d below)))

-- the base64 of a certificate is UTF-8
base64_text : (der : List ℕ) → IsUtf8 (encode_of standard der)
base64_text der = IsUtf8-from_ascii _ (IsAscii-encode_of standard der)

-- a text whose bytes pass the test for ASCII is UTF-8: for the names and values that are written
-- out
ascii : (t : List ℕ) → are_ascii t ≡ true → IsUtf8 t
ascii = IsUtf8-are_ascii

-- the element of an authority is a plain value, so its text is read back as it
pub IsPlain-tree_of : (a : Authority) → IsAuthority a → IsPlain (tree_of a)
IsPlain-tree_of (X509 (Rsa n e) der) h = (
  ascii (codes "e") refl,
  url_text e h.0.1,
  (refl, (refl, (refl, (refl, tt)))),
  (
    ascii (codes "kty") refl,
    ascii (codes "RSA") refl,
    (refl, (refl, (refl, tt))),
    (
      ascii (codes "n") refl,
      url_text n h.0.0,
      (refl, (refl, tt)),
      (
        ascii (codes "use") refl,
        ascii (codes "x509-svid") refl,
        (refl, tt),
        (
          ascii (codes "x5c") refl,
          (base64_text der, tt),
          tt,
          tt,
        ),
      ),
    ),
  ),
)
IsPlain-tree_of (X509 (Ec crv x y) der) h = (
  ascii (codes "crv") refl,
  h.0.0.utf8,
  (refl, (refl, (refl, (refl, (refl, tt))))),
  (
    ascii (codes "kty") refl,
    ascii (codes "EC") refl,
    (refl, (refl, (refl, (refl, tt)))),
    (
      ascii (codes "use") refl,
      ascii (codes "x509-svid") refl,
      (refl, (refl, (refl, tt))),
      (
        ascii (codes "x") refl,
        url_text x h.0.1,
        (refl, (refl, tt)),
        (
          ascii (codes "x5c") refl,
          (base64_text der, tt),
          (refl, tt),
          (
            ascii (codes "y") refl,
            url_text y h.0.2,
            tt,
            tt,
          ),
        ),
      ),
    ),
  ),
)
IsPlain-tree_of (Jwt kid (Rsa n e)) h = (
  ascii (codes "e") refl,
  url_text e h.1.1,
  (refl, (refl, (refl, (refl, tt)))),
  (
    ascii (codes "kid") refl,
    h.0.utf8,
    (refl, (refl, (refl, tt))),
    (
      ascii (codes "kty") refl,
      ascii (codes "RSA") refl,
      (refl, (refl, tt)),
      (
        ascii (codes "n") refl,
        url_text n h.1.0,
        (refl, tt),
        (
          ascii (codes "use") refl,
          ascii (codes "jwt-svid") refl,
          tt,
          tt,
        ),
      ),
    ),
  ),
)
IsPlain-tree_of (Jwt kid (Ec crv x y)) h = (
  ascii (codes "crv") refl,
  h.1.0.utf8,
  (refl, (refl, (refl, (refl, (refl, tt))))),
  (
    ascii (codes "kid") refl,
    h.0.utf8,
    (refl, (refl, (refl, (refl, tt)))),
    (
      ascii (codes "kty") refl,
      ascii (codes "EC") refl,
      (refl, (refl, (refl, tt))),
      (
        ascii (codes "use") refl,
        ascii (codes "jwt-svid") refl,
        (refl, (refl, tt)),
        (
          ascii (codes "x") refl,
          url_text x h.1.1,
          (refl, tt),
          (
            ascii (codes "y") refl,
            url_text y h.1.2,
            tt,
            tt,
          ),
        ),
      ),
    ),
  ),
)

-- the element of an authority nests two levels deep at most, far below the limit of JSON texts
pub depth-tree_of : (a : Authority) → depth (tree_of a) ≤ 2
depth-tree_of (X509 (Rsa n e) der) = omega arith
depth-tree_of (X509 (Ec crv x y) der) = omega arith
depth-tree_of (Jwt kid (Rsa n e)) = omega arith
depth-tree_of (Jwt kid (Ec crv x y)) = omega arith

-- the authority that an element says has each member in its form
pub form_of : (element : Data) (a : Authority) → IsElement element a → IsAuthority a
form_of element (X509 key der) h = h.3
form_of element (Jwt kid key) h = h.3

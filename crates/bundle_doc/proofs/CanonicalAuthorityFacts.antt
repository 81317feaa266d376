-- The texts of the four kinds of elements, put together from their parts.
use Rattle.std.proofs.Common.{◌≡◌, ℕ, List, ◌++◌, codes, subst, append_assoc}
use Rattle.base64.specs.Engines.{standard}
use Rattle.base64.specs.GeneralPurpose.{encode_of}
use Rattle.json.specs.Print.{escape, escape_byte}
use Rattle.jwk_set.specs.Forms.{IsCertificate, IsNonEmptyText, IsUrlText}
use Rattle.jwk_set.specs.declared.authority.PublicKey.TheVariants.{Rsa, Ec}
use Rattle.jwk_set.specs.declared.authority.Authority.TheVariants.{X509, Jwt}
use Rattle.bundle_doc.specs.Bundle.{authority_text}
use Rattle.bundle_doc.specs.CanonicalReader.{ReadsAuthority, ReadsText}

-- the base64 of a certificate needs no escape if the text that was read needs none
escape_der : (d der : List ℕ) → escape d ≡ d → d ≡ encode_of standard der → escape (encode_of standard der) ≡ encode_of standard der
escape_der d der plain is = subst (λ t. escape t ≡ t) is plain

-- the parts of an X.509 authority with an RSA key, between the labels of its members, are its text
x509_rsa : (e n rest : List ℕ) → escape e ≡ e → escape n ≡ n → (der : List ℕ) → escape (encode_of standard der) ≡ encode_of standard der
    → codes "{\"e\":\"" ++ (e ++ (codes "\",\"kty\":\"RSA\",\"n\":\"" ++ (n ++ (codes "\",\"use\":\"x509-svid\",\"x5c\":[\"" ++ (encode_of standard der ++ (codes "\"]}"
    ++ rest))))))
    ≡ authority_text (X509 (Rsa n e) der) ++ rest
unfolding escape_byte
x509_rsa e n rest p q der r = simp (p, q, r, append_assoc)

-- the same for an X.509 authority with an EC key
x509_ec : (crv x y rest : List ℕ) → escape crv ≡ crv → escape x ≡ x → escape y ≡ y → (der : List ℕ) → escape (encode_of standard der) ≡ encode_of standard der
    → codes "{\"crv\":\"" ++ (crv ++ (codes "\",\"kty\":\"EC\",\"use\":\"x509-svid\",\"x\":\"" ++ (x ++ (codes "\",\"x5c\":[\"" ++ (encode_of standard der ++ (codes "\"],\"y\":\"" ++ (y ++ (codes "\"}"
    ++ rest))))))))
    ≡ authority_text (X509 (Ec crv x y) der) ++ rest
unfolding escape_byte
x509_ec crv x y rest o p q der r = simp (o, p, q, r, append_assoc)

-- the same for a JWT authority with an RSA key
jwt_rsa : (e kid n rest : List ℕ) → escape e ≡ e → escape kid ≡ kid → escape n ≡ n
    → codes "{\"e\":\"" ++ (e ++ (codes "\",\"kid\":\"" ++ (kid ++ (codes "\",\"kty\":\"RSA\",\"n\":\"" ++ (n ++ (codes "\",\"use\":\"jwt-svid\"}" ++ rest))))))
    ≡ authority_text (Jwt kid (Rsa n e)) ++ rest
unfolding escape_byte
jwt_rsa e kid n rest p q r = simp (p, q, r, append_assoc)

-- the same for a JWT authority with an EC key
jwt_ec : (crv kid x y rest : List ℕ) → escape crv ≡ crv → escape kid ≡ kid → escape x ≡ x → escape y ≡ y
    → codes "{\"crv\":\"" ++ (crv ++ (codes "\",\"kid\":\"" ++ (kid ++ (codes "\",\"kty\":\"EC\",\"use\":\"jwt-svid\",\"x\":\"" ++ (x ++ (codes "\",\"y\":\"" ++ (y ++ (codes "\"}"
    ++ rest))))))))
    ≡ authority_text (Jwt kid (Ec crv x y)) ++ rest
unfolding escape_byte
jwt_ec crv kid x y rest o p q r = simp (o, p, q, r, append_assoc)

-- ---- as the reader has them: each part is read, and then taken into its form

-- parts read one after another, each in its form, are an X.509 authority with an RSA key
pub ReadsAuthority-x509_rsa : (text r1 r2 r3 rest e n d f m der : List ℕ)
    → text ≡ codes
    "{\"e\":\"" ++ r1 → ReadsText r1 e (codes "\",\"kty\":\"RSA\",\"n\":\"") r2 → ReadsText r2 n (codes "\",\"use\":\"x509-svid\",\"x5c\":[\"") r3
    → ReadsText r3 d (codes "\"]}") rest → (f ≡ e) × IsUrlText f → (m ≡ n) × IsUrlText m → (d ≡ encode_of standard der) × IsCertificate der
    → ReadsAuthority text (X509 (Rsa m f) der) rest
ReadsAuthority-x509_rsa text r1 r2 r3 rest e n d f m der head at_e at_n at_d is_e is_n is_d =
    let joined = x509_rsa e n rest at_e.plain at_n.plain der (escape_der d der at_d.plain is_d.0) in
    record { whole = rw (is_e.0, is_n.0) (cc); form = ((is_n.1, is_e.1), is_d.1) }

-- the same for an X.509 authority with an EC key
pub ReadsAuthority-x509_ec : (text r1 r2 r3 r4 rest crv x y d c v w der : List ℕ)
    → text ≡ codes
    "{\"crv\":\"" ++ r1 → ReadsText r1 crv (codes "\",\"kty\":\"EC\",\"use\":\"x509-svid\",\"x\":\"") r2 → ReadsText r2 x (codes "\",\"x5c\":[\"") r3
    → ReadsText r3 d (codes "\"],\"y\":\"") r4
    → ReadsText r4 y
    (codes "\"}") rest → (c ≡ crv) × IsNonEmptyText c → (v ≡ x) × IsUrlText v → (w ≡ y) × IsUrlText w → (d ≡ encode_of standard der) × IsCertificate der
    → ReadsAuthority text (X509 (Ec c v w) der) rest
ReadsAuthority-x509_ec text r1 r2 r3 r4 rest crv x y d c v w der head at_crv at_x at_d at_y is_crv is_x is_y is_d =
    let joined = x509_ec crv x y rest at_crv.plain at_x.plain at_y.plain der (escape_der d der at_d.plain is_d.0) in
    record { whole = rw (is_crv.0, is_x.0, is_y.0) (cc); form = ((is_crv.1, is_x.1, is_y.1), is_d.1) }

-- the same for a JWT authority with an RSA key
pub ReadsAuthority-jwt_rsa : (text r1 r2 r3 rest e kid n f k m : List ℕ)
    → text ≡ codes
    "{\"e\":\"" ++ r1 → ReadsText r1 e (codes "\",\"kid\":\"") r2 → ReadsText r2 kid (codes "\",\"kty\":\"RSA\",\"n\":\"") r3
    → ReadsText r3 n (codes "\",\"use\":\"jwt-svid\"}") rest → (f ≡ e) × IsUrlText f → (k ≡ kid) × IsNonEmptyText k → (m ≡ n) × IsUrlText m
    → ReadsAuthority text (Jwt k (Rsa m f)) rest
ReadsAuthority-jwt_rsa text r1 r2 r3 rest e kid n f k m head at_e at_kid at_n is_e is_kid is_n =
    let joined = jwt_rsa e kid n rest at_e.plain at_kid.plain at_n.plain in
    record { whole = rw (is_e.0, is_kid.0, is_n.0) (cc); form = (is_kid.1, (is_n.1, is_e.1)) }

-- the same for a JWT authority with an EC key
pub ReadsAuthority-jwt_ec : (text r1 r2 r3 r4 rest crv kid x y c k v w : List ℕ)
    → text ≡ codes
    "{\"crv\":\"" ++ r1 → ReadsText r1 crv (codes "\",\"kid\":\"") r2 → ReadsText r2 kid (codes "\",\"kty\":\"EC\",\"use\":\"jwt-svid\",\"x\":\"") r3
    → ReadsText r3 x (codes "\",\"y\":\"") r4
    → ReadsText r4 y
    (codes "\"}") rest → (c ≡ crv) × IsNonEmptyText c → (k ≡ kid) × IsNonEmptyText k → (v ≡ x) × IsUrlText v → (w ≡ y) × IsUrlText w
    → ReadsAuthority text (Jwt k (Ec c v w)) rest
ReadsAuthority-jwt_ec text r1 r2 r3 r4 rest crv kid x y c k v w head at_crv at_kid at_x at_y is_crv is_kid is_x is_y =
    let joined = jwt_ec crv kid x y rest at_crv.plain at_kid.plain at_x.plain at_y.plain in
    record { whole = rw (is_crv.0, is_kid.0, is_x.0, is_y.0) (cc); form = (is_kid.1, (is_crv.1, is_x.1, is_y.1)) }

-- The texts of the four kinds of elements, in the parts that are written.
use Rattle.std.specs.Prelude.{ℕ, ◌++◌, List, codes}
use Rattle.base64.specs.Engines.{standard}
use Rattle.base64.specs.GeneralPurpose.{encode_of}
use Rattle.json.specs.Print.{quoted}

abbrev pub x509_rsa_text : List ℕ → List ℕ → List ℕ → List ℕ
x509_rsa_text n e der = codes "{\"e\":\"" ++ (e ++ (codes "\",\"kty\":\"RSA\",\"n\":\""
    ++ (n ++ (codes "\",\"use\":\"x509-svid\",\"x5c\":[\""
    ++ (encode_of standard der ++ codes "\"]}")))))

abbrev pub x509_ec_text : List ℕ → List ℕ → List ℕ → List ℕ → List ℕ
x509_ec_text crv x y der = codes "{\"crv\":" ++ (quoted crv
    ++ (codes ",\"kty\":\"EC\",\"use\":\"x509-svid\",\"x\":\"" ++ (x ++ (codes "\",\"x5c\":[\""
    ++ (encode_of standard der ++ (codes "\"],\"y\":\"" ++ (y ++ codes "\"}")))))))

abbrev pub jwt_rsa_text : List ℕ → List ℕ → List ℕ → List ℕ
jwt_rsa_text kid n e = codes "{\"e\":\"" ++ (e ++ (codes "\",\"kid\":" ++ (quoted kid
    ++ (codes ",\"kty\":\"RSA\",\"n\":\"" ++ (n ++ codes "\",\"use\":\"jwt-svid\"}")))))

abbrev pub jwt_ec_text : List ℕ → List ℕ → List ℕ → List ℕ → List ℕ
jwt_ec_text kid crv x y = codes "{\"crv\":" ++ (quoted crv ++ (codes ",\"kid\":" ++ (quoted kid
    ++ (codes ",\"kty\":\"EC\",\"use\":\"jwt-svid\",\"x\":\"" ++ (x ++ (codes "\",\"y\":\""
    ++ (y ++ codes "\"}")))))))

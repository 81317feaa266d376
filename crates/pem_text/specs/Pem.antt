-- Certificates as PEM (RFC 7468)
use Rattle.std.specs.Prelude.{ℕ, ◌+◌, ◌==◌, List, [], ◌∷◌, ◌++◌, cond, codes, flat_map}
use Rattle.base64.specs.Engines.{standard}
use Rattle.base64.specs.GeneralPurpose.{encode_of}
use Rattle.jwk_set.specs.declared.authority.Authority.{Authority}
use Rattle.jwk_set.specs.declared.authority.Authority.TheVariants.{X509, Jwt}

-- ---- lines of 64 symbols, and a last one with those that are left

-- a symbol, after a line feed if 64 symbols are before it on its line
abbrev pub break_before : ℕ → ℕ → List ℕ
break_before column symbol = cond (column == 64) (10 ∷ symbol ∷ []) (symbol ∷ [])

-- how many symbols are on the line then
abbrev pub next_column : ℕ → ℕ
next_column column = cond (column == 64) 1 (column + 1)

-- a line that has symbols is ended
abbrev pub last_break : ℕ → List ℕ
last_break column = cond (column == 0) [] (10 ∷ [])

-- the symbols in lines, if this many are on the line already
abbrev pub wrapped_from : ℕ → List ℕ → List ℕ
wrapped_from column [] = last_break column
wrapped_from column (symbol ∷ symbols) =
    break_before column symbol ++ wrapped_from (next_column column) symbols

abbrev pub wrapped : List ℕ → List ℕ
wrapped symbols = wrapped_from 0 symbols

-- ---- certificates

-- the base64 of the DER bytes between two lines (section 5.1)
abbrev pub certificate_pem : List ℕ → List ℕ
certificate_pem der = codes "-----BEGIN CERTIFICATE-----\n"
    ++ (wrapped (encode_of standard der) ++ codes "-----END CERTIFICATE-----\n")

-- an authority for JWT-SVIDs has none
abbrev pub authority_pem : Authority → List ℕ
authority_pem (X509 key der) = certificate_pem der
authority_pem (Jwt kid key) = []

abbrev pub certificates_pem : List Authority → List ℕ
certificates_pem authorities = flat_map authority_pem authorities

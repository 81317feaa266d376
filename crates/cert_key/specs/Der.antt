-- Elements in DER (X.690)
use Rattle.std.specs.Prelude.{ℕ, ◌/◌, ◌%◌, List, [], ◌∷◌, ◌++◌, length, nat_lt, if◌then◌else◌}

-- a length below 2 ^ 24 in the fewest bytes (8.1.3 and 10.1): one below 128 is its byte; else the
-- first byte is 128 and how many follow
unfoldable pub length_bytes : ℕ → List ℕ
length_bytes n =
    if nat_lt n 128 then n ∷ []
    else (if nat_lt n 256 then 129 ∷ n ∷ []
    else (if nat_lt n 65_536 then 130 ∷ n / 256 ∷ n % 256 ∷ []
    else 131 ∷ n / 65_536 ∷ n / 256 % 256 ∷ n % 256 ∷ []))

-- an element: its tag, its length, its content
abbrev pub element : ℕ → List ℕ → List ℕ
element tag content = tag ∷ (length_bytes (length content) ++ content)

-- Texts of JSON, as pieces one after another. An object is made of members. Each has its label
-- before it: the brace that opens the object or the comma after the member before, its name, and
-- the colon.
use Rattle.std.specs.Prelude.{ℕ, List, [], ◌∷◌, ◌++◌, Bool, true, false}
use Rattle.std.specs.Prelude.{codes, decimal, Option, Some, None}
use Rattle.hex.specs.Hex.{encode_lower}
use Rattle.json.specs.Print.{quoted}

-- ---- values

abbrev pub number_or_null : Option ℕ → List ℕ
number_or_null None = codes "null"
number_or_null (Some n) = decimal n

abbrev pub true_or_false : Bool → List ℕ
true_or_false true = codes "true"
true_or_false false = codes "false"

-- a digest as a string of lower-case hexadecimal
abbrev pub quoted_digest : List ℕ → List ℕ
quoted_digest digest = codes "\"" ++ (encode_lower digest ++ codes "\"")

-- ---- arrays

abbrev pub comma_where : Bool → List ℕ
comma_where true = codes ","
comma_where false = []

-- the texts of the items, with a comma before each but the first; before that too if something is
-- there before
abbrev pub parted_texts : {A : Type 0} → (A → List ℕ) → Bool → List A → List ℕ
parted_texts text later [] = []
parted_texts text later (x ∷ items) =
    comma_where later ++ (text x ++ parted_texts text true items)

abbrev pub own_text : List ℕ → List ℕ
own_text text = text

-- an array of values that have these texts
abbrev pub array_text : List (List ℕ) → List ℕ
array_text items = codes "[" ++ (parted_texts own_text false items ++ codes "]")

-- ---- members, each after its label. A proof that cites one need not look into it.

unfoldable pub string_member : (label text : List ℕ) → List ℕ
string_member label text = label ++ quoted text

unfoldable pub digest_member : (label digest : List ℕ) → List ℕ
digest_member label digest = label ++ quoted_digest digest

unfoldable pub number_member : List ℕ → Option ℕ → List ℕ
number_member label number = label ++ number_or_null number

unfoldable pub truth_member : List ℕ → Bool → List ℕ
truth_member label truth = label ++ true_or_false truth

unfoldable pub array_member : List ℕ → List (List ℕ) → List ℕ
array_member label items = label ++ array_text items

-- Names (RFC 5280, section 4.1.2.4), and their texts (RFC 4514)
use Rattle.std.specs.Prelude.{◌≡◌, ℕ, ◌+◌, ◌-◌, ◌*◌, ◌%◌, ◌^◌, ◌<◌, Bool, true, false, ◌&&◌}
use Rattle.std.specs.Prelude.{◌||◌, List, [], ◌∷◌, ◌++◌, length, flat_map, codes, reverse, Option}
use Rattle.std.specs.Prelude.{Some, None, nat_eq, nat_le, nat_lt, if◌then◌else◌}
use Rattle.std.specs.Str.{bytes_eq}
use Rattle.std.specs.Fmt.{decimal}
use Rattle.hex.specs.Hex.{encode_lower}
use Rattle.cert_key.specs.Der.{element}
use Rattle.cert_key.specs.Step.{◌>>=◌}

-- ---- names

-- AttributeTypeAndValue: the content of the type, an OBJECT IDENTIFIER, and the value, an element
pub record Attribute : Type 0 where
  pub type : List ℕ
  pub tag : ℕ
  pub value : List ℕ

-- 6 is the tag of an OBJECT IDENTIFIER
abbrev pub type_and_value : Attribute → List ℕ
type_and_value a = element 6 a.type ++ element a.tag a.value

abbrev pub attribute : Attribute → List ℕ
attribute a = element 48 (type_and_value a)

-- RelativeDistinguishedName, a SET, whose tag is 49
abbrev pub attributes : List Attribute → List ℕ
attributes r = flat_map attribute r

abbrev pub rdn : List Attribute → List ℕ
rdn r = element 49 (attributes r)

-- Name, a SEQUENCE of them
abbrev pub rdns : List (List Attribute) → List ℕ
rdns n = flat_map rdn n

pub record IsName (n : List (List Attribute)) (bytes : List ℕ) : Type 0 where
  pub all : bytes ≡ element 48 (rdns n)
  pub short : length (rdns n) < 2 ^ 24

-- ---- types of attributes

-- the numbers of an OBJECT IDENTIFIER (X.690, 8.19.2): each byte has seven bits of one, the first
-- bits first, and a byte below 128 ends it. A number has the fewest bytes, and is below 2 ^ 63.
-- `before` is the numbers that were read, and `value` the bits of the next one.
abbrev pub numbers_from : List ℕ → ℕ → List ℕ → Option (List ℕ)
numbers_from before value [] = if nat_eq value 0 then Some before else None
numbers_from before value (b ∷ bytes) =
    if nat_lt b 128 then numbers_from (before ++ (value * 128 + b) ∷ []) 0 bytes
    else (if nat_eq (value * 128 + (b - 128)) 0 || nat_le (2 ^ 56) (value * 128 + (b - 128))
    then None else numbers_from before (value * 128 + (b - 128)) bytes)

-- the first number is of two arcs (8.19.4)
abbrev pub first_arcs : ℕ → List ℕ
first_arcs n =
    if nat_lt n 40 then codes "0." ++ decimal n
    else (if nat_lt n 80 then codes "1." ++ decimal (n - 40) else codes "2." ++ decimal (n - 80))

abbrev pub later_arc : ℕ → List ℕ
later_arc n = codes "." ++ decimal n

abbrev pub dotted_numbers : List ℕ → Option (List ℕ)
dotted_numbers [] = None
dotted_numbers (n ∷ others) = Some (first_arcs n ++ flat_map later_arc others)

-- an object identifier in numbers with dots between them (RFC 4512, section 1.4)
unfoldable pub dotted : List ℕ → Option (List ℕ)
dotted type = numbers_from [] 0 type >>= dotted_numbers

-- the short names (RFC 4514, section 3), of the types 2.5.4 and 0.9.2342.19200300.100.1
unfoldable pub short_name : List ℕ → Option (List ℕ)
short_name type =
    if bytes_eq type (85 ∷ 4 ∷ 3 ∷ []) then Some (codes "CN")
    else (if bytes_eq type (85 ∷ 4 ∷ 7 ∷ []) then Some (codes "L")
    else (if bytes_eq type (85 ∷ 4 ∷ 8 ∷ []) then Some (codes "ST")
    else (if bytes_eq type (85 ∷ 4 ∷ 10 ∷ []) then Some (codes "O")
    else (if bytes_eq type (85 ∷ 4 ∷ 11 ∷ []) then Some (codes "OU")
    else (if bytes_eq type (85 ∷ 4 ∷ 6 ∷ []) then Some (codes "C")
    else (if bytes_eq type (85 ∷ 4 ∷ 9 ∷ []) then Some (codes "STREET")
    else (if bytes_eq type (9 ∷ 146 ∷ 38 ∷ 137 ∷ 147 ∷ 242 ∷ 44 ∷ 100 ∷ 1 ∷ 25 ∷ [])
    then Some (codes "DC")
    else (if bytes_eq type (9 ∷ 146 ∷ 38 ∷ 137 ∷ 147 ∷ 242 ∷ 44 ∷ 100 ∷ 1 ∷ 1 ∷ [])
    then Some (codes "UID") else None))))))))

-- ---- values of attributes

-- UTF8String, PrintableString or IA5String
abbrev pub is_text_tag : ℕ → Bool
is_text_tag tag = nat_eq tag 12 || nat_eq tag 19 || nat_eq tag 22

-- " + , ; < > and \
abbrev pub is_special : ℕ → Bool
is_special b = nat_eq b 34 || nat_eq b 43 || nat_eq b 44 || nat_eq b 59 || nat_eq b 60
    || nat_eq b 62 || nat_eq b 92

-- a # or a space that begins the value, and a space that ends it
abbrev pub is_special_at : (is_first is_last : Bool) → ℕ → Bool
is_special_at is_first is_last b =
    (is_first && (nat_eq b 32 || nat_eq b 35)) || (is_last && nat_eq b 32)

-- A byte that ASCII does not print is two hexadecimal digits.
abbrev pub escaped_byte : (is_first is_last : Bool) → ℕ → List ℕ
escaped_byte is_first is_last b =
    if nat_lt b 32 || nat_lt 126 b then 92 ∷ encode_lower (b ∷ [])
    else (if is_special b || is_special_at is_first is_last b then 92 ∷ b ∷ [] else b ∷ [])

abbrev pub is_empty : List ℕ → Bool
is_empty bytes = nat_eq (length bytes) 0

-- the bytes of a value (section 2.4)
abbrev pub escaped_from : (is_first : Bool) → List ℕ → List ℕ
escaped_from is_first [] = []
escaped_from is_first (b ∷ rest) =
    escaped_byte is_first (is_empty rest) b ++ escaped_from false rest

-- the whole element in hexadecimal
unfoldable pub hexadecimal : List ℕ → List ℕ
hexadecimal whole = codes "#" ++ encode_lower whole

abbrev pub value_text : (tag : ℕ) → (content whole : List ℕ) → List ℕ
value_text tag content whole =
    if is_text_tag tag then escaped_from true content else hexadecimal whole

-- ---- texts

-- A type without a short name has its value in hexadecimal (section 2.4).
abbrev pub long_text : List ℕ → Option (List ℕ) → Option (List ℕ)
long_text whole None = None
long_text whole (Some numbers) = Some (numbers ++ (codes "=" ++ hexadecimal whole))

abbrev pub text_with_type : Option (List ℕ) → (type : List ℕ) → (tag : ℕ)
    → (content whole : List ℕ) → Option (List ℕ)
text_with_type None type tag content whole = long_text whole (dotted type)
text_with_type (Some name) type tag content whole =
    Some (name ++ (codes "=" ++ value_text tag content whole))

-- a tag of one byte (X.690, 8.1.2.2); others are not read
abbrev pub type_value_text : (type : List ℕ) → (tag : ℕ) → (content whole : List ℕ)
    → Option (List ℕ)
type_value_text type tag content whole =
    if nat_eq (tag % 32) 31 then None
    else text_with_type (short_name type) type tag content whole

unfoldable pub attribute_text : Attribute → Option (List ℕ)
attribute_text a = type_value_text a.type a.tag a.value (element a.tag a.value)

-- what is next, after what is there and a sign between them
abbrev pub with_next : ℕ → (before next : List ℕ) → List ℕ
with_next sign [] next = next
with_next sign (b ∷ before) next = (b ∷ before) ++ sign ∷ next

-- the texts of all, after what is there; none if one has none
abbrev pub joined_texts : {X : Type 0} → ℕ → (X → Option (List ℕ)) → List ℕ → List X
    → Option (List ℕ)
joined_texts sign text before [] = Some before
joined_texts sign text before (x ∷ others) =
    text x >>= λ own. joined_texts sign text (with_next sign before own) others

-- attributes in their order, a + between two (section 2.2); a SET has at least one
unfoldable pub rdn_text : List Attribute → Option (List ℕ)
rdn_text [] = None
rdn_text (a ∷ others) = joined_texts 43 attribute_text [] (a ∷ others)

-- from the last to the first, a comma between two (section 2.1)
unfoldable pub text_of_name : List (List Attribute) → Option (List ℕ)
text_of_name n = joined_texts 44 rdn_text [] (reverse n)

-- the text of the name that the bytes are; none if they are not a name, or it has no text
abbrev pub IsNameText : List ℕ → Option (List ℕ) → Type 0
IsNameText bytes None = (n : List (List Attribute)) → IsName n bytes → text_of_name n ≡ None
IsNameText bytes (Some text) =
    (n : List (List Attribute)) × IsName n bytes × (text_of_name n ≡ Some text)

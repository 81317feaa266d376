-- JSON texts (RFC 8259), as the bytes of this repository's formats are read and written.
use Rattle.std.specs.Prelude.{◌≡◌, ℕ, ◌^◌, ◌<◌, ◌||◌, ◌==◌, nat_lt, not, List, Bool, Some, ⊤}
use Rattle.std.specs.Ordering.{nat_cmp}
use Rattle.std.specs.declared.cmp.Ordering.TheVariants.{Less}
use Rattle.std.specs.Cmp.Lexicographic.{slice_cmp}
use Rattle.std.specs.Str.{IsUtf8}
use Rattle.serde_json.specs.Data.{Num, unsigned, negative, float, Data, null, boolean, number}
use Rattle.serde_json.specs.Data.{string, array, object, Items, no_items, item, Members, no_members}
use Rattle.serde_json.specs.Data.{member}
use Rattle.serde_json.specs.Read.{read}

-- the bytes are a JSON text of this value
abbrev pub IsJson : List ℕ → Data → Type 0
IsJson bytes value = IsUtf8 bytes × (read bytes ≡ Some value)

abbrev pub IsPlainNumber : Num → Type 0
IsPlainNumber (unsigned n) = n < 2 ^ 64
IsPlainNumber (negative z) = ⊥
IsPlainNumber (float x) = ⊥

-- the name is below the names of all these members, by their bytes
abbrev pub IsBelowNames : List ℕ → Members → Type 0
IsBelowNames name no_members = ⊤
IsBelowNames name (member other d ms) = (slice_cmp nat_cmp name other ≡ Less) × IsBelowNames name ms

-- A value whose compact text means nothing else: its numbers are unsigned and whole, its texts are
-- UTF-8, and the names of each object are strictly sorted.
abbrev mutual
  pub IsPlain : Data → Type 0
  IsPlain null = ⊤
  IsPlain (boolean b) = ⊤
  IsPlain (number n) = IsPlainNumber n
  IsPlain (string s) = IsUtf8 s
  IsPlain (array ds) = ArePlain ds
  IsPlain (object ms) = HasPlainMembers ms

  pub ArePlain : Items → Type 0
  ArePlain no_items = ⊤
  ArePlain (item d ds) = IsPlain d × ArePlain ds

  pub HasPlainMembers : Members → Type 0
  HasPlainMembers no_members = ⊤
  HasPlainMembers (member name d ms) = IsUtf8 name × IsPlain d × IsBelowNames name ms
      × HasPlainMembers ms

-- a byte that a string has without an escape (RFC 8259, section 7): no quotation mark, no
-- backslash, no control
abbrev pub is_unescaped : ℕ → Bool
is_unescaped b = not ((b == 34) || (b == 92) || nat_lt b 32)

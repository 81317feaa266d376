-- The place at which the head of a request ends (RFC 9112).
use Rattle.std.specs.Prelude.{ℕ, List, Option, None, Some, codes}
use Rattle.memchr.specs.Find.{FindsNeedle}

-- the most bytes of a head
abbrev pub head_limit : ℕ
head_limit = 8192

-- the end of a line, and the empty line that ends a head
abbrev pub head_end : List ℕ
head_end = codes "\r\n\r\n"

-- the place at which the end of the head begins, if it came
abbrev pub EndsAt : List ℕ → Option ℕ → Type 0
EndsAt bytes place = FindsNeedle bytes head_end 0 place

-- it did not come
abbrev pub HasNoEnd : List ℕ → Type 0
HasNoEnd bytes = EndsAt bytes None

-- it came, and begins there
abbrev pub EndsFirstAt : List ℕ → ℕ → Type 0
EndsFirstAt bytes place = EndsAt bytes (Some place)

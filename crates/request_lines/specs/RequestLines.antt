-- The first lines of requests and of replies, as JSON.
use Rattle.std.specs.Prelude.{◌≡◌, ◌≤◌, ◌<◌, ◌==◌, ℕ, ⊤, Bool, not, List, map, length, codes}
use Rattle.std.specs.Prelude.{Option, Some, ◌++◌, ◌∷◌, decimal, option_and_then}
use Rattle.std.specs.List.{AllPass}
use Rattle.serde_json.specs.Data.{Data, string, array, object, member, no_members, number, unsigned}
use Rattle.serde_json.specs.Find.{get, as_number, as_u64}
use Rattle.serde_json.specs.View.{items_of}
use Rattle.jwk_set.specs.Json.{IsJson}
use Rattle.request_lines.specs.declared.request_line.InputEnd.{InputEnd}
use Rattle.request_lines.specs.declared.request_line.InputEnd.TheVariants.{Bytes, Stream}
use Rattle.request_lines.specs.declared.reply_head.ReplyHead.{ReplyHead}
use Rattle.request_lines.specs.declared.request_error.RequestError.{RequestError}
use Rattle.request_lines.specs.declared.request_error.RequestError.TheVariants.{TooLong, BadLine}
use Rattle.request_lines.specs.declared.request_error.RequestError.TheVariants.{NoMemory}

-- the most bytes of a first line
abbrev pub request_limit : ℕ
request_limit = 65536

-- Why a line is refused, if `Says d` is what its value has to say.
abbrev pub RefusesLine : (Data → Type 0) → List ℕ → RequestError → Type 0
RefusesLine Says line TooLong = request_limit < length line
RefusesLine Says line BadLine = (length line ≤ request_limit)
    × ((d : Data) → IsJson line d → Says d → ⊥)
RefusesLine Says line NoMemory = ⊤

-- why a value is refused
abbrev pub RefusesValue : (Data → Type 0) → Data → RequestError → Type 0
RefusesValue Says d TooLong = ⊥
RefusesValue Says d BadLine = Says d → ⊥
RefusesValue Says d NoMemory = ⊤

-- ---- requests

-- the arguments as a JSON array of texts
abbrev pub words_value : List (List ℕ) → Data
words_value words = array (items_of (map string words))

-- The line is such an array.
pub record SaysWords (line : List ℕ) (words : List (List ℕ)) : Type 0 where
  pub short : length line ≤ request_limit
  pub json : IsJson line (words_value words)

-- the value is such an array
abbrev pub IsOfWords : Data → Type 0
IsOfWords d = (words : List (List ℕ)) × (d ≡ words_value words)

-- ---- first lines of requests

-- a first line that counts the input, and then has the arguments
abbrev pub counted_line : (count words : List ℕ) → List ℕ
counted_line count words =
    codes "{\"input\":" ++ (count ++ (codes ",\"words\":" ++ (words ++ codes "}")))

abbrev pub is_no_comma : ℕ → Bool
is_no_comma b = not (b == 44)

-- The line is one with this count and these arguments.
pub record SplitsCounted (line count words : List ℕ) : Type 0 where
  pub whole : line ≡ counted_line count words
  pub plain : AllPass is_no_comma count

-- The text is a JSON number, and a whole one below 2^64.
pub record IsWholeNumber (text : List ℕ) (n : ℕ) : Type 0 where
  pub value : Data
  pub json : IsJson text value
  pub number : option_and_then as_u64 (as_number value) ≡ Some n

-- The line counts that many bytes of input, and has the text of these arguments.
pub record CountsInput (line words : List ℕ) (n : ℕ) : Type 0 where
  pub count : List ℕ
  pub split : SplitsCounted line count words
  pub is : IsWholeNumber count n

-- it begins with a brace
abbrev pub IsBraced : List ℕ → Type 0
IsBraced line = (rest : List ℕ) × (line ≡ 123 ∷ rest)

-- How the input ends that follows the line, and the text of the arguments: it counts the input,
-- or is that text.
abbrev pub SaysInput : (line words : List ℕ) → InputEnd → Type 0
SaysInput line words (Bytes n) = CountsInput line words n
SaysInput line words Stream = (words ≡ line) × (IsBraced line → ⊥)

-- The same, and the line is not too long.
pub record IsRequestLine (line words : List ℕ) (end : InputEnd) : Type 0 where
  pub short : length line ≤ request_limit
  pub says : SaysInput line words end

-- Why a line is refused before its arguments are read.
abbrev pub RefusesInput : List ℕ → RequestError → Type 0
RefusesInput line TooLong = request_limit < length line
RefusesInput line BadLine = (length line ≤ request_limit) × IsBraced line
    × ((words : List ℕ) (n : ℕ) → CountsInput line words n → ⊥)
RefusesInput line NoMemory = ⊤

-- ---- replies

-- the number of a member
abbrev pub number_in : List ℕ → Data → Option ℕ
number_in name d = option_and_then as_u64 (option_and_then as_number (get name d))

-- The value has the three numbers of a reply.
pub record SaysReply (d : Data) (head : ReplyHead) : Type 0 where
  pub errors : number_in (codes "errors") d ≡ Some head.errors
  pub output : number_in (codes "output") d ≡ Some head.output
  pub status : number_in (codes "status") d ≡ Some head.status
  pub small : head.status < 256

abbrev pub IsOfReply : Data → Type 0
IsOfReply d = (head : ReplyHead) × SaysReply d head

-- the reply as a JSON object
abbrev pub reply_value : ReplyHead → Data
reply_value head = object (member (codes "errors") (number (unsigned head.errors))
    (member (codes "output") (number (unsigned head.output))
    (member (codes "status") (number (unsigned head.status)) no_members)))

-- the same as text
abbrev pub reply_line : ReplyHead → List ℕ
reply_line head = codes "{\"errors\":" ++ (decimal head.errors ++ (codes ",\"output\":"
    ++ (decimal head.output ++ (codes ",\"status\":" ++ (decimal head.status ++ codes "}")))))

-- the first line of a reply
abbrev pub IsReplyLine : List ℕ → ReplyHead → Type 0
IsReplyLine line head = (d : Data) × IsJson line d × SaysReply d head

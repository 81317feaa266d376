-- Steps of reading a first line
use Rattle.std.specs.Prelude.{◌≡◌, ℕ, ◌<◌, ◌++◌, ◌∷◌, ⊤, List, false, length, take, slice_index}
use Rattle.std.specs.List.{AllPass}
use Rattle.request_lines.specs.RequestLines.{IsWholeNumber, is_no_comma, request_limit}
use Rattle.request_lines.specs.declared.request_error.RequestError.{RequestError}
use Rattle.request_lines.specs.declared.request_error.RequestError.TheVariants.{TooLong, BadLine}
use Rattle.request_lines.specs.declared.request_error.RequestError.TheVariants.{NoMemory}

-- The first comma of the text is here.
pub record IsFirstComma (text : List ℕ) (place : ℕ) : Type 0 where
  pub within : place < length text
  pub before : AllPass is_no_comma (take place text)
  pub fails : is_no_comma (slice_index text place) ≡ false

-- `part` comes before the first comma of the text, and `rest` after it
pub record IsFirstPart (text part rest : List ℕ) : Type 0 where
  pub whole : text ≡ part ++ (44 ∷ rest)
  pub plain : AllPass is_no_comma part

-- why no number is read
abbrev pub RefusesCount : List ℕ → RequestError → Type 0
RefusesCount text TooLong = request_limit < length text
RefusesCount text BadLine = (n : ℕ) → IsWholeNumber text n → ⊥
RefusesCount text NoMemory = ⊤

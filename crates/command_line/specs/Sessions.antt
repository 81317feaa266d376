-- The number of sessions that `serve` is given.
use Rattle.std.specs.Prelude.{◌≡◌, ℕ, ◌≤◌, List, decimal, Option, Some, None}

-- the most sessions that one run serves
abbrev pub session_limit : ℕ
session_limit = 1000000

-- The text is that of a number from 1 to the most sessions, in decimal: so with neither a sign nor
-- a needless zero.
abbrev pub IsSessions : List ℕ → ℕ → Type 0
IsSessions text n = (text ≡ decimal n) × (1 ≤ n) × (n ≤ session_limit)

abbrev pub ReadsSessions : List ℕ → Option ℕ → Type 0
ReadsSessions text None = (n : ℕ) → IsSessions text n → ⊥
ReadsSessions text (Some n) = IsSessions text n

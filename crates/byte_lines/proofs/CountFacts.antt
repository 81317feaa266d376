-- Lemmas on counting the lines of a stream.
use Rattle.std.proofs.Common.{◌≡◌, ℕ, ◌+◌, List, length, Option, None, Some, IfSome, ap, ◌∙◌, arith}
use Rattle.std.specs.Prelude.{⊤}
use Rattle.byte_lines.specs.Lines.{Lines, lines_of, with_line, HasLine, HasNoLine}
use Rattle.byte_lines.proofs.StreamFacts.{lines_of-line, lines_of-rest}

-- n whole lines were taken from the stream `old`, and `new` is what is left of it
abbrev pub CountsTo : Option (List ℕ) → Option (List ℕ) → ℕ → Type 0
CountsTo None new n = ⊤
CountsTo (Some xs) None n = ⊥
CountsTo (Some xs) (Some ys) n = length (lines_of xs).whole ≡ n + length (lines_of ys).whole

-- one more line was taken: the step of a loop that counts lines
pub CountsTo-line : (a b c : Option (List ℕ)) (n : ℕ) (text : List ℕ) → CountsTo a b n → HasLine b c text → CountsTo a c (n + 1)
CountsTo-line None b c n text counted line = tt
CountsTo-line (Some xs) None c n text counted line = absurd counted
CountsTo-line (Some xs) (Some ys) None n text counted line = absurd line.1
CountsTo-line (Some xs) (Some ys) (Some zs) n text counted line =
    let first : lines_of ys ≡ with_line text (lines_of zs) = ap lines_of line.1 ∙ lines_of-line text zs line.0 in
    let one : length (lines_of ys).whole ≡ length (with_line text (lines_of zs)).whole = ap (λ (l : Lines). length l.whole) first in
    omega (arith, counted, one)

-- if no line is left, all lines are counted
pub CountsTo-rest : (a b : Option (List ℕ)) (n : ℕ) → CountsTo a b n → HasNoLine b → IfSome a (λ xs. n ≡ length (lines_of xs).whole)
CountsTo-rest None b n counted none = tt
CountsTo-rest (Some xs) None n counted none = absurd counted
CountsTo-rest (Some xs) (Some ys) n counted none =
    let empty : length (lines_of ys).whole ≡ 0 = ap (λ (l : Lines). length l.whole) (lines_of-rest ys none) in
    omega (arith, counted, empty)

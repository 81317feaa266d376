-- Numbers of sessions in decimal: what is written of one is read as it
use Rattle.std.proofs.Common.{◌≡◌, ℕ, false, Some, List, Result, Ok, ap, arith}
use Rattle.std.specs.Prelude.{is_ok}
use Rattle.std.specs.Result.{result_ok}
use Rattle.std.specs.Str.Parse.{ParsesUnsigned}
use Rattle.std.proofs.lemmas.Fmt.{parse-decimal}
use Rattle.command_line.specs.Sessions.{IsSessions}

-- a number of sessions in decimal parses to itself
whole : {E : Type 0} (n : ℕ) (text : List ℕ) (r : Result ℕ E) → ParsesUnsigned 32 10 text r → IsSessions text n → r ≡ Ok n
whole n text r h is = parse-decimal 32 n text r (omega (arith, is.2)) (omega (arith, is.2)) is.0 h

-- a text that does not parse is not a number of sessions
pub not_parsed : {E : Type 0} (n : ℕ) (text : List ℕ) (r : Result ℕ E) → false ≡ is_ok r → ParsesUnsigned 32 10 text r → IsSessions text n → ⊥
not_parsed n text r none h is = let w = whole n text r h is in cc (ap is_ok w)

-- a text that parses is only the number of sessions that it parses to
pub parsed : {E : Type 0} (n x : ℕ) (text : List ℕ) (r : Result ℕ E) → Some x ≡ result_ok r → ParsesUnsigned 32 10 text r → IsSessions text n → x ≡ n
parsed n x text r some h is = let w = ap result_ok (whole n text r h is) in cc

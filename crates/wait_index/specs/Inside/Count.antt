-- Counts over the numbers below a bound
use Rattle.std.specs.Prelude.{ℕ, ◌+◌, Bool, cond}
use Rattle.std.proofs.Common.{zero, suc}

abbrev pub bit : Bool → ℕ
bit b = cond b 1 0

-- how many numbers below n pass the test
abbrev pub count_below : (ℕ → Bool) → ℕ → ℕ
count_below test zero = 0
count_below test (suc n) = count_below test n + bit (test n)

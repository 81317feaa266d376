-- How many connections came at a gate.
use Rattle.std.specs.Prelude.{ℕ, ◌==◌, if◌then◌else◌}
use Rattle.fair_turns.specs.declared.arrivals.Arrivals.{Arrivals}

-- how many are known to have come in the span
abbrev pub arrived_in : Arrivals → ℕ → ℕ
arrived_in arrivals span = if arrivals.span == span then arrivals.count else 0

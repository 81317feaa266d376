-- Which connection makes room if a table is full.
use Rattle.std.specs.Prelude.{◌≡◌, ◌<◌, ◌≤◌, ◌⊎◌}
use Rattle.fair_turns.specs.declared.giving_way.Candidate.{Candidate}

-- The one has asked nothing whole for longer than the other, or for as long and came no later.
abbrev pub GoesFirst : Candidate → Candidate → Type 0
GoesFirst one other = (other.quiet < one.quiet)
    ⊎ (one.quiet ≡ other.quiet) × (one.serial ≤ other.serial)

-- What the calls over a source or a sink say of its bytes, if the device can report them. `None` is
-- for a device that cannot.
use Rattle.std.specs.Prelude.{◌≡◌, ◌≤◌, ℕ, List, length, take, drop, Bool, true, false, None, Some}
use Rattle.std.specs.Prelude.{Option, Ok, Err, Result}
use Rattle.std.specs.Io.KnownBytes.{Appends}
use Rattle.byte_lines.specs.declared.error.DeviceError.{DeviceError}
use Rattle.byte_lines.specs.declared.error.DeviceError.TheVariants.{Io, NoMemory}

-- what a sink holds grew by a beginning of bytes, perhaps by none of it and perhaps by all
abbrev pub AppendsBeginning : Option (List ℕ) → Option (List ℕ) → List ℕ → Type 0
AppendsBeginning old new bytes = (count : ℕ) × Appends old new (take count bytes)

-- the first `limit` bytes of what remained were taken, or all if there were fewer, and the others
-- remain; a device that cannot report its bytes gave at most `limit`
abbrev pub TakesUpTo : Option (List ℕ) → Option (List ℕ) → ℕ → List ℕ → Type 0
TakesUpTo None new limit taken = length taken ≤ limit
TakesUpTo (Some bytes) new limit taken = (taken ≡ take limit bytes)
    × (new ≡ Some (drop limit bytes))

-- the source failed
abbrev pub is_source_fault : {T : Type 0} → Result T DeviceError → Bool
is_source_fault (Ok value) = false
is_source_fault (Err Io) = true
is_source_fault (Err NoMemory) = false

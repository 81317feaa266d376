-- Places in errors.
use Rattle.std.specs.Prelude.{ℕ, ◌+◌}
use Rattle.spiffe_name.specs.declared.error.NameError.{NameError}
use Rattle.spiffe_name.specs.declared.error.NameError.TheVariants.{Empty, TooLong, BadScheme}
use Rattle.spiffe_name.specs.declared.error.NameError.TheVariants.{BadDomainByte, BadPath, NoMemory}

-- the place of the error, or 0
abbrev pub place_of : NameError → ℕ
place_of Empty = 0
place_of TooLong = 0
place_of BadScheme = 0
place_of (BadDomainByte place) = place
place_of (BadPath place) = place
place_of NoMemory = 0

-- the error in a text with this many more bytes in front
abbrev pub moved : ℕ → NameError → NameError
moved bytes Empty = Empty
moved bytes TooLong = TooLong
moved bytes BadScheme = BadScheme
moved bytes (BadDomainByte place) = BadDomainByte (bytes + place)
moved bytes (BadPath place) = BadPath (bytes + place)
moved bytes NoMemory = NoMemory

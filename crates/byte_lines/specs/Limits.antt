-- How long a line may be.
use Rattle.std.specs.Prelude.{ℕ}

-- the most bytes of a line, without its line feed: 8 MiB
abbrev pub line_limit : ℕ
line_limit = 8388608

-- How much a replica may hold, and how long a receipt's line may be.
use Rattle.std.specs.Prelude.{ℕ, min, max}
use Rattle.fed_config.specs.Configuration.{Configuration}

-- what a limit may be at most, and counts as if it is more
abbrev pub most_receipts : ℕ
most_receipts = 4194304

abbrev pub most_records : ℕ
most_records = 65536

-- the most receipts that are held under a configuration: 0 counts as 1
unfoldable pub receipt_limit : Configuration → ℕ
receipt_limit c = max 1 (min c.limits.receipts most_receipts)

-- the most records of distrust that are held under it: 0 counts as 1
unfoldable pub record_limit : Configuration → ℕ
record_limit c = max 1 (min c.limits.records most_records)

-- the most bytes of a receipt's line, without its line feed: those of the longest
-- document, 1 MiB, and of the longest of all else in it
abbrev pub receipt_line_limit : ℕ
receipt_line_limit = 1051063

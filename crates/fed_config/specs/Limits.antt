-- How much a configuration may have, and how much may be held under it.
use Rattle.std.specs.Prelude.{ℕ}
use Rattle.fed_config.specs.declared.limits.Limits.{Limits}

-- the most relationships
abbrev pub relationship_limit : ℕ
relationship_limit = 1024

-- the most trust domains that it names
abbrev pub domain_limit : ℕ
domain_limit = 1024

-- the most seeds
abbrev pub seed_limit : ℕ
seed_limit = 4096

-- the most bytes of an endpoint's URL
abbrev pub url_limit : ℕ
url_limit = 2048

-- how much may be held under a configuration that was read
abbrev pub usual_limits : Limits
usual_limits = record { receipts = 65536; records = 4096 }

-- The limits of a configuration are themselves limited.
use Rattle.std.proofs.Common.{◌≡◌, ◌≤◌, ℕ, ap, arith}
use Rattle.std.specs.Prelude.{max, min}
use Rattle.fed_config.specs.Configuration.{Configuration}
use Rattle.fed_config.specs.declared.limits.Limits.{Limits}
use Rattle.receipt_core.specs.Limits.{receipt_limit, record_limit, most_receipts, most_records}

pub receipt_limit-most : (c : Configuration) → receipt_limit c ≤ most_receipts
unfolding receipt_limit
receipt_limit-most c = omega arith

pub receipt_limit-least : (c : Configuration) → 1 ≤ receipt_limit c
unfolding receipt_limit
receipt_limit-least c = omega arith

pub record_limit-most : (c : Configuration) → record_limit c ≤ most_records
unfolding record_limit
record_limit-most c = omega arith

pub record_limit-least : (c : Configuration) → 1 ≤ record_limit c
unfolding record_limit
record_limit-least c = omega arith

-- Configurations with the same limits have the same limit of receipts.
pub receipt_limit-same : (c d : Configuration) → c.limits ≡ d.limits → receipt_limit c ≡ receipt_limit d
unfolding receipt_limit
receipt_limit-same c d same = ap (λ (l : Limits). max 1 (min l.receipts most_receipts)) same

pub record_limit-same : (c d : Configuration) → c.limits ≡ d.limits → record_limit c ≡ record_limit d
unfolding record_limit
record_limit-same c d same = ap (λ (l : Limits). max 1 (min l.records most_records)) same

-- What the code computes is the limit.
pub receipt_limit-of : (c : Configuration) (limits : Limits) (low high : ℕ) → limits ≡ c.limits → low ≡ min limits.receipts most_receipts
    → high ≡ max low 1 → high ≡ receipt_limit c
unfolding receipt_limit
receipt_limit-of c limits low high same below above = omega (arith, ap (λ (l : Limits). l.receipts) same, below, above)

pub record_limit-of : (c : Configuration) (limits : Limits) (low high : ℕ) → limits ≡ c.limits → low ≡ min limits.records most_records
    → high ≡ max low 1 → high ≡ record_limit c
unfolding record_limit
record_limit-of c limits low high same below above = omega (arith, ap (λ (l : Limits). l.records) same, below, above)

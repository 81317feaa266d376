-- What was held has a place if the limits are the same.
use Rattle.std.proofs.Common.{◌≡◌, ◌<◌, length, arith}
use Rattle.receipt_core.specs.Acceptance.{Meaning, IsMeaning}
use Rattle.receipt_core.proofs.LimitFacts.{receipt_limit-same, record_limit-same}
use Rattle.receipt_core.specs.Receipt.{Receipt}
use Rattle.receipt_core.specs.declared.distrust.Distrust.{Distrust}
use Rattle.closure_core.specs.Refusals.{IsOneTooMany, IsOneRecordTooMany}

-- there is a place for a receipt while fewer are held than were
pub receipt_place : (old held : Meaning) (r : Receipt) → IsMeaning held → old.config.limits ≡ held.config.limits → length old.held < length held.held
    → IsOneTooMany old r → ⊥
receipt_place old held r valid same fewer refused =
    let limit = receipt_limit-same old.config held.config same in
    let few = valid.few in
    let full = refused.full in
    omega (arith, limit, few, fewer, full)

-- the same for a record
pub record_place : (old held : Meaning) (x : Distrust) → IsMeaning held → old.config.limits ≡ held.config.limits → length old.records < length held.records
    → IsOneRecordTooMany old x → ⊥
record_place old held x valid same fewer refused =
    let limit = record_limit-same old.config held.config same in
    let few = valid.few_records in
    let full = refused.full in
    omega (arith, limit, few, fewer, full)

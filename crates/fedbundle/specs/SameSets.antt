-- When two replicas hold the same.
use Rattle.std.specs.Prelude.{◌≡◌, ◌↔◌, Contains}
use Rattle.receipt_core.specs.Acceptance.{Meaning, IsMeaning}
use Rattle.receipt_core.specs.Receipt.{Receipt}
use Rattle.receipt_core.specs.declared.distrust.Distrust.{Distrust}
use Rattle.closure_core.specs.Alike.{IsSameTrust}
use Rattle.replica_texts.specs.Snapshots.{snapshot_text}

-- Both are what a replica can hold; their relationships, seeds and floors are the same, each
-- receipt that the one holds the other holds too, and so each record of distrust.
pub record HoldSameSets (one other : Meaning) : Type 0 where
  pub valid : IsMeaning one
  pub other_valid : IsMeaning other
  pub trust : IsSameTrust one.config other.config
  pub receipts : (r : Receipt) → (Contains one.held r ↔ Contains other.held r)
  pub records : (x : Distrust) → (Contains one.records x ↔ Contains other.records x)

-- In each format, both have one snapshot.
abbrev pub HaveOneSnapshot : Meaning → Meaning → Type 0
HaveOneSnapshot one other = (format : _) → snapshot_text format one ≡ snapshot_text format other

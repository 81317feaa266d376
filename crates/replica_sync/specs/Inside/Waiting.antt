-- Records of distrust that were read and wait, so that those that come together are taken together.
use Rattle.std.specs.Prelude.{◌≡◌, ℕ, ◌+◌, ◌<◌, ◌≤◌, [], length, Contains}
use Rattle.std.specs.Prelude.{Result, MatchResult, IfOk}
use Rattle.std.specs.declared.cmp.Ordering.TheVariants.{Less}
use Rattle.std.specs.List.{AllByRecursion}
use Rattle.std.specs.List.Sorted.{IsStrictlySortedBy}
use Rattle.fed_config.specs.Configuration.{HasDomain}
use Rattle.receipt_core.specs.declared.distrust.Distrust.{Distrust}
use Rattle.receipt_core.specs.Receipt.{distrust_cmp}
use Rattle.receipt_core.specs.Rising.{with_items}
use Rattle.receipt_core.specs.Acceptance.{Meaning}
use Rattle.receipt_core.specs.Limits.{record_limit}
use Rattle.replica_core.specs.Absorbing.{AreWelcome, of_records}
use Rattle.replica_core.specs.declared.entry.Entry.{Entry}
use Rattle.replica_core.specs.declared.error.SyncError.{SyncError}
use Rattle.replica_texts.specs.Inside.EntrySteps.{TakesEntry}
use Rattle.replica_sync.specs.PulledPieces.{Journals}
use Rattle.replica_sync.specs.Inside.NewEntries.{HasRefusedNew}
use Rattle.replica_sync.specs.declared.news.News.{News}

-- what is held with the records that wait
abbrev pub held_with : News → Meaning → Meaning
held_with news m = record m { records = with_items distrust_cmp news.later.items m.records }

-- No record waits.
pub record IsEmptyNews (news : News) : Type 0 where
  pub none : news.later.items ≡ []
  pub free : news.free ≡ 0

-- They wait: each will be taken, they rise, and this many more have a place.
pub record Waits (m : Meaning) (news : News) : Type 0 where
  pub welcome : AreWelcome m (of_records news.later.items)
  pub rising : IsStrictlySortedBy distrust_cmp news.later.items
  pub few : length m.records + length news.later.items + news.free ≤ record_limit m.config

-- The record, which is not held, may wait after them.
pub record MayWait (m : Meaning) (news : News) (x : Distrust) : Type 0 where
  pub unheld : Contains m.records x → ⊥
  pub domain : HasDomain m.config x.domain
  pub above : AllByRecursion (λ y. distrust_cmp y x ≡ Less) news.later.items
  pub place : 0 < news.free

-- What a line says is taken or waits, or is refused, and what is new is appended to the journal.
pub record TakesNews (m : Meaning) (old : News) (number : ℕ) (entry : Entry) (n : Meaning)
    (new : News) (result : Result ℕ SyncError) : Type 0 where
  pub takes : MatchResult result (TakesEntry (held_with old m) entry (held_with new n))
      (HasRefusedNew (held_with old m) number entry (held_with new n))
  pub few : IfOk result (λ count. count ≤ 1)
  pub waits : Waits n new
  pub journals : Journals (held_with old m) (held_with new n) old.journal.items new.journal.items

-- Worlds whose replicas are closures in memory.
use Rattle.std.specs.Prelude.{◌≡◌, ℕ, ◌≤◌, Bool, true, false, cond, List, length, map}
use Rattle.std.specs.Prelude.{Option, Some, None, ⊤}
use Rattle.std.specs.List.{AllByRecursion}
use Rattle.std.specs.List.Sorted.{IsStrictlySortedBy}
use Rattle.fed_config.specs.Configuration.{Configuration, HasDomain}
use Rattle.fed_config.specs.declared.limits.Limits.{Limits}
use Rattle.receipt_core.specs.declared.distrust.Distrust.{Distrust}
use Rattle.receipt_core.specs.Receipt.{Receipt, receipt_cmp, distrust_cmp}
use Rattle.receipt_core.specs.Acceptance.{Meaning, IsFitting}
use Rattle.replica_core.specs.State.{State, joined, is_within_limits}
use Rattle.replica_core.specs.World.{Message, have_sent, give_sent, sums_sent, marks_sent}
use Rattle.replica_core.specs.World.{World, rules_of, happens}
use Rattle.replica_core.specs.World.{AreOf, MeansState}
use Rattle.replica_core.specs.declared.event.Event.{Event}
use Rattle.replica_core.specs.declared.message.StoredGive.{StoredGive}
use Rattle.replica_core.specs.declared.message.Message.{Message as Sent}
use Rattle.replica_core.specs.declared.message.Message.TheVariants.{Have, Give, Sums, Marks}
use Rattle.replica_core.specs.declared.replicas_in_memory.MemoryReplicas.{MemoryReplicas}
use Rattle.receipt_core.specs.Limits.{receipt_limit, record_limit}

-- all this is gained, or nothing if it would be too much
abbrev pub grown : Limits → State → State → State
grown limits state gain = cond (is_within_limits limits (joined state gain)) (joined state gain)
    state

-- ---- messages

abbrev pub content_of : StoredGive → State
content_of c = record { held = c.receipts.items; records = c.records.items }

abbrev pub message_of : Sent → Message
message_of (Have asker have) = have_sent asker have.bucket have.ids
message_of (Give answerer place content) = give_sent answerer place (content_of content)
message_of (Sums asker) = sums_sent asker
message_of (Marks answerer place) = marks_sent answerer place

abbrev pub give_in_message : Option Message → Option State
give_in_message None = None
give_in_message (Some (have_sent asker bucket ids)) = None
give_in_message (Some (give_sent answerer place content)) = Some content
give_in_message (Some (sums_sent asker)) = None
give_in_message (Some (marks_sent answerer place)) = None

abbrev pub have_in_message : Option Message → Option (ℕ × List (List ℕ))
have_in_message None = None
have_in_message (Some (have_sent asker bucket ids)) = Some (bucket, ids)
have_in_message (Some (give_sent answerer place content)) = None
have_in_message (Some (sums_sent asker)) = None
have_in_message (Some (marks_sent answerer place)) = None

abbrev pub is_sums_message : Option Message → Bool
is_sums_message None = false
is_sums_message (Some (have_sent asker bucket ids)) = false
is_sums_message (Some (give_sent answerer place content)) = false
is_sums_message (Some (sums_sent asker)) = true
is_sums_message (Some (marks_sent answerer place)) = false

-- A closure of the configuration can hold these receipts: they fit, they rise, and they are not too
-- many.
pub record CanHold (config : Configuration) (receipts : List Receipt) : Type 0 where
  pub fitting : AllByRecursion (IsFitting config) receipts
  pub rising : IsStrictlySortedBy receipt_cmp receipts
  pub few : length receipts ≤ receipt_limit config

-- the same for records of distrust
pub record CanHoldRecords (config : Configuration) (records : List Distrust) : Type 0 where
  pub domains : AllByRecursion (λ x. HasDomain config x.domain) records
  pub rising : IsStrictlySortedBy distrust_cmp records
  pub few : length records ≤ record_limit config

-- what is answered can be held
abbrev pub IsSound : Configuration → Message → Type 0
IsSound config (have_sent asker bucket ids) = ⊤
IsSound config (give_sent answerer place content) = CanHold config content.held
    × CanHoldRecords config content.records
IsSound config (sums_sent asker) = ⊤
IsSound config (marks_sent answerer place) = ⊤

-- ---- worlds

-- The closures mean what the replicas hold and saved, and the messages are those that were sent.
pub record Plays {A : Type 0} (meaning : A → Meaning) (config : Configuration) (n : ℕ)
    (replicas : MemoryReplicas A) (w : World) : Type 0 where
  pub held : AreOf (MeansState meaning config) n replicas.held.items w.now
  pub saved : AreOf (MeansState meaning config) n replicas.saved.items w.saved
  pub sent : map message_of replicas.sent.items ≡ w.sent
  pub sound : AllByRecursion (IsSound config) w.sent

-- after the event it represents what the world is then
abbrev pub MeansEvent : {A : Type 0} → (A → Meaning) → Configuration → MemoryReplicas A
    → MemoryReplicas A → Event → Type 0
MeansEvent meaning config old new event = (n : ℕ) (w : World) → Plays meaning config n old w
    → Plays meaning config n new (happens (rules_of config n) w event)

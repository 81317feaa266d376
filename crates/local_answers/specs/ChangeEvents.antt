-- A running replica, in a world of replicas: the events by which what it holds changes, and the
-- messages that it sends.
use Rattle.std.specs.Prelude.{◌≡◌, ◌++◌, ℕ, List, [], ◌∷◌, flat_map, map}
use Rattle.std.specs.List.{AllByRecursion}
use Rattle.fed_config.specs.Configuration.{Configuration}
use Rattle.receipt_core.specs.Acceptance.{IsMeaning, Meaning}
use Rattle.replica_core.specs.Convergence.{IsPartOf}
use Rattle.replica_core.specs.Session.{GiveMessage, HaveMessage, state_of}
use Rattle.replica_core.specs.World.{Message, Rules, World, give_sent, have_sent, run_from}
use Rattle.replica_core.specs.declared.entry.Entry.{Entry}
use Rattle.replica_core.specs.declared.entry.Entry.TheVariants.{Record, Receipt as AReceipt}
use Rattle.replica_core.specs.declared.event.Event.{Event}
use Rattle.replica_core.specs.declared.event.Event.TheVariants.{Revoke, Take}
use Rattle.replica_journal.specs.Journal.{AreWellFormed, entry_text}
use Rattle.replica_sync.specs.PulledPieces.{IsPulledGive, PulledGive, PulledPiece, pieces_of}

-- ---- changes

-- the event that makes replica i hold the entry
abbrev pub event_of : ℕ → Entry → Event
event_of i (Record x) = Revoke i x
event_of i (AReceipt r) = Take i r

abbrev pub events_of : ℕ → List Entry → List Event
events_of i entries = map (event_of i) entries

-- a replica, by its number, in a world with these rules
pub record ReplicaIn : Type 0 where
  pub rules : Rules
  pub world : World
  pub number : ℕ

abbrev pub replica_in : Rules → World → ℕ → ReplicaIn
replica_in rules w i = record { rules = rules; world = w; number = i }

-- The text is the lines of entries, and after their events the replica holds what m says.
pub record BringsTo (at : ReplicaIn) (text : List ℕ) (m : Meaning) : Type 0 where
  pub entries : List Entry
  pub each : AreWellFormed entries
  pub spelt : text ≡ flat_map entry_text entries
  pub holds : (run_from at.rules at.world (events_of at.number entries)).now at.number ≡ state_of m

-- What is appended to the journal brings the replica to hold what m says.
pub record AppendsTo (at : ReplicaIn) (before after : List ℕ) (m : Meaning) : Type 0 where
  pub text : List ℕ
  pub appended : after ≡ before ++ text
  pub brings : BringsTo at text m

-- ---- answers that come in pieces

-- Before and after the piece a replica of the configuration holds this.
pub record IsPieceOf (config : Configuration) (c : PulledPiece) : Type 0 where
  pub own : c.old.config ≡ config
  pub old : IsMeaning c.old
  pub new : IsMeaning c.new

-- What was held before the pieces, and what is held after each of them, is held when the next one
-- comes; more may be.
abbrev pub LosesNothing : Meaning → List PulledPiece → Type 0
LosesNothing before [] = Unit {0}
LosesNothing before (c ∷ came) = IsPartOf (state_of before) (state_of c.old)
    × LosesNothing c.new came

-- The answer about the bucket came in these pieces, and between them what is held only grew.
pub record IsPulledAmid (config : Configuration) (bucket : ℕ) (g : PulledGive) : Type 0 where
  pub give : IsPulledGive config bucket g
  pub each : AllByRecursion (IsPieceOf config) (pieces_of g)
  pub before : Meaning
  pub grows : LosesNothing before (pieces_of g)

-- ---- messages

-- the have, as replica i sends it
abbrev pub sent_have : ℕ → HaveMessage → Message
sent_have i have = have_sent i have.bucket have.ids

-- the answer, as replica i sends it to the have at the place
abbrev pub sent_give : ℕ → ℕ → GiveMessage → Message
sent_give i place give = give_sent i place give.content

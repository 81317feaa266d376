-- What an indexed closure keeps
use Rattle.std.specs.Prelude.{◌≡◌, ◌≢◌, ◌↔◌, AllPairs, ◌+◌, ◌^◌, ◌<◌, ◌≤◌, ℕ, map, List, Contains}
use Rattle.std.specs.Prelude.{length, slice_get, Some}
use Rattle.std.specs.List.{All}
use Rattle.fed_config.specs.Configuration.{AreDomains}
use Rattle.fed_config.specs.declared.seed.Seed.{Seed}
use Rattle.receipt_core.specs.declared.distrust.Distrust.{Distrust}
use Rattle.receipt_core.specs.Receipt.{Receipt}
use Rattle.receipt_core.specs.declared.triple.Triple.{Triple}
use Rattle.receipt_core.specs.Acceptance.{IsMeaning, IsReleased}
use Rattle.wait_index.specs.Index.{Index}
use Rattle.wait_index.specs.Net.{Net, ListsReached, ReportsFallen}
use Rattle.label_index.specs.Labels.{LabelIndexView}
use Rattle.closure_core.specs.Inside.Nodes.{pairs_of, count_at}
use Rattle.closure_parts.specs.NodeCounts.{AreCounts}
use Rattle.label_index.specs.declared.label.Label.{Label}
use Rattle.closure_parts.specs.Held.{HeldReceipts, meaning_of, IsBefore, IsDistrustedIn}
use Rattle.trust_closure.specs.Inside.NetOf.{node_specs_of, seed_node, IsNetOf}
use Rattle.trust_closure.specs.Inside.NetOf.{IsLabelIndexOf}
use Rattle.closure_parts.specs.Pairs.{DocumentTableView, IsDocumentTable}
use Rattle.closure_core.specs.Refusals.{Room, IsRoomier}
use Rattle.closure_core.specs.Changes.{HeldAndRoom}
use Rattle.trust_closure.specs.declared.changes.FreeRoom.{FreeRoom}
use Rattle.std.specs.Prelude.{[], ◌∷◌, ◌++◌, take, Result, MatchResult}
use Rattle.closure_core.specs.declared.outcome.Refused.{Refused}
use Rattle.closure_core.specs.declared.outcome.Taken.{Taken}
use Rattle.closure_core.specs.declared.outcome.Taken.TheVariants.{New as TakenNew}
use Rattle.closure_core.specs.declared.outcome.Taken.TheVariants.{Already as TakenAlready}

-- The index has exactly the nodes and edges of what is held, its reached nodes are marked, and each
-- different document has its number.
pub record IsBuilt (h : HeldReceipts) (p : DocumentTableView) (w : LabelIndexView) : Type 0 where
  pub valid : IsMeaning (meaning_of h)
  pub same : (r : Receipt) → Contains h.held r ↔ Contains h.arrived r
  pub once : AllPairs ◌≢◌ h.arrived
  pub domains : List (List ℕ)
  pub are_domains : AreDomains h.config domains
  pub wired : IsLabelIndexOf domains h.records (node_specs_of h.config.seeds h.arrived) w
  pub reached : ListsReached w.net w.marked
  pub pairing : IsDocumentTable (pairs_of h.config.seeds h.arrived) p

-- In addition, the count of each document is how many of the marked nodes have it.
pub record IsIndexed (h : HeldReceipts) (p : DocumentTableView) (w : LabelIndexView) : Type 0 where
  pub built : IsBuilt h p w
  pub counts : AreCounts p.heads w.marked p.counts

-- The counts are still those of the nodes that were marked before the last close. It says what
-- fell.
pub record WasCounted (p : DocumentTableView) (i : Index) : Type 0 where
  pub net : Net
  pub marked : List ℕ
  pub closing : List ℕ
  pub reached : ListsReached net marked
  pub within : All (λ node. node < length p.heads) marked
  pub fell : ReportsFallen net closing i.last.fallen i.last.kept i.marked
  pub many : length i.last.fallen + i.last.kept ≡ length marked
  pub counts : AreCounts p.heads marked p.counts

-- The index is still that of what was held before these records were.
pub record WasIndexed (new : HeldReceipts) (more : List Distrust) (p : DocumentTableView)
    (w : LabelIndexView) : Type 0 where
  pub old : HeldReceipts
  pub before : IsBefore old more new
  pub indexed : IsIndexed old p w

-- The label names a domain of the configuration, and its key is distrusted there.
abbrev pub IsDistrusted : HeldReceipts → Label → Type 0
IsDistrusted h label = IsDistrustedIn h label.domain label.key

-- There is room for this many receipts more and this many offers of theirs.
pub record HasRoom (h : HeldReceipts) (p : DocumentTableView) (w : LabelIndexView)
    (room : FreeRoom) : Type 0 where
  pub held : length h.arrived + room.receipts ≤ h.capacity
  pub pairs : length p.heads + room.receipts ≤ p.capacity
  pub nodes : room.receipts ≤ w.nodes
  pub edges : room.receipts + room.offers ≤ w.edges
  pub few : length p.heads + room.receipts < 2 ^ 32

-- What one closure keeps, and its room.
pub record IsIndexedClosure (h : HeldReceipts) (p : DocumentTableView) (w : LabelIndexView)
    (spare : FreeRoom) : Type 0 where
  pub indexed : IsIndexed h p w
  pub room : HasRoom h p w spare

abbrev pub room_of : FreeRoom → Room
room_of s = record { receipts = s.receipts; offers = s.offers }

abbrev pub closure_state : HeldReceipts → FreeRoom → HeldAndRoom
closure_state h s = record { meaning = meaning_of h; room = room_of s }

-- Nothing but the room has changed, and that has grown or stayed.
pub record Reserves (h new : HeldReceipts) (p q : DocumentTableView) (w v : LabelIndexView)
    (room more : FreeRoom) : Type 0 where
  pub meaning : meaning_of new ≡ meaning_of h
  pub arrived : new.arrived ≡ h.arrived
  pub net : v.net ≡ w.net
  pub marked : v.marked ≡ w.marked
  pub kept : IsIndexedClosure new q v more
  pub roomier : IsRoomier (room_of room) (room_of more)

-- What a caller sees: the meaning and the room, the receipts in order of arrival, the index, and
-- how many edges the last close looked at.
pub record Indexed : Type 0 where
  pub state : HeldAndRoom
  pub arrived : List Receipt
  pub wired : LabelIndexView
  pub work : ℕ

abbrev pub indexed_of : HeldReceipts → LabelIndexView → FreeRoom → ℕ → Indexed
indexed_of h w s work = record {
  state = closure_state h s;
  arrived = h.arrived;
  wired = w;
  work = work;
}

-- The index has one node for each configured document, which is marked, and one for each receipt,
-- in order of arrival; for each receipt one wait edge, for each node one offer edge for each of its
-- offers, and no other edge; and one label for each triple that is offered or awaited, and no other
-- label. The labels of distrusted keys are closed. A receipt's node is marked exactly if an
-- accepted document vouches for it.
pub record IsIndexOf (i : Indexed) : Type 0 where
  pub labels : List Triple
  pub net : IsNetOf i.state.meaning.config.seeds i.arrived i.state.meaning.records labels
      i.wired.net
  pub held : (r : Receipt) → Contains i.state.meaning.held r ↔ Contains i.arrived r
  pub once : length i.arrived ≡ length i.state.meaning.held
  pub seeds : (node : ℕ) → node < length i.state.meaning.config.seeds → Contains i.wired.marked node
  pub receipts : (place : ℕ) (r : Receipt) → slice_get i.arrived place ≡ Some r
      → Contains i.wired.marked (length i.state.meaning.config.seeds + place)
      ↔ IsReleased i.state.meaning r

-- The index and the different documents of these configured documents, before a count is raised.
pub record IsSeeded (h : HeldReceipts) (seeds : List Seed) (p : DocumentTableView)
    (w : LabelIndexView) : Type 0 where
  pub pairing : IsDocumentTable (pairs_of seeds h.arrived) p
  pub lowered : (number : ℕ) → count_at p.counts number ≡ 0
  pub room : length p.heads ≤ p.capacity
  pub heads : length p.heads ≡ length seeds
  pub wired : (domains : List (List ℕ)) → AreDomains h.config domains
      → IsLabelIndexOf domains h.records (map seed_node seeds) w
  pub reached : ListsReached w.net w.marked

-- the receipts in order of arrival once this one was taken: one that was not held comes last
abbrev pub arrived_with : List Receipt → Receipt → Taken → List Receipt
arrived_with arrived r (TakenNew accepted_now) = arrived ++ r ∷ []
arrived_with arrived r TakenAlready = arrived

-- A receipt that was not held arrives last, and one that is refused does not arrive.
abbrev pub ArrivesLast : List Receipt → Receipt → List Receipt → Result Taken Refused → Type 0
ArrivesLast old r new result =
    MatchResult result (λ taken. new ≡ arrived_with old r taken) (λ refused. new ≡ old)

-- A receipt that was not held arrives last. Each node that was marked remains marked, in its place.
pub record GrowsAtItsEnd (old : Indexed) (r : Receipt) (new : Indexed)
    (result : Result Taken Refused) : Type 0 where
  pub arrived : ArrivesLast old.arrived r new.arrived result
  pub marked : take (length old.wired.marked) new.wired.marked ≡ old.wired.marked

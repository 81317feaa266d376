-- What a plain closure keeps
use Rattle.std.specs.Prelude.{◌≡◌, ◌↔◌, ◌⊎◌, ◌+◌, ◌-◌, ◌^◌, ◌<◌, ◌≤◌, ℕ, Bool, true, false, ◌≢◌}
use Rattle.std.specs.Prelude.{AllPairs, List, Contains, length, slice_get, Some}
use Rattle.fed_config.specs.declared.seed.Seed.{Seed}
use Rattle.receipt_core.specs.declared.distrust.Distrust.{Distrust}
use Rattle.receipt_core.specs.declared.triple.Triple.{Triple}
use Rattle.receipt_core.specs.Receipt.{Receipt, pair_of, offers_of, need_of}
use Rattle.receipt_core.specs.Acceptance.{Meaning, IsMeaning, IsReleased, pair_of_seed}
use Rattle.closure_core.specs.Inside.Nodes.{pairs_of, is_raised, flags_of, count_at}
use Rattle.closure_parts.specs.Held.{HeldReceipts, meaning_of}
use Rattle.closure_parts.specs.Held.{IsShutBy}
use Rattle.closure_parts.specs.Held.{IsBefore}
use Rattle.closure_parts.specs.Pairs.{DocumentTableView, IsDocumentTable}
use Rattle.closure_core.specs.Changes.{HeldAndRoom}

-- These are the offers of the configured documents.
abbrev pub AreSeedOffers : List Seed → List Triple → Type 0
AreSeedOffers seeds offers = (t : Triple)
    → Contains offers t ↔ ((s : Seed) × Contains seeds s × Contains (offers_of (pair_of_seed s)) t)

-- The document of a receipt whose flag is raised offers the triple.
pub record IsOfferedBelow (arrived : List Receipt) (released : List Bool) (t : Triple)
    (bound : ℕ) : Type 0 where
  pub place : ℕ
  pub below : place < bound
  pub receipt : Receipt
  pub at : slice_get arrived place ≡ Some receipt
  pub raised : is_raised released place ≡ true
  pub offers : Contains (offers_of (pair_of receipt)) t

-- A configured document, or that of a receipt whose flag is raised, offers the triple.
abbrev pub IsOffered : List Triple → List Receipt → List Bool → Triple → Type 0
IsOffered seed_offers arrived released t = Contains seed_offers t
    ⊎ IsOfferedBelow arrived released t (length arrived)

-- Such a document vouches for the receipt.
abbrev pub IsVouched : List Distrust → List Triple → List Receipt → List Bool → Receipt → Type 0
IsVouched records seed_offers arrived released r = (IsShutBy records (need_of r) → ⊥)
    × IsOffered seed_offers arrived released (need_of r)

-- An accepted document vouches for each receipt whose flag is raised.
abbrev pub AreSound : Meaning → List Receipt → List Bool → Type 0
AreSound m arrived released = (place : ℕ) (r : Receipt) → slice_get arrived place ≡ Some r
    → is_raised released place ≡ true → IsReleased m r

-- No such document vouches for a receipt before this place whose flag is not raised.
abbrev pub AreQuietBelow : List Distrust → List Triple → List Receipt → List Bool → ℕ → Type 0
AreQuietBelow records seed_offers arrived released bound = (place : ℕ) (r : Receipt) → place < bound
    → slice_get arrived place ≡ Some r → is_raised released place ≡ false
    → IsVouched records seed_offers arrived released r → ⊥

-- The flags are raised of exactly the receipts that an accepted document vouches for.
abbrev pub AreReleased : Meaning → List Receipt → List Bool → Type 0
AreReleased m arrived released = (place : ℕ) (r : Receipt) → slice_get arrived place ≡ Some r
    → (is_raised released place ≡ true) ↔ IsReleased m r

-- The node is that of a configured document, or of a receipt whose flag is raised.
abbrev pub IsAcceptedNode : ℕ → List Bool → ℕ → Type 0
IsAcceptedNode seeds released node = (node < seeds)
    ⊎ ((place : ℕ) × (node ≡ seeds + place) × (is_raised released place ≡ true))

-- The number is that of the first node with the document of such a node before this one.
pub record IsFirstAccepted (seeds : ℕ) (released : List Bool) (heads : List ℕ)
    (bound number : ℕ) : Type 0 where
  pub node : ℕ
  pub below : node < bound
  pub had : IsAcceptedNode seeds released node
  pub first : slice_get heads node ≡ Some number

-- What is held, and what the configured documents offer; each different document has its number,
-- and each receipt a flag.
pub record IsSet (h : HeldReceipts) (p : DocumentTableView) (seed_offers : List Triple)
    (released : List Bool) : Type 0 where
  pub valid : IsMeaning (meaning_of h)
  pub once : AllPairs ◌≢◌ h.arrived
  pub same : (r : Receipt) → Contains h.held r ↔ Contains h.arrived r
  pub offers : AreSeedOffers h.config.seeds seed_offers
  pub pairing : IsDocumentTable (pairs_of h.config.seeds h.arrived) p
  pub size : length released ≡ length h.arrived

-- In addition, the flags of receipts and of different documents are those of what is accepted.
pub record HasPlainFlags (h : HeldReceipts) (p : DocumentTableView) (seed_offers : List Triple)
    (released : List Bool) : Type 0 where
  pub set : IsSet h p seed_offers released
  pub settled : AreReleased (meaning_of h) h.arrived released
  pub flags : (number : ℕ) → (is_raised (flags_of p.counts) number ≡ true)
      ↔ IsFirstAccepted (length h.config.seeds) released p.heads (length p.heads) number

-- The flags are still those of what was held before these records were.
pub record WasSettled (new : HeldReceipts) (p : DocumentTableView) (seed_offers : List Triple)
    (released : List Bool) : Type 0 where
  pub old : HeldReceipts
  pub more : List Distrust
  pub before : IsBefore old more new
  pub settled : HasPlainFlags old p seed_offers released

-- There is room for this many receipts more.
pub record HasFreeRoom (h : HeldReceipts) (p : DocumentTableView)
    (flags capacity spare : ℕ) : Type 0 where
  pub held : length h.arrived + spare ≤ h.capacity
  pub pairs : length p.heads + spare ≤ p.capacity
  pub released : flags + spare ≤ capacity
  pub few : length p.heads + spare < 2 ^ 32

-- What one closure keeps, and its room.
pub record IsPlainClosure (h : HeldReceipts) (p : DocumentTableView) (seed_offers : List Triple)
    (released : List Bool) (capacity spare : ℕ) : Type 0 where
  pub settled : HasPlainFlags h p seed_offers released
  pub room : HasFreeRoom h p (length released) capacity spare

-- The meaning, and the room: offers take none.
abbrev pub plain_state : HeldReceipts → ℕ → HeldAndRoom
plain_state h spare = record {
  meaning = meaning_of h;
  room = record { receipts = spare; offers = 2 ^ 64 - 1 };
}

-- Nothing but the capacity has changed.
pub record IsRoomierTable (old new : DocumentTableView) : Type 0 where
  pub numbers : new.numbers ≡ old.numbers
  pub heads : new.heads ≡ old.heads
  pub counts : new.counts ≡ old.counts

-- The first of the configured documents have their numbers, with counts of 0, and their offers.
pub record IsSown (h : HeldReceipts) (seeds : List Seed) (p : DocumentTableView)
    (seed_offers : List Triple) : Type 0 where
  pub pairing : IsDocumentTable (pairs_of seeds h.arrived) p
  pub lowered : (number : ℕ) → count_at p.counts number ≡ 0
  pub room : length p.heads ≤ p.capacity
  pub heads : length p.heads ≡ length seeds
  pub offers : AreSeedOffers seeds seed_offers

-- The search for a shortest chain, from the configured documents on, over what is offered and what
-- is needed
use Rattle.std.specs.Prelude.{◌≡◌, ◌↔◌, ◌⊎◌, ℕ, ◌+◌, ◌<◌, ◌≤◌, Bool, true, false, List, [], ◌∷◌}
use Rattle.std.specs.Prelude.{length, Contains, slice_get, Option, Some, None, MatchOption}
use Rattle.std.specs.List.Sorted.{IsSortedByKey}
use Rattle.fed_config.specs.declared.seed.Seed.{Seed}
use Rattle.receipt_core.specs.declared.triple.Triple.{Triple}
use Rattle.receipt_core.specs.Receipt.{Receipt, Pair, pair_of, need_of, offers_of, triple_cmp}
use Rattle.receipt_core.specs.Acceptance.{Meaning, distrust_of, pair_of_seed}
use Rattle.closure_core.specs.Inside.Nodes.{is_raised}
use Rattle.closure_core.specs.Inside.Flags.{raised_count}
use Rattle.receipt_core.specs.Limits.{most_receipts}

-- ---- receipts that may be vouched for

-- They are those that are held and whose key is not distrusted in the endpoint's trust domain.
pub record AreTrusted (m : Meaning) (receipts : List Receipt) : Type 0 where
  pub exactly : (r : Receipt)
      → Contains receipts r ↔
      (Contains m.held r × (Contains m.records (distrust_of r.endpoint.domain r) → ⊥))
  pub few : length receipts ≤ most_receipts

-- They are all of those, in the order of what they need.
pub record AreWaiting (m : Meaning) (waiting : List Receipt) : Type 0 where
  pub sorted : IsSortedByKey need_of triple_cmp waiting
  pub trusted : AreTrusted m waiting

-- ---- steps

-- a receipt that was visited, the place of the step that led to it, or none after a configured
-- document, and how many receipts the chain to it has
pub record Stride : Type 0 where
  pub receipt : Receipt
  pub before : Option ℕ
  pub length : ℕ

-- A configured document offers what the receipt needs.
pub record IsFromSeed (seeds : List Seed) (s : Stride) : Type 0 where
  pub seed : Seed
  pub configured : Contains seeds seed
  pub offers : Contains (offers_of (pair_of_seed seed)) (need_of s.receipt)
  pub first : s.length ≡ 1

-- The document of the step at this place offers what the receipt needs.
pub record IsFromStep (strides : List Stride) (s : Stride) (place : ℕ) : Type 0 where
  pub previous : Stride
  pub at : slice_get strides place ≡ Some previous
  pub offers : Contains (offers_of (pair_of previous.receipt)) (need_of s.receipt)
  pub next : s.length ≡ previous.length + 1

abbrev pub IsStride : List Seed → List Stride → Stride → Option ℕ → Type 0
IsStride seeds strides s None = IsFromSeed seeds s
IsStride seeds strides s (Some place) = IsFromStep strides s place

-- Each step is of a receipt that may be vouched for, and what led to it vouches.
pub record AreStrides (seeds : List Seed) (waiting : List Receipt)
    (strides : List Stride) : Type 0 where
  pub waits : (place : ℕ) (s : Stride) → slice_get strides place ≡ Some s
      → Contains waiting s.receipt
  pub placed : (place : ℕ) (s : Stride) → slice_get strides place ≡ Some s
      → IsStride seeds strides s s.before

-- The receipt was visited by a chain of at most this many.
pub record HasStride (strides : List Stride) (r : Receipt) (most : ℕ) : Type 0 where
  pub place : ℕ
  pub stride : Stride
  pub at : slice_get strides place ≡ Some stride
  pub is : stride.receipt ≡ r
  pub short : stride.length ≤ most

-- Each receipt that needs one of these was visited by a chain of at most this many.
abbrev pub AreFollowed : List Receipt → List Stride → List Triple → ℕ → Type 0
AreFollowed waiting strides offers most = (r : Receipt) → Contains waiting r
    → Contains offers (need_of r) → HasStride strides r most

-- The flags say which receipts were visited, and the lengths of their chains rise, up to at most
-- this.
pub record AreMarked (waiting : List Receipt) (visited : List Bool) (strides : List Stride)
    (most : ℕ) : Type 0 where
  pub size : length visited ≡ length waiting
  pub count : length strides ≡ raised_count visited
  pub marked : (k : ℕ) (r : Receipt) → slice_get waiting k ≡ Some r → is_raised visited k ≡ true
      → HasStride strides r most
  pub rising : (i j : ℕ) (s t : Stride) → i ≤ j → slice_get strides i ≡ Some s
      → slice_get strides j ≡ Some t → s.length ≤ t.length
  pub short : (i : ℕ) (s : Stride) → slice_get strides i ≡ Some s → s.length ≤ most
  pub early : (i : ℕ) (s : Stride) → slice_get strides i ≡ Some s → s.length ≤ i + 1

-- In addition, receipts that need the same were visited together.
pub record AreVisited (waiting : List Receipt) (visited : List Bool) (strides : List Stride)
    (most : ℕ) : Type 0 where
  pub marks : AreMarked waiting visited strides most
  pub together : (j k : ℕ) (q r : Receipt) → slice_get waiting j ≡ Some q
      → slice_get waiting k ≡ Some r → need_of q ≡ need_of r → is_raised visited j ≡ true
      → is_raised visited k ≡ true

-- ---- steps that are added

pub record IsAddedStep (waiting : List Receipt) (offers : List Triple) (before : Option ℕ)
    (most : ℕ) (s : Stride) : Type 0 where
  pub waits : Contains waiting s.receipt
  pub offered : Contains offers (need_of s.receipt)
  pub led : s.before ≡ before
  pub long : s.length ≡ most

-- The old steps are still there, and each other one is of a receipt that needs one of these.
pub record AppendsSteps (waiting : List Receipt) (offers : List Triple) (before : Option ℕ)
    (most : ℕ) (old new : List Stride) : Type 0 where
  pub longer : length old ≤ length new
  pub kept : (i : ℕ) (s : Stride) → slice_get old i ≡ Some s → slice_get new i ≡ Some s
  pub each : (i : ℕ) (s : Stride) → slice_get new i ≡ Some s
      → (slice_get old i ≡ Some s) ⊎ IsAddedStep waiting offers before most s

-- What is offered was followed: each receipt that needs it was visited.
pub record FollowsOffers (waiting : List Receipt) (offers : List Triple) (before : Option ℕ)
    (most : ℕ) (old : List Stride) (visited : List Bool) (new : List Stride) : Type 0 where
  pub visits : AreVisited waiting visited new most
  pub adds : AppendsSteps waiting offers before most old new
  pub reached : AreFollowed waiting new offers most

-- The receipt at the place needs this, and was not visited before.
pub record IsEdgeDue (waiting : List Receipt) (visited : List Bool) (offer : Triple)
    (place : ℕ) : Type 0 where
  pub receipt : Receipt
  pub at : slice_get waiting place ≡ Some receipt
  pub new : is_raised visited place ≡ false
  pub needs : need_of receipt ≡ offer

-- ---- how far the search is

-- What these configured documents offer was followed, and nothing else.
pub record IsSearchBegun (seeds : List Seed) (waiting : List Receipt) (visited : List Bool)
    (strides : List Stride) : Type 0 where
  pub visits : AreVisited waiting visited strides 1
  pub stand : AreStrides seeds waiting strides
  pub started : (s : Seed) → Contains seeds s
      → AreFollowed waiting strides (offers_of (pair_of_seed s)) 1

-- What the configured documents and the first this many steps offer was followed, and none of these
-- steps is of the document.
pub record IsSearched (seeds : List Seed) (waiting : List Receipt) (strides : List Stride)
    (p : Pair) (place : ℕ) : Type 0 where
  pub stand : AreStrides seeds waiting strides
  pub rising : (i j : ℕ) (s t : Stride) → i ≤ j → slice_get strides i ≡ Some s
      → slice_get strides j ≡ Some t → s.length ≤ t.length
  pub started : (s : Seed) → Contains seeds s
      → AreFollowed waiting strides (offers_of (pair_of_seed s)) 1
  pub followed : (i : ℕ) (s : Stride) → i < place → slice_get strides i ≡ Some s
      → AreFollowed waiting strides (offers_of (pair_of s.receipt)) (s.length + 1)
  pub passed : (i : ℕ) (s : Stride) → i < place → slice_get strides i ≡ Some s
      → pair_of s.receipt ≡ p → ⊥

-- The search has found the document: the step at this place is the first of it.
pub record SearchFinds (seeds : List Seed) (waiting : List Receipt) (strides : List Stride)
    (p : Pair) (place : ℕ) : Type 0 where
  pub searched : IsSearched seeds waiting strides p place
  pub stride : Stride
  pub at : slice_get strides place ≡ Some stride
  pub is : pair_of stride.receipt ≡ p

abbrev pub HasSearched : List Seed → List Receipt → List Stride → Pair → Option ℕ → Type 0
HasSearched seeds waiting strides p found = MatchOption found
    (IsSearched seeds waiting strides p (length strides)) (SearchFinds seeds waiting strides p)

-- ---- back along the steps

-- These are the receipts from the step at a place back to a configured document.
abbrev pub IsBackFrom : List Stride → Option ℕ → List Receipt → Type 0
IsBackFrom strides None [] = Unit {0}
IsBackFrom strides (Some place) (r ∷ others) = (s : Stride) × (slice_get strides place ≡ Some s)
    × (s.receipt ≡ r) × IsBackFrom strides s.before others
IsBackFrom strides _ _ = ⊥

-- The step before each has a chain that is shorter by one.
abbrev pub IsShorter : List Stride → Stride → Option ℕ → Type 0
IsShorter strides s None = Unit {0}
IsShorter strides s (Some place) = (previous : Stride) × (slice_get strides place ≡ Some previous)
    × (s.length ≡ previous.length + 1)

abbrev pub AreLinkedSteps : List Stride → Type 0
AreLinkedSteps strides = (place : ℕ) (s : Stride) → slice_get strides place ≡ Some s
    → IsShorter strides s s.before

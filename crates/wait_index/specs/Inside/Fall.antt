-- What holds while edges are taken back
use Rattle.std.specs.Prelude.{◌≡◌, ℕ, ◌+◌, ◌<◌, ◌≤◌, ◌==◌, ◌&&◌, ◌⊎◌, true, false, [], ◌∷◌, ◌++◌}
use Rattle.std.specs.Prelude.{cond, List, length, slice_index, Contains, AllPairs, ◌≢◌}
use Rattle.wait_index.specs.Inside.Count.{count_below}
use Rattle.wait_index.specs.Edge.{from_at, to_at}
use Rattle.wait_index.specs.Inside.Listing.{IsListing}
use Rattle.wait_index.specs.Net.{Net, is_root, is_closed, IsReached, IsOpen, IsTakenBack}
use Rattle.wait_index.specs.Inside.Tally.{Tally, HasSizes, is_marked_in, is_touched_in, is_open_in}
use Rattle.wait_index.specs.Inside.Tally.{support_in, offer_count_of, offers_between}
use Rattle.wait_index.specs.Inside.Step.{IsOpened, Follows}

-- the wait edge is followed: its label is open, or is the one whose edges are taken back, and the
-- edge is below the link
pub record StillFollowed (net : Net) (t : Tally) (label link i : ℕ) : Type 0 where
  pub within : i < length net.waits
  pub by : (is_open_in t (from_at net.waits i) ≡ true)
      ⊎ ((from_at net.waits i ≡ label) × (i < link))

-- Counts are those of the marked nodes and the open labels, and of the edges of one label below a
-- link.
pub record IsCountedDown (net : Net) (t : Tally) (label link : ℕ) : Type 0 where
  pub support : (l : ℕ) → l < length net.closed
      → support_in t l ≡ count_below
      (λ i. is_marked_in t (from_at net.offers i) && (to_at net.offers i == l)) (length net.offers)
  pub visits : t.visits ≡ count_below (λ i. is_marked_in t (from_at net.offers i))
      (length net.offers) + count_below (λ i. is_open_in t (from_at net.waits i)) (length net.waits)
      + count_below (λ i. from_at net.waits i == label) link

-- The wait edges of the touched labels before the index are taken back, and of one label those from
-- a link on. Each node that fell was reached, and each of its labels that was open is touched. So
-- is each label that is to be closed and was open.
pub record IsFalling (net : Net) (closing : List ℕ) (t : Tally)
    (index label link : ℕ) : Type 0 where
  pub sizes : HasSizes net t
  pub listing : IsListing t.marked t.places
  pub queue : IsListing t.touched t.touched_places
  pub counted : IsCountedDown net t label link
  pub sound : (n : ℕ) → is_marked_in t n ≡ true → IsReached net n
  pub roots : (n : ℕ) → is_root net n ≡ true → is_marked_in t n ≡ true
  pub grounded : (n : ℕ) → is_marked_in t n ≡ true
      → (is_root net n ≡ true)
      ⊎ ((i : ℕ) × StillFollowed net t label link i × (to_at net.waits i ≡ n))
  pub released : (i : ℕ) → StillFollowed net t label link i
      → is_marked_in t (to_at net.waits i) ≡ true
  pub fallen : (n i : ℕ) → IsReached net n → is_marked_in t n ≡ false → i < length net.offers
      → from_at net.offers i ≡ n → is_open_in t (to_at net.offers i) ≡ true
      → is_touched_in t (to_at net.offers i) ≡ true
  pub open_not_closed : (l : ℕ) → is_open_in t l ≡ true → is_closed net l ≡ false
  pub open_supported : (l : ℕ) → is_open_in t l ≡ true
      → (0 < support_in t l) ⊎ (is_touched_in t l ≡ true)
  pub opened : IsOpened net t
  pub lost : (n : ℕ) → IsReached net n → is_marked_in t n ≡ false
      → (i : ℕ) × (i < length net.waits) × (to_at net.waits i ≡ n)
      × (is_touched_in t (from_at net.waits i) ≡ true)
  pub shut : (n i : ℕ) → IsReached net n → i < length net.offers → from_at net.offers i ≡ n
      → is_closed net (to_at net.offers i) ≡ false
      → (is_open_in t (to_at net.offers i) ≡ true) ⊎ (is_touched_in t (to_at net.offers i) ≡ true)
  pub first : (l : ℕ) → Contains closing l → IsOpen net l → is_touched_in t l ≡ true
  pub near : (l : ℕ) → is_touched_in t l ≡ true → IsTakenBack net closing l
  pub done : (k : ℕ) → k < index → is_open_in t (slice_index t.touched k) ≡ false
  pub todo : (k : ℕ) → index ≤ k → k < length t.touched
      → is_open_in t (slice_index t.touched k) ≡ true

-- the offer edges of a marked node are among those that are counted
pub record CanFall (net : Net) (t : Tally) (node : ℕ) : Type 0 where
  pub sizes : HasSizes net t
  pub visits : offer_count_of net node ≤ t.visits
  pub support : (l : ℕ) → l < length net.closed → offers_between net node l ≤ support_in t l

-- all edges that can be followed are
pub record IsSettled (net : Net) (t : Tally) : Type 0 where
  pub follows : Follows net t (length t.marked) 0 0
  pub untouched : t.touched ≡ []

-- all that only the labels reach is taken back
abbrev pub HasFallen : Net → List ℕ → Tally → Type 0
HasFallen net closing t = IsFalling net closing t (length t.touched) 0 0

-- The list has each node that fell once.
pub record ListsFallen (net : Net) (t : Tally) (fallen : List ℕ) : Type 0 where
  pub reached : (n : ℕ) → Contains fallen n → IsReached net n
  pub unmarked : (n : ℕ) → Contains fallen n → is_marked_in t n ≡ false
  pub all : (n : ℕ) → IsReached net n → is_marked_in t n ≡ false → Contains fallen n
  pub once : AllPairs ◌≢◌ fallen

-- the nodes that fell once the node did so, unless it is a root
abbrev pub with_fallen : Net → ℕ → List ℕ → List ℕ
with_fallen net node fallen = cond (is_root net node) fallen (fallen ++ node ∷ [])

-- What holds while edges are followed
use Rattle.std.specs.Prelude.{◌≡◌, ℕ, ◌+◌, ◌<◌, ◌≤◌, ◌==◌, ◌&&◌, ◌⊎◌, Bool, true, false, length}
use Rattle.std.specs.Prelude.{nat_lt, nat_le, slice_index, take}
use Rattle.wait_index.specs.Inside.Count.{count_below}
use Rattle.wait_index.specs.Edge.{from_at, to_at}
use Rattle.wait_index.specs.Inside.Listing.{IsListing}
use Rattle.wait_index.specs.Net.{Net, is_root, is_closed, IsReached}
use Rattle.wait_index.specs.Inside.Tally.{Tally, HasSizes, is_marked_in, is_touched_in, is_open_in}
use Rattle.wait_index.specs.Inside.Tally.{support_in}

-- whether the node is among the first `cursor` marked ones
abbrev pub is_before : Tally → ℕ → ℕ → Bool
is_before t cursor node = nat_lt 0 (slice_index t.places node)
    && nat_le (slice_index t.places node) cursor

-- Marks and open labels are as the followed edges have it.
pub record IsSteady (net : Net) (t : Tally) : Type 0 where
  pub sizes : HasSizes net t
  pub listing : IsListing t.marked t.places
  pub sound : (n : ℕ) → is_marked_in t n ≡ true → IsReached net n
  pub roots : (n : ℕ) → is_root net n ≡ true → is_marked_in t n ≡ true
  pub released : (i : ℕ) → i < length net.waits → is_open_in t (from_at net.waits i) ≡ true
      → is_marked_in t (to_at net.waits i) ≡ true
  pub open_not_closed : (l : ℕ) → is_open_in t l ≡ true → is_closed net l ≡ false
  pub open_supported : (l : ℕ) → is_open_in t l ≡ true → 0 < support_in t l

-- The offer edges of the first marked nodes, except those of one node below a link, and the wait
-- edges of the open labels are followed.
pub record IsCounted (net : Net) (t : Tally) (cursor node link : ℕ) : Type 0 where
  pub support : (l : ℕ) → l < length net.closed
      → support_in t l + count_below
      (λ i. (from_at net.offers i == node) && (to_at net.offers i == l)) link
      ≡ count_below (λ i. is_before t cursor (from_at net.offers i) && (to_at net.offers i == l))
      (length net.offers)
  pub visits : t.visits + count_below (λ i. from_at net.offers i == node) link
      ≡ count_below (λ i. is_before t cursor (from_at net.offers i)) (length net.offers)
      + count_below (λ i. is_open_in t (from_at net.waits i)) (length net.waits)

-- A label that a followed edge leads to, and that is not closed, is open or still to be looked at.
pub record IsOpened (net : Net) (t : Tally) : Type 0 where
  pub at : (l : ℕ) → l < length net.closed → 0 < support_in t l → is_closed net l ≡ false
      → (is_open_in t l ≡ true) ⊎ (is_touched_in t l ≡ true)

pub record Follows (net : Net) (t : Tally) (cursor node link : ℕ) : Type 0 where
  pub steady : IsSteady net t
  pub counted : IsCounted net t cursor node link
  pub opened : IsOpened net t

-- nothing is taken back
pub record Spreads (old new : Tally) : Type 0 where
  pub front : take (length old.marked) new.marked ≡ old.marked
  pub touched : new.touched ≡ old.touched
  pub touched_places : new.touched_places ≡ old.touched_places
  pub visits : old.visits ≤ new.visits

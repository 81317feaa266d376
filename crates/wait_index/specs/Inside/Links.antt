-- How the edges of each owner are linked, the last one first
use Rattle.std.specs.Prelude.{◌≡◌, ◌≢◌, ℕ, ◌+◌, ◌<◌, ◌≤◌, List, length, slice_index}
use Rattle.wait_index.specs.declared.edges.Edge.{Edge}
use Rattle.wait_index.specs.Edge.{from_at}

-- The link is 0 or the number, plus 1, of an edge of the owner.
pub record IsLink (edges : List Edge) (owner link : ℕ) : Type 0 where
  pub within : link ≤ length edges
  pub owned : (i : ℕ) → link ≡ i + 1 → from_at edges i ≡ owner

-- The link is that of the owner's last edge among the first n, or 0 if the owner has none there.
pub record IsLast (edges : List Edge) (owner n link : ℕ) : Type 0 where
  pub below : link ≤ n
  pub owned : (i : ℕ) → link ≡ i + 1 → from_at edges i ≡ owner
  pub none_later : (i : ℕ) → link ≤ i → i < n → from_at edges i ≢ owner

-- Each owner has the link of its last edge, and each edge the link of its owner's edge before it.
pub record AreLinked (edges : List Edge) (newest earlier : List ℕ) : Type 0 where
  pub owners : (i : ℕ) → i < length edges → from_at edges i < length newest
  pub links : length earlier ≡ length edges
  pub last : (owner : ℕ) → owner < length newest
      → IsLast edges owner (length edges) (slice_index newest owner)
  pub before : (i : ℕ) → i < length edges → IsLast edges (from_at edges i) i (slice_index earlier i)

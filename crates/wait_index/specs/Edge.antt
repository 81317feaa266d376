-- Edges, named by their places in the order in which they were added
use Rattle.std.specs.Prelude.{◌≡◌, ℕ, ◌<◌, List, length, slice_index_or}
use Rattle.wait_index.specs.declared.edges.Edge.{Edge}

-- the edge at a place
abbrev pub edge_at : List Edge → ℕ → Edge
edge_at edges i = slice_index_or edges i (record { from = 0; to = 0 })

abbrev pub from_at : List Edge → ℕ → ℕ
from_at edges i = (edge_at edges i).from

abbrev pub to_at : List Edge → ℕ → ℕ
to_at edges i = (edge_at edges i).to

-- the edge at a place leads from here to there
pub record IsEdge (edges : List Edge) (i here there : ℕ) : Type 0 where
  pub within : i < length edges
  pub from : from_at edges i ≡ here
  pub to : to_at edges i ≡ there

-- How much room vectors have
use Rattle.std.specs.Prelude.{◌≡◌, ℕ, ◌+◌, ◌≤◌, min, length, vec_capacity}
use Rattle.wait_index.specs.declared.edges.Edges.{Edges}
use Rattle.wait_index.specs.declared.label_set.LabelSet.{LabelSet}
use Rattle.wait_index.specs.declared.node_set.NodeSet.{NodeSet}

-- how many owners, and how many edges, there is room for in all
abbrev pub owners_room : Edges → ℕ
owners_room e = vec_capacity e.newest

abbrev pub edges_room : Edges → ℕ
edges_room e = min (vec_capacity e.edges) (vec_capacity e.earlier)

-- the same edges and owners, and no less room
pub record GrowsEdges (old new : Edges) : Type 0 where
  pub edges : new.edges.items ≡ old.edges.items
  pub newest : new.newest.items ≡ old.newest.items
  pub earlier : new.earlier.items ≡ old.earlier.items
  pub owners_room : owners_room old ≤ owners_room new
  pub edges_room : edges_room old ≤ edges_room new

-- the same set, and no less room
pub record GrowsNodes (old new : NodeSet) : Type 0 where
  pub items : new.items.items ≡ old.items.items
  pub places : new.places.items ≡ old.places.items
  pub items_room : vec_capacity old.items ≤ vec_capacity new.items
  pub places_room : vec_capacity old.places ≤ vec_capacity new.places

pub record GrowsLabels (old new : LabelSet) : Type 0 where
  pub items : new.items.items ≡ old.items.items
  pub places : new.places.items ≡ old.places.items
  pub items_room : vec_capacity old.items ≤ vec_capacity new.items
  pub places_room : vec_capacity old.places ≤ vec_capacity new.places

-- There is room for this many more owners and edges.
pub record HasEdgesRoom (e : Edges) (more_owners more_edges : ℕ) : Type 0 where
  pub owners : length e.newest.items + more_owners ≤ owners_room e
  pub edges : length e.edges.items + more_edges ≤ edges_room e

-- There is room for this many more members.
pub record HasNodesRoom (s : NodeSet) (more : ℕ) : Type 0 where
  pub items : length s.places.items + more ≤ vec_capacity s.items
  pub places : length s.places.items + more ≤ vec_capacity s.places

pub record HasLabelsRoom (s : LabelSet) (more : ℕ) : Type 0 where
  pub items : length s.places.items + more ≤ vec_capacity s.items
  pub places : length s.places.items + more ≤ vec_capacity s.places

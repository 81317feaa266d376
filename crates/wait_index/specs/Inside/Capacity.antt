-- How much room a graph and its marks have
use Rattle.std.specs.Prelude.{◌≡◌, ℕ, ◌+◌, ◌<◌, ◌≤◌, ◌^◌, min, length, vec_capacity}
use Rattle.wait_index.specs.declared.graph.Graph.{Graph}
use Rattle.wait_index.specs.declared.marks.Marks.{Marks}
use Rattle.wait_index.specs.Inside.Room.{owners_room, edges_room}
use Rattle.wait_index.specs.Inside.Tally.{net_of, tally_of, marks_capacity}

-- how many nodes, labels and edges of each kind there is room for in all
pub record GraphCapacity : Type 0 where
  pub nodes : ℕ
  pub labels : ℕ
  pub offers : ℕ
  pub waits : ℕ

abbrev pub graph_capacity : Graph → GraphCapacity
graph_capacity g = record {
  nodes = min (vec_capacity g.roots) (owners_room g.offers);
  labels = min (vec_capacity g.closed) (owners_room g.waits);
  offers = edges_room g.offers;
  waits = edges_room g.waits;
}

-- the same net, and no less room
pub record GrowsGraph (old new : Graph) : Type 0 where
  pub net : net_of new ≡ net_of old
  pub nodes : (graph_capacity old).nodes ≤ (graph_capacity new).nodes
  pub labels : (graph_capacity old).labels ≤ (graph_capacity new).labels
  pub offers : (graph_capacity old).offers ≤ (graph_capacity new).offers
  pub waits : (graph_capacity old).waits ≤ (graph_capacity new).waits

-- There is room for this many more nodes, labels and edges of each kind, and their numbers have 32
-- bits.
pub record HasGraphRoom (g : Graph) (more_nodes more_labels more_edges : ℕ) : Type 0 where
  pub nodes : length g.roots.items + more_nodes ≤ (graph_capacity g).nodes
  pub labels : length g.closed.items + more_labels ≤ (graph_capacity g).labels
  pub offers : length g.offers.edges.items + more_edges ≤ (graph_capacity g).offers
  pub waits : length g.waits.edges.items + more_edges ≤ (graph_capacity g).waits
  pub few_nodes : length g.roots.items + more_nodes < 2 ^ 32
  pub few_labels : length g.closed.items + more_labels < 2 ^ 32
  pub few : length g.offers.edges.items + length g.waits.edges.items + more_edges < 2 ^ 32

-- the same marks, and no less room
pub record GrowsMarks (old new : Marks) : Type 0 where
  pub tally : tally_of new ≡ tally_of old
  pub nodes : (marks_capacity old).nodes ≤ (marks_capacity new).nodes
  pub labels : (marks_capacity old).labels ≤ (marks_capacity new).labels

-- There is room for this many more nodes and labels.
pub record HasMarksRoom (m : Marks) (more_nodes more_labels : ℕ) : Type 0 where
  pub nodes : length m.marked.places.items + more_nodes ≤ (marks_capacity m).nodes
  pub support : length m.support.items + more_labels ≤ vec_capacity m.support
  pub opened : length m.opened.items + more_labels ≤ vec_capacity m.opened
  pub touched : length m.touched.places.items + more_labels
      ≤ min (vec_capacity m.touched.items) (vec_capacity m.touched.places)

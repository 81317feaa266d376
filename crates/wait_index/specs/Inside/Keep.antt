-- What an index keeps
use Rattle.std.specs.Prelude.{◌+◌, ◌<◌, ◌≤◌, ◌^◌, length, vec_capacity}
use Rattle.wait_index.specs.declared.graph.Graph.{Graph}
use Rattle.wait_index.specs.declared.last_close.LastClose.{LastClose}
use Rattle.wait_index.specs.declared.marks.Marks.{Marks}
use Rattle.wait_index.specs.declared.room.Room.{Room}
use Rattle.wait_index.specs.Inside.Capacity.{graph_capacity}
use Rattle.wait_index.specs.Inside.Fall.{IsSettled}
use Rattle.wait_index.specs.Index.{Index}
use Rattle.wait_index.specs.Inside.Tally.{net_of, tally_of, marks_capacity}

abbrev pub index_of : Graph → Marks → Room → LastClose → Index
index_of graph marks room
    last = record {
      net = net_of graph;
      marked = marks.marked.items.items;
      room = room;
      last = record { fallen = last.fallen.items; kept = last.kept };
    }

-- All edges that can be followed are, the numbers of nodes, labels and edges have 32 bits, and the
-- vectors have the room.
pub record IsStoredIndex (graph : Graph) (marks : Marks) (room : Room)
    (last : LastClose) : Type 0 where
  pub settled : IsSettled (net_of graph) (tally_of marks)
  pub few : length graph.offers.edges.items + length graph.waits.edges.items + room.edges < 2 ^ 32
  pub few_nodes : length graph.roots.items + room.nodes < 2 ^ 32
  pub few_labels : length graph.closed.items + room.labels < 2 ^ 32
  pub nodes : length graph.roots.items + room.nodes ≤ (graph_capacity graph).nodes
  pub marked_nodes : length graph.roots.items + room.nodes ≤ (marks_capacity marks).nodes
  pub labels : length graph.closed.items + room.labels ≤ (graph_capacity graph).labels
  pub open_labels : length graph.closed.items + room.labels ≤ (marks_capacity marks).labels
  pub offers : length graph.offers.edges.items + room.edges ≤ (graph_capacity graph).offers
  pub waits : length graph.waits.edges.items + room.edges ≤ (graph_capacity graph).waits
  pub fallen : length last.fallen.items ≤ length graph.roots.items
  pub last_nodes : length graph.roots.items + room.nodes ≤ vec_capacity last.fallen

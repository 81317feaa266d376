-- What ties a net of nodes and labels to what is at its nodes
use Rattle.std.specs.Prelude.{◌≡◌, ◌≢◌, ◌↔◌, ◌⊎◌, ℕ, ◌+◌, Bool, true, false, length, List, [], ◌∷◌}
use Rattle.std.specs.Prelude.{◌++◌, map, Option, Some, None, slice_get, AllPairs, Contains}
use Rattle.std.specs.Option.{option_to_list}
use Rattle.wait_index.specs.declared.edges.Edge.{Edge}
use Rattle.wait_index.specs.Net.{Net, is_closed}

-- What is at a node: whether it is a root, what it offers, in order, and what it awaits, if
-- anything.
pub record NodeSpec (A : Type 0) : Type 0 where
  pub rooted : Bool
  pub offers : List A
  pub awaits : Option A

-- an edge by its node and what its label means
pub record LabelledEdge (A : Type 0) : Type 0 where
  pub node : ℕ
  pub label : Option A

abbrev pub labelled_edge_at : {A : Type 0} → ℕ → A → LabelledEdge A
labelled_edge_at node label = record { node = node; label = Some label }

-- one edge for each of these of each node, and no other; the first of the nodes has this number
abbrev pub labelled_edges_from : {A : Type 0} → (NodeSpec A → List A) → ℕ → List (NodeSpec A)
    → List (LabelledEdge A)
labelled_edges_from of node [] = []
labelled_edges_from of node (spot ∷ spots) = map (labelled_edge_at node) (of spot)
    ++ labelled_edges_from of (node + 1) spots

abbrev pub offered_at : {A : Type 0} → NodeSpec A → List A
offered_at spot = spot.offers

abbrev pub awaited_at : {A : Type 0} → NodeSpec A → List A
awaited_at spot = option_to_list spot.awaits

-- what the edges of a net are, given what each label means
abbrev pub offer_edge : {A : Type 0} → List A → Edge → LabelledEdge A
offer_edge labels edge = record { node = edge.from; label = slice_get labels edge.to }

abbrev pub wait_edge : {A : Type 0} → List A → Edge → LabelledEdge A
wait_edge labels edge = record { node = edge.to; label = slice_get labels edge.from }

-- Some spot offers the label or awaits it.
pub record IsUsed {A : Type 0} (spots : List (NodeSpec A)) (label : A) : Type 0 where
  pub spot : NodeSpec A
  pub placed : Contains spots spot
  pub uses : Contains spot.offers label ⊎ (spot.awaits ≡ Some label)

-- The net has one node for each spot, for each spot one offer edge for each of its offers and a
-- wait edge if it awaits something, one label for each that is offered or awaited, and no other of
-- these. The labels are different, and closed exactly if they are shut.
pub record Represents {A : Type 0} (spots : List (NodeSpec A)) (labels : List A) (IsShut : A
    → Type 0)
    (net : Net) : Type 0 where
  pub roots : net.roots ≡ map (λ spot. spot.rooted) spots
  pub sizes : length net.closed ≡ length labels
  pub closed : (number : ℕ) (label : A) → slice_get labels number ≡ Some label
      → (is_closed net number ≡ true) ↔ IsShut label
  pub offers : map (offer_edge labels) net.offers ≡ labelled_edges_from offered_at 0 spots
  pub waits : map (wait_edge labels) net.waits ≡ labelled_edges_from awaited_at 0 spots
  pub once : AllPairs ◌≢◌ labels
  pub used : (label : A) → Contains labels label → IsUsed spots label

-- a spot without any of it
abbrev pub bare_node : {A : Type 0} → NodeSpec A
bare_node = record { rooted = false; offers = []; awaits = None }

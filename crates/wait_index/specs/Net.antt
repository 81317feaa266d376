-- Which nodes are reached
use Rattle.std.specs.Prelude.{◌≡◌, ℕ, ◌+◌, ◌==◌, ◌&&◌, ◌++◌, ◌∷◌, [], Bool, true, false, List, not}
use Rattle.std.specs.Prelude.{count_by, slice_index_or, slice_set, Contains, AllPairs, ◌≢◌, ◌↔◌}
use Rattle.std.specs.Prelude.{take, drop, fold}
use Rattle.std.specs.List.{list_any}
use Rattle.wait_index.specs.declared.edges.Edge.{Edge}
use Rattle.wait_index.specs.Edge.{IsEdge}

-- An offer edge leads from a node to a label that the node offers, a wait edge from a label to a
-- node that awaits it. `roots` says of each node whether it is a root, `closed` of each label
-- whether it is closed.
pub record Net : Type 0 where
  pub roots : List Bool
  pub closed : List Bool
  pub offers : List Edge
  pub waits : List Edge

abbrev pub is_root : Net → ℕ → Bool
is_root net node = slice_index_or net.roots node false

abbrev pub is_closed : Net → ℕ → Bool
is_closed net label = slice_index_or net.closed label false

-- The reached nodes are the roots and, if a reached node offers a label that is not closed, each
-- node that awaits the label.
pub data IsReached (net : Net) : ℕ → Type 0 where
  root : {node : ℕ} → is_root net node ≡ true → IsReached net node
  step : {node label next i j : ℕ} → IsReached net node → IsEdge net.offers i node label
      → is_closed net label ≡ false → IsEdge net.waits j label next → IsReached net next

-- A label is open if it is not closed and a reached node offers it.
pub record IsOpen (net : Net) (label : ℕ) : Type 0 where
  pub not_closed : is_closed net label ≡ false
  pub offered : (i : ℕ) × (node : ℕ) × IsEdge net.offers i node label × IsReached net node

-- The list has each reached node once, and no other.
pub record ListsReached (net : Net) (nodes : List ℕ) : Type 0 where
  pub reached : (node : ℕ) → Contains nodes node → IsReached net node
  pub all : (node : ℕ) → IsReached net node → Contains nodes node
  pub once : AllPairs ◌≢◌ nodes

-- the set has the roots, and with a node each one that awaits what the node offers, by a label that
-- is not closed
pub record IsClosedUnder (net : Net) (nodes : ℕ → Type 0) : Type 0 where
  pub roots : (node : ℕ) → is_root net node ≡ true → nodes node
  pub steps : (node label next i j : ℕ) → nodes node → IsEdge net.offers i node label
      → is_closed net label ≡ false → IsEdge net.waits j label next → nodes next

-- The new net has at least the roots and edges of the old one, and none of its labels is closed
-- that was not.
pub record IsMore (old new : Net) : Type 0 where
  pub roots : (node : ℕ) → is_root old node ≡ true → is_root new node ≡ true
  pub closed : (label : ℕ) → is_closed new label ≡ true → is_closed old label ≡ true
  pub offers : (i node label : ℕ) → IsEdge old.offers i node label
      → (k : ℕ) × IsEdge new.offers k node label
  pub waits : (i label node : ℕ) → IsEdge old.waits i label node
      → (k : ℕ) × IsEdge new.waits k label node

-- The nets after one call

abbrev pub with_node : Net → Net
with_node net = record net { roots = net.roots ++ false ∷ [] }

abbrev pub with_label : Net → Bool → Net
with_label net closed = record net { closed = net.closed ++ closed ∷ [] }

abbrev pub with_offer : Net → ℕ → ℕ → Net
with_offer net node label = record net
    { offers = net.offers ++ record { from = node; to = label } ∷ [] }

abbrev pub with_wait : Net → ℕ → ℕ → Net
with_wait net label node = record net
    { waits = net.waits ++ record { from = label; to = node } ∷ [] }

abbrev pub with_root : Net → ℕ → Net
with_root net node = record net { roots = slice_set net.roots node true }

abbrev pub with_closed : Net → ℕ → Net
with_closed net label = record net { closed = slice_set net.closed label true }

-- the net after labels are closed one after another
abbrev pub with_all_closed : Net → List ℕ → Net
with_all_closed net labels = record net
    { closed = fold (λ closed label. slice_set closed label true) net.closed labels }

-- whether a wait edge leads to the node
abbrev pub has_wait : Net → ℕ → Bool
has_wait net node = list_any (λ edge. edge.to == node) net.waits

-- Work

-- whether a node is in the list
abbrev pub is_among : List ℕ → ℕ → Bool
is_among nodes node = list_any (λ other. other == node) nodes

-- whether a label is not closed and a node of the list offers it
abbrev pub is_open_among : Net → List ℕ → ℕ → Bool
is_open_among net nodes label = not (is_closed net label)
    && list_any (λ edge. (edge.to == label) && is_among nodes edge.from) net.offers

-- how many offer edges lead from nodes of the list, and how many wait edges from labels that are
-- open by them
abbrev pub visits_of : Net → List ℕ → ℕ
visits_of net nodes = count_by (λ edge. is_among nodes edge.from) net.offers
    + count_by (λ edge. is_open_among net nodes edge.from) net.waits

-- The labels that are taken back: those to be closed that are open and, with each that is taken
-- back, the labels that are not closed and that a node offers which awaits it and is not a root.
pub data IsTakenBack (net : Net) (closing : List ℕ) : ℕ → Type 0 where
  itself : {label : ℕ} → Contains closing label → IsOpen net label → IsTakenBack net closing label
  beyond : {here node there i j : ℕ} → IsTakenBack net closing here → IsEdge net.waits i here node
      → is_root net node ≡ false → IsEdge net.offers j node there → is_closed net there ≡ false
      → IsTakenBack net closing there

-- The set has exactly the labels that are taken back with those that are to be closed.
pub record AreTakenBack (net : Net) (closing : List ℕ) (labels : ℕ → Bool) : Type 0 where
  pub only : (label : ℕ) → labels label ≡ true → IsTakenBack net closing label
  pub all : (label : ℕ) → IsTakenBack net closing label → labels label ≡ true

-- whether the node is not a root and awaits a label of the set
abbrev pub falls_with : Net → (ℕ → Bool) → ℕ → Bool
falls_with net labels node = not (is_root net node)
    && list_any (λ edge. (edge.to == node) && labels edge.from) net.waits

-- how many offer edges lead from nodes that fall with the labels of the set, and how many wait
-- edges from the labels
abbrev pub edges_taken_back : Net → (ℕ → Bool) → ℕ
edges_taken_back net labels = count_by (λ edge. falls_with net labels edge.from) net.offers
    + count_by (λ edge. labels edge.from) net.waits

-- Closing the labels is this much work: one for each edge that is taken back, and one for each that
-- is followed again, which brings the visits from what they were before to what they are after.
pub record ClosesIn (net : Net) (closing : List ℕ) (before after count : ℕ) : Type 0 where
  pub labels : ℕ → Bool
  pub taken_back : AreTakenBack net closing labels
  pub again : ℕ
  pub visits : before + again ≡ after + edges_taken_back net labels
  pub work : count ≡ edges_taken_back net labels + again

-- The set has the labels that are to be closed and are open and, with a label, each label that is
-- offered by a node that awaits it.
pub record HasReachOf (net : Net) (closing : List ℕ) (labels : ℕ → Bool) : Type 0 where
  pub has : (label : ℕ) → Contains closing label → IsOpen net label → labels label ≡ true
  pub continues : (here node there i j : ℕ) → labels here ≡ true → IsEdge net.waits i here node
      → IsEdge net.offers j node there → labels there ≡ true

-- how many offer edges lead to labels of the set, and how many wait edges from them
abbrev pub edges_at : Net → (ℕ → Bool) → ℕ
edges_at net labels = count_by (λ edge. labels edge.to) net.offers
    + count_by (λ edge. labels edge.from) net.waits

-- What falls

-- A node falls with labels that are to be closed if it is not a root and awaits a label that is
-- taken back with them.
pub record IsFallen (net : Net) (closing : List ℕ) (node : ℕ) : Type 0 where
  pub not_root : is_root net node ≡ false
  pub awaits : (i : ℕ) × (label : ℕ) × IsEdge net.waits i label node × IsTakenBack net closing label

-- The list has each node that falls once. The first `kept` marked nodes are the reached ones that
-- do not fall, and after them come those that fell and were marked again.
pub record ReportsFallen (net : Net) (closing fallen : List ℕ) (kept : ℕ)
    (marked : List ℕ) : Type 0 where
  pub fell : (node : ℕ) → Contains fallen node ↔ IsFallen net closing node
  pub once : AllPairs ◌≢◌ fallen
  pub front : (node : ℕ) → Contains (take kept marked) node
      ↔ (IsReached net node × (IsFallen net closing node → ⊥))
  pub again : (node : ℕ) → Contains (drop kept marked) node
      ↔ (IsFallen net closing node × Contains marked node)

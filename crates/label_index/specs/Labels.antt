-- Labels in order, and what a caller sees of a net of them
use Rattle.std.specs.Prelude.{◌≡◌, ◌↔◌, ◌⊎◌, ℕ, ◌+◌, ◌-◌, ◌<◌, ◌≤◌, List, [], ◌∷◌, ◌++◌, Bool}
use Rattle.std.specs.Prelude.{true, false, length, min, take, All, AllPairs, Contains, slice_get}
use Rattle.std.specs.Prelude.{slice_index_or, Some}
use Rattle.std.specs.declared.cmp.Ordering.{Ordering}
use Rattle.std.specs.declared.cmp.Ordering.TheVariants.{Less}
use Rattle.std.specs.Ordering.{nat_cmp, ordering_then}
use Rattle.std.specs.Cmp.Lexicographic.{slice_cmp}
use Rattle.jwk_set.specs.declared.authority.KeyId.{KeyId}
use Rattle.sorted_order.specs.ArenaView.{ArenaView}
use Rattle.wait_index.specs.Index.{Index, Last}
use Rattle.wait_index.specs.Net.{Net, is_closed, ListsReached, with_node, with_label, with_offer}
use Rattle.wait_index.specs.Net.{with_wait, with_root, has_wait, visits_of, ClosesIn, ReportsFallen}
use Rattle.label_index.specs.declared.label.Label.{Label}

-- labels are ordered by domain number, key id and document id, so those of a key are together
abbrev pub label_cmp : Label → Label → Ordering
label_cmp a b =
    ordering_then (nat_cmp a.domain b.domain)
    (ordering_then (slice_cmp nat_cmp a.key.0 b.key.0)
    (slice_cmp nat_cmp a.document.0 b.document.0))

-- how a label compares to those of a key in a domain
abbrev pub cmp_to_key : ℕ → KeyId → Label → Ordering
cmp_to_key domain key label =
    ordering_then (nat_cmp label.domain domain) (slice_cmp nat_cmp label.key.0 key.0)

-- each comes before those after it
abbrev pub IsInOrder : List Label → Type 0
IsInOrder labels = AllPairs (λ a b. label_cmp a b ≡ Less) labels

-- what each label means, the net, the marked nodes, what the last close did, and for how many
-- nodes, and for how many edges with new labels, there is room
pub record LabelIndexView : Type 0 where
  pub labels : List Label
  pub net : Net
  pub marked : List ℕ
  pub last : Last
  pub nodes : ℕ
  pub edges : ℕ

-- for how many edges there is room, if each comes with a new label and the list of labels has room
-- for `listed`
abbrev pub labelled_edges_room : ArenaView Label → Index → ℕ → ℕ
labelled_edges_room stock index listed = min (min index.room.labels index.room.edges)
    (min stock.capacity listed - length stock.items)

abbrev pub label_view_of : ArenaView Label → Index → ℕ → LabelIndexView
label_view_of stock index listed = record {
  labels = stock.items;
  net = index.net;
  marked = index.marked;
  last = index.last;
  nodes = index.room.nodes;
  edges = labelled_edges_room stock index listed;
}

-- The net has one label for each, the marked nodes are the reached ones, and each label has room in
-- the list of those to be closed.
pub record IsLabelIndex (stock : ArenaView Label) (index : Index) (listed : ℕ) : Type 0 where
  pub sizes : length index.net.closed ≡ length stock.items
  pub reached : ListsReached index.net index.marked
  pub closing : length stock.items ≤ listed

-- ---- what one call does

-- Nothing but the room may have changed, and that may have grown.
pub record IsRoomierIndex (old new : LabelIndexView) : Type 0 where
  pub labels : new.labels ≡ old.labels
  pub net : new.net ≡ old.net
  pub marked : new.marked ≡ old.marked
  pub last : new.last ≡ old.last
  pub nodes : old.nodes ≤ new.nodes
  pub edges : old.edges ≤ new.edges

-- The label has this number: it had it before, or it was not there and comes last.
pub record HasNumber (labels : List Label) (net : Net) (label : Label) (closed : Bool)
    (more : List Label) (wider : Net) (number : ℕ) : Type 0 where
  pub named : slice_get more number ≡ Some label
  pub grown : ((more ≡ labels) × (wider ≡ net))
      ⊎ ((Contains labels label → ⊥) × (more ≡ labels ++ label ∷ [])
      × (wider ≡ with_label net closed))

-- A node is added.
pub record HasNode (old : LabelIndexView) (new : LabelIndexView) (node : ℕ) : Type 0 where
  pub number : node ≡ length old.net.roots
  pub labels : new.labels ≡ old.labels
  pub net : new.net ≡ with_node old.net
  pub awaits : has_wait new.net node ≡ false
  pub marked : new.marked ≡ old.marked
  pub last : new.last ≡ old.last
  pub nodes : old.nodes ≡ new.nodes + 1
  pub edges : new.edges ≡ old.edges

-- The node offers the label from now on; if that is new, it is closed as `closed` says.
pub record Offers (old : LabelIndexView) (node : ℕ) (label : Label) (closed : Bool)
    (new : LabelIndexView) : Type 0 where
  pub number : ℕ
  pub wider : Net
  pub numbered : HasNumber old.labels old.net label closed new.labels wider number
  pub net : new.net ≡ with_offer wider node number
  pub front : take (length old.marked) new.marked ≡ old.marked
  pub last : new.last ≡ old.last
  pub nodes : new.nodes ≡ old.nodes
  pub edges : old.edges ≤ new.edges + 1

-- The node awaits the label from now on; if that is new, it is closed as `closed` says.
pub record Awaits (old : LabelIndexView) (node : ℕ) (label : Label) (closed : Bool)
    (new : LabelIndexView) : Type 0 where
  pub number : ℕ
  pub wider : Net
  pub numbered : HasNumber old.labels old.net label closed new.labels wider number
  pub net : new.net ≡ with_wait wider number node
  pub front : take (length old.marked) new.marked ≡ old.marked
  pub last : new.last ≡ old.last
  pub nodes : new.nodes ≡ old.nodes
  pub edges : old.edges ≤ new.edges + 1

-- The node is a root from now on.
pub record IsRooted (old : LabelIndexView) (node : ℕ) (new : LabelIndexView) : Type 0 where
  pub labels : new.labels ≡ old.labels
  pub net : new.net ≡ with_root old.net node
  pub front : take (length old.marked) new.marked ≡ old.marked
  pub last : new.last ≡ old.last
  pub nodes : new.nodes ≡ old.nodes
  pub edges : new.edges ≡ old.edges

-- a label of the key in the domain, of whatever document
abbrev pub IsOfKey : ℕ → KeyId → Label → Type 0
IsOfKey domain key label = (label.domain ≡ domain) × (label.key ≡ key)

-- These are the numbers of the labels that are meant, in whatever order.
pub record AreNumbersOf (labels : List Label) (IsMeant : Label → Type 0) (numbers : List ℕ)
    : Type 0 where
  pub within : All (λ number. number < length labels) numbers
  pub exactly : (number : ℕ) (label : Label) → slice_get labels number ≡ Some label
      → Contains numbers number ↔ IsMeant label

-- The labels that are meant are closed from now on, and the others are as they were.
pub record HasClosed (net : Net) (labels : List Label) (IsMeant : Label → Type 0) (after : Net)
    : Type 0 where
  pub flags : List Bool
  pub sizes : length flags ≡ length net.closed
  pub closed : (number : ℕ) (label : Label) → slice_get labels number ≡ Some label
      → (slice_index_or flags number false ≡ true) ↔ ((is_closed net number ≡ true) ⊎ IsMeant label)
  pub net_is : after ≡ record net { closed = flags }

-- The labels that are meant are closed from now on, all together, with this much work: the number
-- of times that an edge was looked at. There are no more visits than before. The last close says
-- what fell.
pub record Closes (old : LabelIndexView) (IsMeant : Label
    → Type 0) (new : LabelIndexView) (count : ℕ)
    : Type 0 where
  pub labels : new.labels ≡ old.labels
  pub net : HasClosed old.net old.labels IsMeant new.net
  pub nodes : new.nodes ≡ old.nodes
  pub edges : new.edges ≡ old.edges
  pub numbers : List ℕ
  pub are : AreNumbersOf old.labels IsMeant numbers
  pub work : ClosesIn old.net numbers (visits_of old.net old.marked)
      (visits_of new.net new.marked) count
  pub fewer : visits_of new.net new.marked ≤ visits_of old.net old.marked
  pub fallen : ReportsFallen old.net numbers new.last.fallen new.last.kept new.marked
  pub many : length new.last.fallen + new.last.kept ≡ length old.marked

-- What is kept about the marked nodes and open labels of a net, as plain lists
use Rattle.std.specs.Prelude.{◌≡◌, ℕ, ◌+◌, ◌-◌, ◌<◌, ◌==◌, ◌&&◌, ◌||◌, Bool, true, false, not, min}
use Rattle.std.specs.Prelude.{List, length, slice_index, slice_index_or, slice_set, take}
use Rattle.std.specs.Prelude.{vec_capacity, ◌⊎◌, Contains}
use Rattle.wait_index.specs.declared.graph.Graph.{Graph}
use Rattle.wait_index.specs.declared.marks.Marks.{Marks}
use Rattle.wait_index.specs.Inside.Count.{count_below}
use Rattle.wait_index.specs.Edge.{IsEdge, from_at, to_at}
use Rattle.wait_index.specs.Inside.Listing.{holds}
use Rattle.wait_index.specs.Net.{Net, is_closed, is_root}

abbrev pub net_of : Graph → Net
net_of graph = record {
  roots = graph.roots.items;
  closed = graph.closed.items;
  offers = graph.offers.edges.items;
  waits = graph.waits.edges.items;
}

-- the marked nodes with the place of each, how many followed offer edges lead to each label,
-- whether the wait edges of each label are followed, the labels whose wait edges are to be looked
-- at again, and the visits
pub record Tally : Type 0 where
  pub marked : List ℕ
  pub places : List ℕ
  pub support : List ℕ
  pub opened : List Bool
  pub touched : List ℕ
  pub touched_places : List ℕ
  pub visits : ℕ

abbrev pub tally_of : Marks → Tally
tally_of m = record {
  marked = m.marked.items.items;
  places = m.marked.places.items;
  support = m.support.items;
  opened = m.opened.items;
  touched = m.touched.items.items;
  touched_places = m.touched.places.items;
  visits = m.visits;
}

-- how many nodes, and how many labels, there is room for in all
pub record Capacity : Type 0 where
  pub nodes : ℕ
  pub labels : ℕ

abbrev pub marks_capacity : Marks → Capacity
marks_capacity m = record {
  nodes = min (vec_capacity m.marked.items)
      (vec_capacity m.marked.places);
  labels = min (min (vec_capacity m.support) (vec_capacity m.opened))
      (min (vec_capacity m.touched.items) (vec_capacity m.touched.places));
}

-- one entry for each node, and one for each label
pub record HasSizes (net : Net) (t : Tally) : Type 0 where
  pub places : length t.places ≡ length net.roots
  pub support : length t.support ≡ length net.closed
  pub opened : length t.opened ≡ length net.closed
  pub touched : length t.touched_places ≡ length net.closed

abbrev pub is_marked_in : Tally → ℕ → Bool
is_marked_in t node = holds t.places node

abbrev pub is_touched_in : Tally → ℕ → Bool
is_touched_in t label = holds t.touched_places label

abbrev pub is_open_in : Tally → ℕ → Bool
is_open_in t label = slice_index_or t.opened label false

abbrev pub support_in : Tally → ℕ → ℕ
support_in t label = slice_index t.support label

-- how many wait edges the label has, and how many offer edges the node has
abbrev pub waits_of : Net → ℕ → ℕ
waits_of net label = count_below (λ i. from_at net.waits i == label) (length net.waits)

abbrev pub offer_count_of : Net → ℕ → ℕ
offer_count_of net node = count_below (λ i. from_at net.offers i == node) (length net.offers)

-- how many offer edges the node has to the label
abbrev pub offers_between : Net → ℕ → ℕ → ℕ
offers_between net node label = count_below
    (λ i. (from_at net.offers i == node) && (to_at net.offers i == label)) (length net.offers)

-- What one function does

-- the node is marked from now on, and nothing else changes
pub record MarksNode (node : ℕ) (old new : Tally) : Type 0 where
  pub front : take (length old.marked) new.marked ≡ old.marked
  pub held : (n : ℕ) → is_marked_in new n ≡ (is_marked_in old n || (n == node))
  pub size : length new.places ≡ length old.places
  pub support : new.support ≡ old.support
  pub opened : new.opened ≡ old.opened
  pub touched : new.touched ≡ old.touched
  pub touched_places : new.touched_places ≡ old.touched_places
  pub visits : new.visits ≡ old.visits

-- the wait edges of the label are followed: each node that awaits it is marked from now on
pub record Releases (net : Net) (label : ℕ) (old new : Tally) : Type 0 where
  pub front : take (length old.marked) new.marked ≡ old.marked
  pub kept : (n : ℕ) → is_marked_in old n ≡ true → is_marked_in new n ≡ true
  pub all : (i : ℕ) → i < length net.waits → from_at net.waits i ≡ label
      → is_marked_in new (to_at net.waits i) ≡ true
  pub only : (n : ℕ) → is_marked_in new n ≡ true
      → (is_marked_in old n ≡ true) ⊎ ((i : ℕ) × IsEdge net.waits i label n)
  pub size : length new.places ≡ length old.places
  pub support : new.support ≡ old.support
  pub opened : new.opened ≡ old.opened
  pub touched : new.touched ≡ old.touched
  pub touched_places : new.touched_places ≡ old.touched_places
  pub visits : new.visits ≡ old.visits + waits_of net label

-- the label does not change
pub record Leaves (net : Net) (label : ℕ) (old new : Tally) : Type 0 where
  pub why : (support_in old label ≡ 0)
      ⊎ ((is_closed net label ≡ true) ⊎ (is_open_in old label ≡ true))
  pub same : new ≡ old

-- the label is opened, and its wait edges are followed
pub record Opens (net : Net) (label : ℕ) (old new : Tally) : Type 0 where
  pub supported : 0 < support_in old label
  pub not_closed : is_closed net label ≡ false
  pub shut : is_open_in old label ≡ false
  pub releases : Releases net label (record old { opened = slice_set old.opened label true }) new

-- the label is opened if a followed edge leads to it and it is neither closed nor open
abbrev pub SettlesLabel : Net → ℕ → Tally → Tally → Type 0
SettlesLabel net label old new = Leaves net label old new ⊎ Opens net label old new

-- one offer edge to the label is followed
abbrev pub Supports : Net → ℕ → Tally → Tally → Type 0
Supports net label old new = SettlesLabel net label
    (record old {
      support = slice_set old.support label (support_in old label + 1);
      visits = old.visits + 1;
    }) new

-- if the label is open, its wait edges are to be looked at
pub record Touches (label : ℕ) (old new : Tally) : Type 0 where
  pub same : new ≡ record old { touched = new.touched; touched_places = new.touched_places }
  pub front : take (length old.touched) new.touched ≡ old.touched
  pub touched : (l : ℕ) → is_touched_in new l
      ≡ (is_touched_in old l || ((l == label) && is_open_in old label))
  pub size : length new.touched_places ≡ length old.touched_places

-- the wait edges of the labels that are open are to be looked at
pub record TouchesAll (labels : List ℕ) (old new : Tally) : Type 0 where
  pub same : new ≡ record old { touched = new.touched; touched_places = new.touched_places }
  pub kept : (l : ℕ) → is_touched_in old l ≡ true → is_touched_in new l ≡ true
  pub all : (l : ℕ) → Contains labels l → is_open_in old l ≡ true → is_touched_in new l ≡ true
  pub only : (l : ℕ) → is_touched_in new l ≡ true
      → (is_touched_in old l ≡ true) ⊎ (Contains labels l × (is_open_in old l ≡ true))
  pub size : length new.touched_places ≡ length old.touched_places

-- one offer edge to the label is taken back: if the label is open, its wait edges are to be looked
-- at
pub record Withdraws (label : ℕ) (old new : Tally) : Type 0 where
  pub marked : new.marked ≡ old.marked
  pub places : new.places ≡ old.places
  pub support : new.support ≡ slice_set old.support label (support_in old label - 1)
  pub opened : new.opened ≡ old.opened
  pub front : take (length old.touched) new.touched ≡ old.touched
  pub touched : (l : ℕ) → is_touched_in new l
      ≡ (is_touched_in old l || ((l == label) && is_open_in old label))
  pub size : length new.touched_places ≡ length old.touched_places
  pub visits : new.visits ≡ old.visits - 1

-- the offer edges of the node are taken back
pub record WithdrawsAll (net : Net) (node : ℕ) (old new : Tally) : Type 0 where
  pub marked : new.marked ≡ old.marked
  pub places : new.places ≡ old.places
  pub support : (l : ℕ) → l < length old.support
      → support_in new l + offers_between net node l ≡ support_in old l
  pub supports : length new.support ≡ length old.support
  pub opened : new.opened ≡ old.opened
  pub front : take (length old.touched) new.touched ≡ old.touched
  pub kept : (l : ℕ) → is_touched_in old l ≡ true → is_touched_in new l ≡ true
  pub all : (i : ℕ) → i < length net.offers → from_at net.offers i ≡ node
      → is_open_in old (to_at net.offers i) ≡ true → is_touched_in new (to_at net.offers i) ≡ true
  pub only : (l : ℕ) → is_touched_in new l ≡ true
      → (is_touched_in old l ≡ true)
      ⊎ ((is_open_in old l ≡ true) × ((i : ℕ) × IsEdge net.offers i node l))
  pub size : length new.touched_places ≡ length old.touched_places
  pub visits : new.visits + offer_count_of net node ≡ old.visits

-- the node is no longer marked, and nothing else changes
pub record UnmarksNode (node : ℕ) (old new : Tally) : Type 0 where
  pub held : (n : ℕ) → is_marked_in new n ≡ (is_marked_in old n && not (n == node))
  pub size : length new.places ≡ length old.places
  pub support : new.support ≡ old.support
  pub opened : new.opened ≡ old.opened
  pub touched : new.touched ≡ old.touched
  pub touched_places : new.touched_places ≡ old.touched_places
  pub visits : new.visits ≡ old.visits

-- a node that is not a root is no longer marked, and its offer edges are taken back; a root does
-- not change
abbrev pub Falls : Net → ℕ → Tally → Tally → Type 0
Falls net node old new = ((is_root net node ≡ true) × (new ≡ old))
    ⊎ ((is_root net node ≡ false)
    × ((between : Tally) × UnmarksNode node old between × WithdrawsAll net node between new))

-- if the label is open, one wait edge from it is followed: the node is marked
abbrev pub FollowsWait : ℕ → ℕ → Tally → Tally → Type 0
FollowsWait label node old
    new = ((is_open_in old label ≡ true)
    × MarksNode node (record old { visits = old.visits + 1 }) new)
    ⊎ ((is_open_in old label ≡ false) × (new ≡ old))

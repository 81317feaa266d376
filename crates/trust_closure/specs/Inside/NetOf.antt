-- The nodes of the index of a closure: one for each configured document and one for each receipt
use Rattle.std.specs.Prelude.{ℕ, ◌<◌, List, [], ◌++◌, true, false, length, map, Some, None}
use Rattle.std.specs.Prelude.{slice_get, slice_index_or, ◌≡◌, ◌+◌, ◌≤◌, take}
use Rattle.std.specs.List.{All}
use Rattle.fed_config.specs.Configuration.{Configuration, AreDomains}
use Rattle.fed_config.specs.declared.seed.Seed.{Seed}
use Rattle.wait_index.specs.Net.{Net}
use Rattle.receipt_core.specs.declared.distrust.Distrust.{Distrust}
use Rattle.receipt_core.specs.declared.triple.Triple.{Triple}
use Rattle.receipt_core.specs.Receipt.{Receipt, pair_of, offers_of, need_of}
use Rattle.receipt_core.specs.Acceptance.{pair_of_seed}
use Rattle.label_index.specs.declared.label.Label.{Label}
use Rattle.label_index.specs.Labels.{LabelIndexView}
use Rattle.closure_parts.specs.Held.{IsShutBy}
use Rattle.trust_closure.specs.Inside.NodeSpecs.{NodeSpec, Represents}

-- A configured document's node is a root and awaits nothing.
abbrev pub seed_node : Seed → NodeSpec Triple
seed_node s = record { rooted = true; offers = offers_of (pair_of_seed s); awaits = None }

-- A receipt's node is not a root, and awaits what the receipt needs.
abbrev pub receipt_node : Receipt → NodeSpec Triple
receipt_node r = record {
  rooted = false;
  offers = offers_of (pair_of r);
  awaits = Some (need_of r);
}

abbrev pub node_specs_of : List Seed → List Receipt → List (NodeSpec Triple)
node_specs_of seeds arrivals = map seed_node seeds ++ map receipt_node arrivals

-- The net has exactly the nodes and edges of the configured documents and of the receipts, in order
-- of arrival, and the labels of distrusted keys are closed.
abbrev pub IsNetOf : List Seed → List Receipt → List Distrust → List Triple → Net → Type 0
IsNetOf seeds arrivals records labels net = Represents (node_specs_of seeds arrivals) labels
    (IsShutBy records) net

-- what a label means, given the domains by number
abbrev pub triple_by : List (List ℕ) → Label → Triple
triple_by domains label =
    record {
      domain = slice_index_or domains label.domain [];
      document = label.document;
      key = label.key;
    }

-- The label means the triple, whatever list of the configuration's domains numbers them.
pub record IsLabelOf (c : Configuration) (t : Triple) (label : Label) : Type 0 where
  pub domain : (domains : List (List ℕ)) → AreDomains c domains
      → slice_get domains label.domain ≡ Some t.domain
  pub document : label.document ≡ t.document
  pub key : label.key ≡ t.key

-- The label index represents these nodes: its labels name domains that are there, and mean what the
-- nodes offer and await.
pub record IsLabelIndexOf (domains : List (List ℕ)) (records : List Distrust)
    (spots : List (NodeSpec Triple)) (w : LabelIndexView) : Type 0 where
  pub within : All (λ label. label.domain < length domains) w.labels
  pub mirrors : Represents spots (map (triple_by domains) w.labels) (IsShutBy records) w.net

-- Edges are added at a node: what was marked remains in its place, and this many edges have
-- taken room.
pub record Widens (edges : ℕ) (old new : LabelIndexView) : Type 0 where
  pub roots : length new.net.roots ≡ length old.net.roots
  pub front : take (length old.marked) new.marked ≡ old.marked
  pub nodes : new.nodes ≡ old.nodes
  pub room : old.edges ≤ new.edges + edges

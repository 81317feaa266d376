-- Which lists are those of one net
use Rattle.std.specs.Prelude.{◌≡◌, ℕ, ◌<◌, Bool, List, length}
use Rattle.wait_index.specs.declared.edges.Edge.{Edge}
use Rattle.wait_index.specs.Edge.{to_at}

-- Each node has its list of offer edges and each label its list of wait edges. Edges lead to labels
-- and nodes that are there, and at most one wait edge leads to a node.
pub record IsShaped (roots closed : List Bool) (offers : List Edge) (offer_owners : List ℕ)
    (waits : List Edge) (wait_owners : List ℕ) : Type 0 where
  pub nodes_listed : length offer_owners ≡ length roots
  pub labels_listed : length wait_owners ≡ length closed
  pub labels : (i : ℕ) → i < length offers → to_at offers i < length closed
  pub nodes : (i : ℕ) → i < length waits → to_at waits i < length roots
  pub once : (i j : ℕ) → i < length waits → j < length waits → to_at waits i ≡ to_at waits j → i ≡ j

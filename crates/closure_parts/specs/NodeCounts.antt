-- How many of the marked nodes have each of the different documents
use Rattle.std.specs.Prelude.{◌≡◌, ◌+◌, ◌==◌, ℕ, List, length, count_by}
use Rattle.std.specs.Prelude.{slice_index_or}
use Rattle.closure_core.specs.Inside.Nodes.{count_at}

-- the number of the first node with the node's document
abbrev pub first_of_node : List ℕ → ℕ → ℕ
first_of_node heads node = slice_index_or heads node 0

-- how many of the nodes have the document with the number
abbrev pub nodes_with : List ℕ → List ℕ → ℕ → ℕ
nodes_with heads nodes number = count_by (λ node. first_of_node heads node == number) nodes

-- The count of each document is how many of these nodes have it.
abbrev pub AreCounts : List ℕ → List ℕ → List ℕ → Type 0
AreCounts heads nodes counts = (number : ℕ)
    → count_at counts number ≡ nodes_with heads nodes number

-- Each of the nodes adds one to the count of its document.
pub record AddsNodes (heads nodes old new : List ℕ) : Type 0 where
  pub size : length new ≡ length old
  pub each : (number : ℕ)
      → count_at new number ≡ count_at old number + nodes_with heads nodes number

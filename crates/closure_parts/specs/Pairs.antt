-- Different documents of domains, in order, each by the number of the first that came
use Rattle.std.specs.Prelude.{◌≡◌, ℕ, ◌<◌, ◌≤◌, ◌⊎◌, List, [], AllPairs, true, length, Contains}
use Rattle.std.specs.Prelude.{slice_get, slice_index_or, Some, None}
use Rattle.std.specs.List.{All, insert, filter}
use Rattle.std.specs.declared.cmp.Ordering.{Ordering}
use Rattle.std.specs.declared.cmp.Ordering.TheVariants.{Less, Equal}
use Rattle.std.specs.Ordering.{ordering_then}
use Rattle.fed_config.specs.Configuration.{domain_cmp}
use Rattle.bundle_doc.specs.Bundle.{Bundle, IsBundle}
use Rattle.receipt_core.specs.Receipt.{Pair}
use Rattle.sorted_order.specs.Sought.{IsMissing, is_equal}
use Rattle.closure_core.specs.Inside.Nodes.{flags_of, is_raised, raised_documents}
use Rattle.closure_core.specs.AcceptedList.{document_cmp}

-- pairs are ordered by domain, and then as documents
abbrev pub pair_cmp : Pair → Pair → Ordering
pair_cmp p q = ordering_then (domain_cmp p.domain q.domain) (document_cmp p.document q.document)

-- what is past the last pair
abbrev pub no_documents : Pair
no_documents = record {
  domain = [];
  document = record { authorities = []; rank = None; hint = None };
}

abbrev pub pair_at : List Pair → ℕ → Pair
pair_at pairs number = slice_index_or pairs number no_documents

-- the numbers in order, each node's first number, how many marked nodes have each number's
-- document, and how many nodes there is room for in all
pub record DocumentTableView : Type 0 where
  pub numbers : List ℕ
  pub heads : List ℕ
  pub counts : List ℕ
  pub capacity : ℕ

-- the pairs with these numbers rise
abbrev pub AreRising : List Pair → List ℕ → Type 0
AreRising pairs numbers = AllPairs (λ i j. pair_cmp (pair_at pairs i) (pair_at pairs j) ≡ Less)
    numbers

-- The numbers are those of different pairs, in order; and each pair has the number of the first
-- that is equal.
pub record IsDocumentTable (pairs : List Pair) (p : DocumentTableView) : Type 0 where
  pub sizes : length p.heads ≡ length pairs
  pub counted : length p.counts ≡ length pairs
  pub forms : All (λ q. IsBundle q.document) pairs
  pub within : All (λ n. n < length pairs) p.numbers
  pub few : length p.numbers ≤ length pairs
  pub rising : AreRising pairs p.numbers
  pub first : (node number : ℕ) → slice_get p.heads node ≡ Some number
      → Contains p.numbers number × (slice_get pairs number ≡ slice_get pairs node)

-- The pair has this number: one among those in order that has it, or, if none has, the number that
-- is put in its place.
abbrev pub PutsFirst : List Pair → Pair → ℕ → List ℕ → List ℕ → ℕ → Type 0
PutsFirst pairs p number old new
    first = ((new ≡ old) × Contains old first × (pair_cmp (pair_at pairs first) p ≡ Equal))
    ⊎ ((first ≡ number) × ((place : ℕ) × (new ≡ insert old place number)
    × IsMissing (λ n. pair_cmp (pair_at pairs n) p) old place))

-- the pair has a number whose flag is raised
pub record HasRaised (pairs : List Pair) (p : DocumentTableView) (q : Pair) : Type 0 where
  pub number : ℕ
  pub has : Contains p.numbers number
  pub at : slice_get pairs number ≡ Some q
  pub raised : is_raised (flags_of p.counts) number ≡ true

-- the numbers of the domain's pairs
abbrev pub numbers_of : List Pair → List ℕ → List ℕ → List ℕ
numbers_of pairs numbers domain = filter
    (λ n. is_equal (domain_cmp (pair_at pairs n).domain domain)) numbers

-- the domain's documents whose flags are raised, in order
abbrev pub raised_of : List Pair → DocumentTableView → List ℕ → List Bundle
raised_of pairs p domain = raised_documents pairs (flags_of p.counts)
    (numbers_of pairs p.numbers domain)

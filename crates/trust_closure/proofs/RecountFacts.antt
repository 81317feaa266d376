-- What the last close left of the marked nodes, and what it took
use Rattle.std.proofs.Common.{◌≡◌, ℕ, ◌+◌, ◌<◌, ◌≤◌, ◌==◌, inl, inr, cond, List, [], ◌∷◌, ◌++◌, length, get_or, take, drop, arith, sym, ap, ◌∙◌, subst}
use Rattle.std.specs.Prelude.{Contains, AllPairs, ◌≢◌}
use Rattle.std.specs.List.{All}
use Rattle.std.proofs.lemmas.Bool.{cases_Bool, both_ways}
use Rattle.std.proofs.lemmas.List.{length-append, length-take, take-append-drop}
use Rattle.std.proofs.lemmas.List.Elements.{Contains-append_left, Contains-append_right, Contains-append_cases, Contains-get_or, All-contains}
use Rattle.std.proofs.lemmas.List.Sums.{sum_by-append}
use Rattle.wait_index.specs.Net.{Net, IsReached, step, IsOpen, ListsReached, IsTakenBack, itself, beyond, IsFallen, ReportsFallen, is_among}
use Rattle.closure_core.specs.Count.{AreDifferent}
use Rattle.closure_parts.specs.NodeCounts.{first_of_node, nodes_with}
use Rattle.closure_core.proofs.ContainsFacts.{contains_first, contains_later}
use Rattle.closure_core.proofs.CountFacts.{no_longer, no_more}
use Rattle.closure_parts.proofs.NodeCountFacts.{nodes_with-append}
use Rattle.trust_closure.proofs.IndexFacts.{among-from, among-to, different-from_pairs, length-unmarked}

-- What is taken back was open.
taken-open : (net : Net) (closing : List ℕ) (label : ℕ) → IsTakenBack net closing label
    → IsOpen net label
taken-open net closing label (itself c o) = o
taken-open net closing label (beyond {here = here} {node = node} {i = i} {j = j} b w r e c) =
    let o = taken-open net closing here b in
    record { not_closed = c; offered = (j, node, e, step o.offered.3 o.offered.2 o.not_closed w) }

-- A node that falls was reached.
fallen-reached : (net : Net) (closing : List ℕ) (node : ℕ) → IsFallen net closing node
    → IsReached net node
fallen-reached net closing node f =
    let o = taken-open net closing f.awaits.1 f.awaits.3 in
    step o.offered.3 o.offered.2 o.not_closed f.awaits.2

-- ---- different items

-- Lists of different items, which have none in common, are different together.
different-both : {T : Type 0} (xs ys : List T) → AreDifferent xs → AreDifferent ys
    → ((x : T) → Contains xs x → Contains ys x → ⊥) → AreDifferent (xs ++ ys)
different-both [] ys d e apart = e
different-both (x ∷ xs) ys d e apart = (
  λ c. elim (Contains-append_cases xs ys x c)
      [ inl a ↦ d.0 a | inr a ↦ apart x (contains_first x xs) a ],
  different-both xs ys d.1 e (λ y a b. apart y (contains_later x xs y a) b),
)

-- The front of different items is different.
different-front : {T : Type 0} (xs ys : List T) → AreDifferent (xs ++ ys) → AreDifferent xs
different-front [] ys d = tt
different-front (x ∷ xs) ys d = (
  λ c. d.0 (Contains-append_left xs ys x c),
  different-front xs ys
      d.1,
)

-- The rest of different items is different.
different-back : {T : Type 0} (xs ys : List T) → AreDifferent (xs ++ ys) → AreDifferent ys
different-back [] ys d = d
different-back (x ∷ xs) ys d = different-back xs ys d.1

-- ---- the nodes that were marked are those that remain marked and those that fell

module _ (net : Net) (old closing fallen : List ℕ) (kept : ℕ) (marked : List ℕ)
    (r : ListsReached net old) (t : ReportsFallen net closing fallen kept marked)
    (once : AllPairs ◌≢◌ marked) where
  -- The nodes that are marked now are different.
  different : AreDifferent (take kept marked ++ drop kept marked)
  different = subst AreDifferent (sym (take-append-drop kept marked))
      (different-from_pairs marked once)

  -- The nodes that stayed and those that fell are different.
  whole : AreDifferent (take kept marked ++ fallen)
  whole = different-both (take kept marked) fallen
      (different-front (take kept marked) (drop kept marked) different)
      (different-from_pairs fallen t.once) (λ n a b. ((t.front n).0 a).1 ((t.fell n).0 b))

  -- The nodes that stayed and those that fell were marked.
  was : (n : ℕ) → Contains (take kept marked ++ fallen) n → Contains old n
  was n c = elim (Contains-append_cases (take kept marked) fallen n c) [
    | inl a ↦ r.all n ((t.front n).0 a).0
    | inr a ↦ r.all n (fallen-reached net closing n ((t.fell n).0 a))
  ]

  -- What was marked stayed or fell.
  placed : (n : ℕ) → Contains old n → Contains (take kept marked ++ fallen) n
  placed n c = elim (cases_Bool (is_among fallen n)) [
    | inl a ↦ Contains-append_right (take kept marked) fallen n (among-to fallen n a)
    | inr a ↦ Contains-append_left (take kept marked) fallen n
        ((t.front n).1 (
          r.reached n c,
          λ f. both_ways (is_among fallen n) a
              (among-from fallen n ((t.fell n).1 f)),
        ))
  ]

  -- What is marked again had fallen.
  again : (n : ℕ) → Contains (drop kept marked) n → Contains fallen n
  again n c = (t.fell n).1 ((t.again n).0 c).0

  -- Each document had, of the marked nodes, the number of those that remained and of those that
  -- fell.
  pub nodes-before : (heads : List ℕ) (n : ℕ)
      → nodes_with heads old n ≡ nodes_with heads (take kept marked) n + nodes_with heads fallen
      n
  nodes-before heads n =
      let f : ℕ → ℕ = λ node. cond (first_of_node heads node == n) 1 0 in
      omega (
        arith,
        no_more f old (take kept marked ++ fallen) (different-from_pairs old r.once) placed,
        no_more f (take kept marked ++ fallen) old whole was,
        sum_by-append f (take kept marked) fallen,
      )

  -- Each document has, of the marked nodes, the number of those that remained and of those marked
  -- again.
  pub nodes-now : (heads : List ℕ) (n : ℕ)
      → nodes_with heads marked n ≡ nodes_with heads (take kept marked) n + nodes_with heads
      (drop kept marked) n
  nodes-now heads n = ap (λ ns. nodes_with heads ns n) (sym (take-append-drop kept marked))
      ∙ nodes_with-append heads (take kept marked) (drop kept marked) n

  -- no more are marked again than fell
  pub nodes-again : (heads : List ℕ) (n : ℕ)
      → nodes_with heads (drop kept marked) n ≤ nodes_with heads fallen n
  nodes-again heads n = no_more (λ node. cond (first_of_node heads node == n) 1 0)
      (drop kept marked) fallen (different-back (take kept marked) (drop kept marked) different)
      again

  -- The number of nodes that were marked is that of those that remained and of those that fell.
  lengths : length old ≡ length (take kept marked) + length fallen
  lengths = omega (
    arith,
    no_longer old (take kept marked ++ fallen) (different-from_pairs old r.once) placed,
    no_longer (take kept marked ++ fallen) old whole was,
    length-append (take kept marked) fallen,
  )

  -- The number of those that stayed is within the list of marked nodes.
  pub kept-within : length fallen + kept ≡ length old → kept ≤ length marked
  kept-within many = omega (arith, many, lengths, length-take kept marked)

  -- What holds of the nodes that were marked holds of those that fell.
  pub fallen-within : (P : ℕ → Type 0) → All P old → All P fallen
  fallen-within P h k d l = All-contains P old (get_or fallen k d) h
      (was (get_or fallen k d) (Contains-append_right (take kept marked) fallen (get_or fallen k d)
      (Contains-get_or fallen k d l)))

  -- What holds of the nodes that were marked holds of those that are marked again.
  pub again-within : (P : ℕ → Type 0) → All P old → All P (drop kept marked)
  again-within P h k d l = All-contains P fallen (get_or (drop kept marked) k d) (fallen-within P h)
      (again (get_or (drop kept marked) k d) (Contains-get_or (drop kept marked) k d l))

  -- there are no more marked nodes than there are nodes
  pub marked-few : (count : ℕ) → All (λ n. n < count) old
      → length (take kept marked) + length (drop kept marked) ≤ count
  marked-few count within = omega (
    arith,
    lengths,
    no_longer (drop kept marked) fallen (different-back (take kept marked) (drop kept marked)
        different) again,
    length-unmarked old count r.once within,
  )

-- How many of the marked nodes have each of the different documents
use Rattle.std.proofs.Common.{◌≡◌, ℕ, ◌+◌, ◌-◌, ◌<◌, ◌≤◌, ◌==◌, ◌⊎◌, eqb, inl, inr, Bool, true, false, cond, List, []}
use Rattle.std.proofs.Common.{◌∷◌, ◌++◌, length, get_or, set, take, drop, arith, refl, sym, ap, ◌∙◌, subst}
use Rattle.std.specs.Prelude.{Some, ◌↔◌}
use Rattle.std.specs.List.{All}
use Rattle.std.proofs.lemmas.Bool.{cases_lt, cases_eq, eq-eqb, eqb-true}
use Rattle.std.proofs.lemmas.List.{length-set, length-take, length_push, map-set, map_push, get_or_past}
use Rattle.std.proofs.lemmas.List.{get_or_append_left, get_or_push, get_or-set_same, get_or-set_other, take-append-drop}
use Rattle.std.proofs.lemmas.List.Elements.{All-tail}
use Rattle.std.specs.Prelude.{sum_by}
use Rattle.std.proofs.lemmas.List.Sums.{sum_by_push}
use Rattle.std.proofs.lemmas.List.Sums.{count_by-le-length, count_by_more_yes, count_by_more_no, sum_by-set, sum_by-append, sum_by-cons, sum_by-take-le}
use Rattle.std.proofs.lemmas.Option.{slice_get-get_or, get_or_from_slice_get}
use Rattle.closure_core.specs.Inside.Nodes.{is_raised, flags_of, count_at}
use Rattle.closure_core.specs.Inside.Flags.{raised_count}
use Rattle.closure_parts.specs.NodeCounts.{first_of_node, nodes_with, AreCounts, AddsNodes}
use Rattle.closure_core.proofs.ContainsFacts.{contains_first, contains_later, contains_none, contains_cases}
use Rattle.closure_core.proofs.FlagFacts.{IsFirstOf, Raises}
use Rattle.closure_core.proofs.NodeFacts.{is_counted, length-flags, flag-counted, positive-counted, raised-positive, positive-raised}

-- ---- flags of counts, one more

-- A count of 0 at the end is a lowered flag at the end.
pub flags-push : (old new : List ℕ) → new ≡ old ++ 0 ∷ []
    → flags_of new ≡ flags_of old ++ false ∷ []
flags-push old new e = ap flags_of e ∙ map_push is_counted old 0

-- A count of 0 at the end changes no count.
pub count_at-push : (counts : List ℕ) (n : ℕ) → count_at (counts ++ 0 ∷ []) n ≡ count_at counts n
count_at-push counts n = elim (cases_lt n (length counts)) [
  | inl l ↦ get_or_append_left counts (0 ∷ []) 0 n l
  | inr l ↦ elim (cases_lt n (length (counts ++ 0 ∷ []))) [
    | inl b ↦ get_or_push counts 0 0 n (omega (arith, l, b, length_push counts 0))
        ∙ sym (get_or_past counts n 0 l)
    | inr b ↦ get_or_past (counts ++ 0 ∷ []) n 0 b ∙ sym (get_or_past counts n 0 l)
  ]
]

-- ---- how many nodes have a document

-- The nodes of two lists that have a document add up.
pub nodes_with-append : (heads xs ys : List ℕ) (n : ℕ)
    → nodes_with heads (xs ++ ys) n ≡ nodes_with heads xs n + nodes_with heads ys n
nodes_with-append heads xs ys n = sum_by-append (λ node. cond (first_of_node heads node == n) 1 0)
    xs ys

-- No more nodes have a document than there are.
pub nodes_with-few : (heads nodes : List ℕ) (n : ℕ) → nodes_with heads nodes n ≤ length nodes
nodes_with-few heads nodes n = count_by-le-length (λ node. first_of_node heads node == n) nodes

-- No more of the first nodes have a document than of all.
pub nodes_with-taken : (heads nodes : List ℕ) (k n : ℕ)
    → nodes_with heads (take k nodes) n ≤ nodes_with heads nodes n
nodes_with-taken heads nodes k n = sum_by-take-le
    (λ node. cond (first_of_node heads node == n) 1 0) nodes k

-- No more of the first k nodes have a document than k.
pub nodes_with-short : (heads nodes : List ℕ) (k n : ℕ) → nodes_with heads (take k nodes) n ≤ k
nodes_with-short heads nodes k n = omega
    (arith, nodes_with-few heads (take k nodes) n, length-take k nodes)

module _ (heads nodes : List ℕ) (k number : ℕ) (l : k < length nodes)
    (at : first_of_node heads (get_or nodes k 0) ≡ number) where
  -- The next node has this document, so there is one more of it.
  pub nodes_with-same : nodes_with heads (take (k + 1) nodes) number ≡ nodes_with heads
      (take k nodes) number + 1
  nodes_with-same = count_by_more_yes (λ node. first_of_node heads node == number) nodes k 0 l
      (eq-eqb (first_of_node heads (get_or nodes k 0)) number at)

  -- The next node has none of the other documents.
  pub nodes_with-other : (n : ℕ) → (n ≡ number → ⊥)
      → nodes_with heads (take (k + 1) nodes) n ≡ nodes_with heads (take k nodes) n
  nodes_with-other n other =
      count_by_more_no (λ node. first_of_node heads node == n) nodes k 0 l
      (differ (eqb (first_of_node heads (get_or nodes k 0)) n) refl)
    where
      differ : (b : Bool) → eqb (first_of_node heads (get_or nodes k 0)) n ≡ b
          → eqb (first_of_node heads (get_or nodes k 0)) n ≡ false
      differ true e = absurd (other (sym (eqb-true (first_of_node heads (get_or nodes k 0)) n e)
          ∙ at))
      differ false e = e

-- ---- one after another

-- The step of the loop that raises counts.
pub AddsNodes-more : (heads nodes old mid : List ℕ) (k number : ℕ) → k < length nodes
    → first_of_node heads (get_or nodes k 0) ≡ number → number < length mid
    → AddsNodes heads (take k nodes) old mid
    → AddsNodes heads (take (k + 1) nodes) old (set mid number (count_at mid number + 1))
AddsNodes-more heads nodes old mid k number l at within h = record {
  size = length-set mid number (count_at mid number + 1) ∙ h.size;
  each = λ n. elim (cases_eq n number) [
    | inl e ↦ subst (λ i. count_at (set mid number (count_at mid number + 1)) i ≡ count_at old i
        + nodes_with heads (take (k + 1) nodes) i) (sym e)
        (omega (
          arith,
          get_or-set_same mid number (count_at mid number + 1) 0 within,
          h.each number,
          nodes_with-same heads nodes k number l at,
        ))
    | inr d ↦ omega (
      arith,
      get_or-set_other mid number n (count_at mid number + 1) 0 d,
      h.each n,
      nodes_with-other heads nodes k number l at n d,
    )
  ];
}

-- The step of the loop that lowers counts.
pub AddsNodes-fewer : (heads nodes old mid : List ℕ) (k number : ℕ) → k < length nodes
    → first_of_node heads (get_or nodes k 0) ≡ number → number < length mid
    → 0 < count_at mid number
    → AddsNodes heads (take k nodes) mid old
    → AddsNodes heads (take (k + 1) nodes) (set mid number (count_at mid number - 1)) old
AddsNodes-fewer heads nodes old mid k number l at within some h = record {
  size = h.size ∙ sym (length-set mid number (count_at mid number - 1));
  each = λ n. elim (cases_eq n number) [
    | inl e ↦ subst (λ i. count_at old i ≡ count_at (set mid number (count_at mid number - 1)) i
        + nodes_with heads (take (k + 1) nodes) i) (sym e)
        (omega (
          arith,
          get_or-set_same mid number (count_at mid number - 1) 0 within,
          h.each number,
          nodes_with-same heads nodes k number l at,
          some,
        ))
    | inr d ↦ omega (
      arith,
      get_or-set_other mid number n (count_at mid number - 1) 0 d,
      h.each n,
      nodes_with-other heads nodes k number l at n d,
    )
  ];
}

-- The count of the next node's document is not 0, so it can be lowered.
pub next-counted : (heads nodes old mid : List ℕ) (k number : ℕ) → k < length nodes
    → first_of_node heads (get_or nodes k 0) ≡ number
    → nodes_with heads nodes number ≤ count_at old number
    → AddsNodes heads (take k nodes) mid old → 0 < count_at mid number
next-counted heads nodes old mid k number l at counted h =
    omega (
      arith,
      nodes_with-same heads nodes k number l at,
      nodes_with-taken heads nodes (k + 1)
          number,
      counted,
      h.each number,
    )

-- How many counts are not 0 after one is set, by its old and its new value.
pub counted-set : (counts : List ℕ) (number value : ℕ) → number < length counts
    → raised_count (flags_of (set counts number value)) + cond (is_counted (count_at counts number))
    1 0 ≡ raised_count (flags_of counts) + cond (is_counted value) 1 0
counted-set counts number value l =
    let whole = sum_by-set (λ b. cond b 1 0) (flags_of counts) number (is_counted value) false
    (omega (arith, l, length-flags counts)) in
    omega (
      arith,
      whole,
      ap raised_count (map-set is_counted counts number value),
      ap {B = ℕ}
          (λ b. cond b 1 0) (flag-counted counts number),
    )

-- ---- a count is not 0 if one of the nodes has the document

module _ (heads : List ℕ) (n : ℕ) where
  -- what a node adds to the number of those with the document
  abbrev one_at : ℕ → ℕ
  one_at node = cond (first_of_node heads node == n) 1 0

  -- The first node adds what it adds.
  with-cons : (node : ℕ) (nodes : List ℕ)
      → nodes_with heads (node ∷ nodes) n ≡ one_at node + nodes_with heads nodes n
  with-cons node nodes = sum_by-cons one_at node nodes

  -- A node with the document adds 1.
  has-one : (node : ℕ) → first_of_node heads node ≡ n → one_at node ≡ 1
  has-one node e = ap (λ b. cond b 1 0) (eq-eqb (first_of_node heads node) n e)

  -- A node has the document or adds nothing.
  one-has : (node : ℕ) → (b : Bool) → eqb (first_of_node heads node) n ≡ b
      → (first_of_node heads node ≡ n) ⊎ (one_at node ≡ 0)
  one-has node true e = inl (eqb-true (first_of_node heads node) n e)
  one-has node false e = inr (ap (λ b. cond b 1 0) e)

  -- If a node has the document, the number of those is not 0.
  pub first-nodes : (nodes : List ℕ) → IsFirstOf heads nodes n → 0 < nodes_with heads nodes n
  first-nodes [] f = absurd (contains_none f.0 f.1)
  first-nodes (x ∷ xs) f = elim (contains_cases x xs f.0 f.1) [
    | inl same ↦ omega (
      arith,
      with-cons x xs,
      has-one x
          (ap (first_of_node heads) same ∙ get_or_from_slice_get heads f.0 n 0 f.2),
    )
    | inr later ↦ omega (arith, with-cons x xs, first-nodes xs (f.0, later, f.2))
  ]

  -- If the number is not 0, a node has the document.
  pub nodes-first : (nodes : List ℕ) → All (λ k. k < length heads) nodes
      → 0 < nodes_with heads nodes n → IsFirstOf heads nodes n
  nodes-first [] small l = absurd (omega (arith, l))
  nodes-first (x ∷ xs) small l = elim (one-has x (eqb (first_of_node heads x) n) refl) [
    | inl same ↦ (
      x,
      contains_first x xs,
      slice_get-get_or heads x 0 (small 0 0 (omega arith))
          ∙ ap (λ (k : ℕ). Some k) same,
    )
    | inr none ↦
        let f = nodes-first xs (All-tail (λ k. k < length heads) x xs small)
        (omega (arith, l, with-cons x xs, none)) in
        (f.0, contains_later x xs f.0 f.1, f.2)
  ]

-- the flags of counts are those of the nodes' documents
pub flags-counted : (heads nodes counts : List ℕ) → All (λ k. k < length heads) nodes
    → AreCounts heads nodes counts → (n : ℕ)
    → (is_raised (flags_of counts) n ≡ true) ↔ IsFirstOf heads nodes n
flags-counted heads nodes counts small are n = (
  λ e. nodes-first heads n nodes small (omega (arith, raised-positive counts n e, are n)),
  λ f. positive-raised counts n (omega (arith, first-nodes heads n nodes f, are n)),
)

-- counts that have risen raise flags
pub flags-raised : (heads nodes old new : List ℕ) → All (λ k. k < length heads) nodes
    → AddsNodes heads nodes old new → Raises heads nodes (flags_of old) (flags_of new)
flags-raised heads nodes old new small adds = record {
  size = length-flags new ∙ adds.size ∙ sym (length-flags old);
  each = λ n. (
    λ e. elim (cases_lt 0 (count_at old n)) [
      | inl l ↦ inl (positive-raised old n l)
      | inr l ↦ inr (nodes-first heads n nodes small
          (omega (arith, l, raised-positive new n e, adds.each n)))
    ],
    λ h. elim h [
      | inl e ↦ positive-raised new n (omega (arith, raised-positive old n e, adds.each n))
      | inr f ↦ positive-raised new n (omega (arith, first-nodes heads n nodes f, adds.each n))
    ],
  );
}

-- greater counts have the flags of lesser ones
pub flags-kept : (lesser greater : List ℕ) → ((n : ℕ) → count_at lesser n ≤ count_at greater n)
    → (n : ℕ) → is_raised (flags_of lesser) n ≡ true → is_raised (flags_of greater) n ≡ true
flags-kept lesser greater fewer n e = positive-raised greater n
    (omega (arith, raised-positive lesser n e, fewer n))

-- ---- more nodes are marked

-- the counts of marked nodes are unchanged, and those of the nodes that are marked now are added
pub counts-more : (old_firsts heads marked more old_counts counts : List ℕ) (first count : ℕ)
    → heads ≡ old_firsts ++ first ∷ [] → take count more ≡ marked
    → All (λ n. n < length old_firsts) marked
    → AreCounts old_firsts marked old_counts
    → AddsNodes heads (drop count more) (old_counts ++ 0 ∷ []) counts
    → AreCounts heads more counts
counts-more old_firsts heads marked more old_counts counts first count list front small before adds
    n =
    let whole = nodes_with-append heads (take count more) (drop count more) n in
    let parts : nodes_with heads (take count more ++ drop count more) n ≡ nodes_with heads more
    n = ap (λ ns. nodes_with heads ns n) (take-append-drop count more) in
    let old : nodes_with heads (take count more) n ≡ nodes_with old_firsts marked n = ap
    (λ ns. nodes_with heads ns n) front ∙ still marked small in
    omega (arith, adds.each n, count_at-push old_counts n, before n, whole, parts, old)
  where
    still : (nodes : List ℕ) → All (λ k. k < length old_firsts) nodes
        → nodes_with heads nodes n ≡ nodes_with old_firsts nodes n
    still [] within = refl
    still (x ∷ xs) within =
        let here : first_of_node heads x ≡ first_of_node old_firsts x = ap
        (λ fs. first_of_node fs x) list ∙ get_or_append_left old_firsts (first ∷ []) 0 x
        (within 0 0 (omega arith)) in
        let one : one_at heads n x ≡ one_at old_firsts n x = ap (λ (f : ℕ). cond (f == n) 1 0)
        here in
        omega (
          arith,
          with-cons heads n x xs,
          with-cons old_firsts n x xs,
          one,
          still xs
              (All-tail (λ k. k < length old_firsts) x xs within),
        )

-- after all counts were 0, they are those of the marked nodes
pub counts-from_zero : (heads nodes zeros counts : List ℕ) → ((n : ℕ) → count_at zeros n ≡ 0)
    → AddsNodes heads nodes zeros counts → AreCounts heads nodes counts
counts-from_zero heads nodes zeros counts none adds n = omega (arith, none n, adds.each n)

-- One count is set. The number of counts that are not 0 is the same if both values are 0 or neither
-- is, one more if 0 has risen, and one fewer if it has fallen to 0.
module _ (counts : List ℕ) (number value : ℕ) (l : number < length counts) where
  -- What one count that is set does to the number of those that are not 0: the three lemmas below
  -- are its cases.
  one_more : (b c : Bool) → is_counted (count_at counts number) ≡ b → is_counted value ≡ c
      → raised_count (flags_of (set counts number value)) + cond b 1 0 ≡ raised_count
      (flags_of counts) + cond c 1 0
  one_more b c e f = omega (
    arith,
    counted-set counts number value l,
    ap {B = ℕ} (λ b. cond b 1 0) e,
    ap {B = ℕ} (λ b. cond b 1 0) f,
  )

  -- Neither is 0: the same number.
  pub count-stays : 0 < count_at counts number → 0 < value
      → raised_count (flags_of (set counts number value)) ≡ raised_count (flags_of counts)
  count-stays some still = omega (
    arith,
    one_more true true
        (positive-counted (count_at counts number) some) (positive-counted value still),
  )

  -- Only the old one is 0: one more.
  pub count-rises : count_at counts number ≡ 0 → 0 < value
      → raised_count (flags_of (set counts number value)) ≡ raised_count (flags_of counts) + 1
  count-rises none now = omega (
    arith,
    one_more false true (ap is_counted none)
        (positive-counted value now),
  )

  -- Only the new one is 0: one fewer.
  pub count-falls : 0 < count_at counts number → value ≡ 0
      → raised_count (flags_of counts) ≡ raised_count (flags_of (set counts number value)) + 1
  count-falls some none = omega (
    arith,
    one_more true false
        (positive-counted (count_at counts number) some) (ap is_counted none),
  )

-- A lowered flag at the end is not counted.
pub count-push : (flags : List Bool) → raised_count (flags ++ false ∷ []) ≡ raised_count flags
count-push flags = sum_by_push (λ b. cond b 1 0) flags false ∙ (let e : sum_by (λ b. cond b 1 0) flags + 0 ≡ sum_by (λ b. cond b 1 0) flags = omega arith in e)

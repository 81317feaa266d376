-- Laws of every net
use Rattle.std.proofs.Common.{◌≡◌, ℕ, suc, ◌+◌, ◌-◌, ◌<◌, ◌≤◌, ◌⊎◌, inl, inr, Bool, true, false, List, [], ◌∷◌, length, get_or, set, arith, refl, sym, ap, ◌∙◌}
use Rattle.std.specs.Prelude.{Contains, ◌↔◌, fold}
use Rattle.std.proofs.lemmas.Bool.{cases_Bool, cases_eq, cases_lt, both_ways, false_from_ne_true}
use Rattle.std.proofs.lemmas.List.{length-set, get_or_past, ext_get_or}
use Rattle.std.proofs.lemmas.List.Sums.{count_by-le-length}
use Rattle.wait_index.specs.declared.edges.Edge.{Edge}
use Rattle.wait_index.specs.Net.{Net, is_closed, IsReached, root, step, IsClosedUnder, with_all_closed, is_among, is_open_among, visits_of}
use Rattle.wait_index.proofs.FollowFacts.{flag-here, flag-other}

-- Each set that is closed under the net's steps has all reached nodes: the law `least`.
pub reached-least : (net : Net) (nodes : ℕ → Type 0) → IsClosedUnder net nodes → (node : ℕ) → IsReached net node → nodes node
reached-least net nodes h node (root e) = h.roots node e
reached-least net nodes h node (step {node = m} {label = l} {i = i} {j = j} r e c w) = h.steps m l node i j (reached-least net nodes h m r) e c w

-- flags that are set one after another
abbrev pub all_set : List Bool → List ℕ → List Bool
all_set flags labels = fold (λ closed label. set closed label true) flags labels

-- To set flags makes no flag more.
pub length-all_set : (labels : List ℕ) (flags : List Bool) → length (all_set flags labels) ≡ length flags
length-all_set [] flags = refl
length-all_set (l ∷ ls) flags = length-all_set ls (set flags l true) ∙ length-set flags l true

-- What a list contains is its first item or is in the rest.
pub contains-cons : (l : ℕ) (ls : List ℕ) (k : ℕ) → Contains (l ∷ ls) k → (k ≡ l) ⊎ Contains ls k
contains-cons l ls k c =
    elim (cases_eq c.0 0) [
      | inl z ↦ inl (sym c.2 ∙ ap (λ i. get_or (l ∷ ls) i k) z)
      | inr z ↦
          let at : c.0 ≡ suc (c.0 - 1) = omega (arith, z) in
          inr (c.0 - 1, omega (arith, c.1, z), sym (ap (λ i. get_or (l ∷ ls) i k) at) ∙ c.2)
    ]

-- Raising one flag lowers none.
pub set-kept : (flags : List Bool) (l k : ℕ) → get_or flags k false ≡ true → get_or (set flags l true) k false ≡ true
set-kept flags l k e =
    elim (cases_eq k l) [
      | inl s ↦
          elim (cases_lt l (length flags)) [
            | inl b ↦ ap (λ i. get_or (set flags l true) i false) s ∙ flag-here flags l true b
            | inr b ↦ absurd (both_ways (get_or flags k false) (get_or_past flags k false (omega (arith, b, s))) e)
          ]
      | inr s ↦ flag-other flags l k true s ∙ e
    ]

-- Raising many flags lowers none.
pub all_set-kept : (labels : List ℕ) (flags : List Bool) (k : ℕ) → get_or flags k false ≡ true → get_or (all_set flags labels) k false ≡ true
all_set-kept [] flags k e = e
all_set-kept (m ∷ ms) flags k e = all_set-kept ms (set flags m true) k (set-kept flags m k e)

-- A flag that was raised, or whose label is listed, is raised after all.
pub all_set-from : (labels : List ℕ) (flags : List Bool) (k : ℕ) → k < length flags
    → (get_or flags k false ≡ true) ⊎ Contains labels k → get_or (all_set flags labels) k false ≡ true
all_set-from [] flags k l h = elim h [ inl e ↦ e | inr c ↦ absurd (omega (arith, c.1)) ]
all_set-from (m ∷ ms) flags k l h =
    all_set-from ms (set flags m true) k (omega (arith, l, length-set flags m true))
    (elim h [
      | inl e ↦ inl (set-kept flags m k e)
      | inr c ↦
          elim (contains-cons m ms k c) [
            | inl s ↦ inl (ap (λ i. get_or (set flags m true) i false) s ∙ flag-here flags m true (omega (arith, l, s)))
            | inr d ↦ inr d
          ]
    ])

-- A flag that is raised after all was raised, or its label is listed.
pub all_set-to : (labels : List ℕ) (flags : List Bool) (k : ℕ) → get_or (all_set flags labels) k false ≡ true
    → (get_or flags k false ≡ true) ⊎ Contains labels k
all_set-to [] flags k e = inl e
all_set-to (m ∷ ms) flags k e =
    elim (all_set-to ms (set flags m true) k e) [
      | inl a ↦
          elim (cases_eq k m) [
            | inl s ↦ inr (0, omega arith, sym s)
            | inr s ↦ inl (sym (flag-other flags m k true s) ∙ a)
          ]
      | inr a ↦ inr (suc a.0, omega (arith, a.1), a.2)
    ]

-- Closed after many closes is what was closed or is listed: the law `closes_in_any_order`.
pub closed-all : (net : Net) (labels : List ℕ) (label : ℕ) → label < length net.closed
    → ((is_closed (with_all_closed net labels) label ≡ true) ↔ ((is_closed net label ≡ true) ⊎ Contains labels label))
closed-all net labels label l = (all_set-to labels net.closed label, all_set-from labels net.closed label l)

-- Lists with the same labels close to one net: the law `closes_in_any_order`.
pub closed-order : (net : Net) (labels others : List ℕ)
    → ((label : ℕ) → (Contains labels label ↔ Contains others label))
    → with_all_closed net labels ≡ with_all_closed net others
closed-order net labels others h =
    let size : length (all_set net.closed labels) ≡ length net.closed = length-all_set labels net.closed in
    let same : all_set net.closed labels ≡ all_set net.closed others =
    ext_get_or false (all_set net.closed labels) (all_set net.closed others) (size ∙ sym (length-all_set others net.closed)) (λ k l.
    let within : k < length net.closed = omega (arith, l, size) in
    elim (cases_Bool (get_or (all_set net.closed labels) k false)) [
      | inl e ↦
          e ∙ sym (all_set-from others net.closed k within (elim (all_set-to labels net.closed k e) [ inl a ↦ inl a | inr a ↦ inr ((h k).0 a) ]))
      | inr e ↦
          e ∙ sym (false_from_ne_true (get_or (all_set net.closed others) k false) (λ f.
          both_ways (get_or (all_set net.closed labels) k false) e
          (all_set-from labels net.closed k within (elim (all_set-to others net.closed k f) [ inl a ↦ inl a | inr a ↦ inr ((h k).1 a) ]))))
    ])
    in
    ap (λ closed. record net { closed = closed }) same

-- The visits are at most the edges: the law `no_edge_twice`.
pub visits-few : (net : Net) (nodes : List ℕ) → visits_of net nodes ≤ length net.offers + length net.waits
visits-few net nodes =
    omega (
      arith,
      count_by-le-length (λ (e : Edge). is_among nodes e.from) net.offers,
      count_by-le-length (λ (e : Edge). is_open_among net nodes e.from) net.waits,
    )

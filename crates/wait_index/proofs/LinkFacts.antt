-- Lists of edges by links
use Rattle.std.proofs.Common.{◌≡◌, ◌≢◌, ℕ, ◌+◌, ◌<◌, ◌≤◌, ◌⊎◌, inl, inr, Bool, ◌&&◌, List, [], ◌∷◌, ◌++◌, length}
use Rattle.std.proofs.Common.{get_or, set, eqb, arith, refl, sym, ap, ◌∙◌, subst}
use Rattle.std.proofs.lemmas.Bool.{cases_eq, cases_lt, ne_eqb, eq-eqb, and_left}
use Rattle.std.proofs.lemmas.List.{get_or_append_left, get_or_push, length_push, length-set, get_or-set_same, get_or-set_other, get_or_read}
use Rattle.wait_index.specs.declared.edges.Edge.{Edge}
use Rattle.wait_index.specs.Inside.Count.{bit, count_below}
use Rattle.wait_index.specs.Edge.{edge_at, from_at, to_at, IsEdge}
use Rattle.wait_index.specs.Inside.Links.{IsLink, IsLast, AreLinked}
use Rattle.wait_index.proofs.CountBelowFacts.{bit-true, count_below-more, count_below-gap}

-- An owner's last edge is a link of that owner.
pub IsLink-last : (es : List Edge) (owner n link : ℕ) → n ≤ length es → IsLast es owner n link → IsLink es owner link
IsLink-last es owner n link l h = record { within = omega (arith, h.below); owned = h.owned }

-- an owner's edges below a bound are those below the link
pub count_owned : (es : List Edge) (owner n link : ℕ) → IsLast es owner n link
    → count_below (λ i. eqb (from_at es i) owner) n ≡ count_below (λ i. eqb (from_at es i) owner) link
count_owned es owner n link h =
    count_below-gap (λ i. eqb (from_at es i) owner) link n h.below (λ k a b. ne_eqb (from_at es k) owner (h.none_later k a b))

-- An owner's edges below a bound that pass a test are those below the link that do.
pub count_owned_and : (es : List Edge) (owner : ℕ) (test : ℕ → Bool) (n link : ℕ) → IsLast es owner n link
    → count_below (λ i. eqb (from_at es i) owner && test i) n
    ≡ count_below (λ i. eqb (from_at es i) owner && test i) link
count_owned_and es owner test n link h =
    count_below-gap (λ i. eqb (from_at es i) owner && test i) link n h.below
    (λ k a b. and_left (eqb (from_at es k) owner) (test k) (ne_eqb (from_at es k) owner (h.none_later k a b)))

-- one edge of the owner is taken from those that are left
pub count_owned-step : (es : List Edge) (owner i next : ℕ) → from_at es i ≡ owner → IsLast es owner i next
    → count_below (λ k. eqb (from_at es k) owner) (i + 1) ≡ count_below (λ k. eqb (from_at es k) owner) next + 1
count_owned-step es owner i next e h =
    omega (
      arith,
      count_below-more (λ k. eqb (from_at es k) owner) i,
      bit-true (eqb (from_at es i) owner) (eq-eqb (from_at es i) owner e),
      count_owned es owner i next h,
    )

-- One edge of the owner is taken from those left that pass a test.
pub count_owned_and-step : (es : List Edge) (owner : ℕ) (test : ℕ → Bool) (i next : ℕ) → from_at es i ≡ owner
    → IsLast es owner i next → count_below (λ k. eqb (from_at es k) owner && test k) (i + 1)
    ≡ count_below (λ k. eqb (from_at es k) owner && test k) next + bit (test i)
count_owned_and-step es owner test i next e h =
    let same : (eqb (from_at es i) owner && test i) ≡ test i = ap (λ b. b && test i) (eq-eqb (from_at es i) owner e) in
    omega (arith, count_below-more (λ k. eqb (from_at es k) owner && test k) i, ap bit same, count_owned_and es owner test i next h)

-- an edge that is added at the end

module _ (es : List Edge) (e : Edge) where
  -- An old edge keeps its place.
  edge_at-old : (i : ℕ) → i < length es → edge_at (es ++ e ∷ []) i ≡ edge_at es i
  edge_at-old i l = get_or_append_left es (e ∷ []) (record { from = 0; to = 0 }) i l

  -- The new edge is at the end.
  edge_at-new : edge_at (es ++ e ∷ []) (length es) ≡ e
  edge_at-new = get_or_push es e (record { from = 0; to = 0 }) (length es) refl

  -- An old edge still has its start, and `to_at-old` says the same for its end.
  pub from_at-old : (i : ℕ) → i < length es → from_at (es ++ e ∷ []) i ≡ from_at es i
  from_at-old i l = ap (λ (x : Edge). x.from) (edge_at-old i l)

  -- An old edge still has its end.
  pub to_at-old : (i : ℕ) → i < length es → to_at (es ++ e ∷ []) i ≡ to_at es i
  to_at-old i l = ap (λ (x : Edge). x.to) (edge_at-old i l)

  -- The new edge leads from its start, and `to_at-new` says the same for its end.
  pub from_at-new : from_at (es ++ e ∷ []) (length es) ≡ e.from
  from_at-new = ap (λ (x : Edge). x.from) edge_at-new

  -- The new edge leads to its end.
  pub to_at-new : to_at (es ++ e ∷ []) (length es) ≡ e.to
  to_at-new = ap (λ (x : Edge). x.to) edge_at-new

  -- An old edge is an edge of the longer list.
  pub IsEdge-old : (i here there : ℕ) → IsEdge es i here there → IsEdge (es ++ e ∷ []) i here there
  IsEdge-old i here there h = record {
    within = omega (arith, h.within, length_push es e);
    from = from_at-old i h.within ∙ h.from;
    to = to_at-old i h.within ∙ h.to;
  }

  -- The new edge is an edge of the longer list.
  pub IsEdge-new : IsEdge (es ++ e ∷ []) (length es) e.from e.to
  IsEdge-new = record { within = omega (arith, length_push es e); from = from_at-new; to = to_at-new }

  -- each edge is an old one or the new one
  pub IsEdge-cases : (i here there : ℕ) → IsEdge (es ++ e ∷ []) i here there → IsEdge es i here there ⊎ ((i ≡ length es) × (e.from ≡ here) × (e.to ≡ there))
  IsEdge-cases i here there h =
      elim (cases_lt i (length es)) [
        | inl l ↦ inl (record { within = l; from = sym (from_at-old i l) ∙ h.from; to = sym (to_at-old i l) ∙ h.to })
        | inr l ↦
            let at : i ≡ length es = omega (arith, h.within, length_push es e) in
            inr (at, sym from_at-new ∙ ap (from_at (es ++ e ∷ [])) (sym at) ∙ h.from, sym to_at-new ∙ ap (to_at (es ++ e ∷ [])) (sym at) ∙ h.to)
      ]

  -- The last edge among the old ones is still the last of them.
  IsLast-old : (owner n link : ℕ) → n ≤ length es → IsLast es owner n link → IsLast (es ++ e ∷ []) owner n link
  IsLast-old owner n link l h = record {
    below = h.below;
    owned = λ i a. from_at-old i (omega (arith, h.below)) ∙ h.owned i a;
    none_later = λ i a b c. h.none_later i a b (sym (from_at-old i (omega arith)) ∙ c);
  }

  -- The new edge is the last one of its owner.
  IsLast-owner : IsLast (es ++ e ∷ []) e.from (length es + 1) (length es + 1)
  IsLast-owner = record {
    below = omega arith;
    owned = λ i a. let at : i ≡ length es = omega arith in ap (from_at (es ++ e ∷ [])) at ∙ from_at-new;
    none_later = λ i a b c. absurd (omega arith);
  }

  -- The last edge of another owner is still its last.
  IsLast-other : (owner link : ℕ) → owner ≢ e.from → IsLast es owner (length es) link → IsLast (es ++ e ∷ []) owner (length es + 1) link
  IsLast-other owner link ne h =
      let old = IsLast-old owner (length es) link (omega arith) h in
      record {
        below = omega (arith, h.below);
        owned = old.owned;
        none_later = λ i a b c.
            elim (cases_lt i (length es)) [
              | inl l ↦ old.none_later i a l c
              | inr l ↦
                  let at : i ≡ length es = omega arith in
                  ne (sym c ∙ ap (from_at (es ++ e ∷ [])) at ∙ from_at-new)
            ];
      }

  -- the edge is added before those of its owner
  pub AreLinked-push : (newest earlier : List ℕ) → e.from < length newest → AreLinked es newest earlier
      → AreLinked (es ++ e ∷ []) (set newest e.from (length es + 1)) (earlier ++ get_or newest e.from 0 ∷ [])
  AreLinked-push newest earlier l h =
      let many = length_push es e in
      let sizes = length-set newest e.from (length es + 1) in
      record {
        owners = λ i a.
            elim (cases_lt i (length es)) [
              | inl b ↦ omega (arith, sizes, from_at-old i b, h.owners i b)
              | inr b ↦
                  let at : i ≡ length es = omega (arith, many) in
                  omega (arith, sizes, l, ap (from_at (es ++ e ∷ [])) at ∙ from_at-new)
            ];
        links = omega (arith, many, h.links, length_push earlier (get_or newest e.from 0));
        last = λ owner a.
            let within : owner < length newest = omega (arith, sizes) in
            let bound : length (es ++ e ∷ []) ≡ length es + 1 = many in
            subst (λ n. IsLast (es ++ e ∷ []) owner n (get_or (set newest e.from (length es + 1)) owner 0)) (sym bound)
            (elim (cases_eq owner e.from) [
              | inl s ↦
                  let set_here : get_or (set newest e.from (length es + 1)) owner 0 ≡ length es + 1 =
                  ap (λ o. get_or (set newest e.from (length es + 1)) o 0) s
                  ∙ get_or-set_same newest e.from (length es + 1) 0 l in
                  subst (λ k. IsLast (es ++ e ∷ []) owner (length es + 1) k) (sym set_here)
                  (subst (λ o. IsLast (es ++ e ∷ []) o (length es + 1) (length es + 1)) (sym s) IsLast-owner)
              | inr s ↦
                  subst (λ k. IsLast (es ++ e ∷ []) owner (length es + 1) k) (sym (get_or-set_other newest e.from owner (length es + 1) 0 s))
                  (IsLast-other owner (get_or newest owner 0) s (h.last owner within))
            ]);
        before = λ i a.
            elim (cases_lt i (length es)) [
              | inl b ↦
                  let old = IsLast-old (from_at es i) i (get_or earlier i 0) (omega arith) (h.before i b) in
                  subst (λ o. IsLast (es ++ e ∷ []) o i (get_or (earlier ++ get_or newest e.from 0 ∷ []) i 0)) (sym (from_at-old i b))
                  (subst (λ k. IsLast (es ++ e ∷ []) (from_at es i) i k)
                  (sym (get_or_append_left earlier (get_or newest e.from 0 ∷ []) 0 i (omega (arith, h.links)))) old)
              | inr b ↦
                  let at : length es ≡ i = omega (arith, many) in
                  let old = IsLast-old e.from (length es) (get_or newest e.from 0) (omega arith) (h.last e.from l) in
                  let link : get_or (earlier ++ get_or newest e.from 0 ∷ []) (length es) 0 ≡ get_or newest e.from 0 =
                  get_or_push earlier (get_or newest e.from 0) 0 (length es) h.links in
                  subst (λ k. IsLast (es ++ e ∷ []) (from_at (es ++ e ∷ []) k) k (get_or (earlier ++ get_or newest e.from 0 ∷ []) k 0)) at
                  (subst (λ o. IsLast (es ++ e ∷ []) o (length es) (get_or (earlier ++ get_or newest e.from 0 ∷ []) (length es) 0)) (sym from_at-new)
                  (subst (λ k. IsLast (es ++ e ∷ []) e.from (length es) k) (sym link) old))
            ];
      }

-- what is read of the lists of edges

-- The end of an edge that was read, in terms of the net.
pub read_to : (es : List Edge) (i : ℕ) (e : Edge) → i < length es → e ≡ get_or es i e → e.to ≡ to_at es i
read_to es i e l r = ap (λ (x : Edge). x.to) (get_or_read es i e l r (record { from = 0; to = 0 }))

-- The link read for an owner is that of its last edge: so a loop over its edges begins there.
pub first_link : (es : List Edge) (newest earlier : List ℕ) (owner link : ℕ) → AreLinked es newest earlier
    → owner < length newest → link ≡ get_or newest owner link → IsLast es owner (length es) link
first_link es newest earlier owner link h l r =
    subst (λ k. IsLast es owner (length es) k) (sym (get_or_read newest owner link l r 0)) (h.last owner l)

-- The link read for an edge is that of the owner's edge before it: so the loop continues there.
pub next_link : (es : List Edge) (newest earlier : List ℕ) (owner edge link next : ℕ) → AreLinked es newest earlier
    → IsLink es owner link → link ≡ edge + 1 → next ≡ get_or earlier edge next → IsLast es owner edge next
next_link es newest earlier owner edge link next h k e r =
    let within : edge < length es = omega (arith, k.within) in
    let link : next ≡ get_or earlier edge 0 = get_or_read earlier edge next (omega (arith, h.links)) r 0 in
    subst (λ o. IsLast es o edge next) (k.owned edge e) (subst (λ n. IsLast es (from_at es edge) edge n) (sym link) (h.before edge within))

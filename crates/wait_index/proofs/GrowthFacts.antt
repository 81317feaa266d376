-- How an index grows
use Rattle.std.proofs.Common.{◌≡◌, ℕ, ◌+◌, ◌<◌, ◌⊎◌, inl, inr, Bool, true, false, ◌&&◌, List, [], ◌∷◌, ◌++◌, length}
use Rattle.std.proofs.Common.{get_or, take, eqb, ltb, leb, arith, refl, sym, ap, ◌∙◌, subst}
use Rattle.std.proofs.lemmas.Bool.{cases_Bool, cases_eq, cases_lt, ne_eqb, eq-eqb, eqb-true, or_cases, or_left, or_right, and_from, and_left, both_ways}
use Rattle.std.proofs.lemmas.List.{length-set, length_push, get_or_append_left, get_or_push, get_or_past}
use Rattle.wait_index.specs.Inside.Count.{bit, count_below}
use Rattle.wait_index.specs.Edge.{from_at, to_at}
use Rattle.wait_index.specs.Inside.Listing.{holds, IsListing}
use Rattle.wait_index.specs.Net.{Net, is_root, is_closed, IsReached, root, step, IsMore, with_node, with_label, with_offer, with_wait, with_root}
use Rattle.wait_index.specs.Inside.Tally.{Tally, is_marked_in, is_open_in, support_in, MarksNode, Supports, FollowsWait}
use Rattle.wait_index.specs.Inside.Step.{is_before, IsSteady, Follows}
use Rattle.wait_index.specs.Inside.Fall.{IsSettled}
use Rattle.wait_index.proofs.CountBelowFacts.{bit-true, bit-false, count_below-more, count_below-same, count_below-gap}
use Rattle.wait_index.proofs.LinkFacts.{from_at-old, to_at-old, from_at-new, to_at-new, IsEdge-old, IsEdge-new}
use Rattle.wait_index.proofs.ListingFacts.{IsListing-grow}
use Rattle.wait_index.proofs.FollowFacts.{flag-here, flag-other, before_kept, Follows-offered, Settles-follows}
use Rattle.wait_index.proofs.FollowFacts.{with_support, with_support-here, with_support-other, with_support-steady}
use Rattle.wait_index.proofs.CloseFacts.{before_all}

-- a net with more reaches no less
pub reached-more : (old new : Net) → IsMore old new → (n : ℕ) → IsReached old n → IsReached new n
reached-more old new h n (root e) = root (h.roots n e)
reached-more old new h n (step {node = m} {label = l} {i = i} {j = j} r e c w) =
    let offer = h.offers i m l e in
    let wait = h.waits j l n w in
    elim (cases_Bool (is_closed new l)) [
      | inl a ↦ absurd (both_ways (is_closed old l) c (h.closed l a))
      | inr a ↦ step (reached-more old new h m r) offer.1 a wait.1
    ]

-- A root is added.

module _ (net : Net) (node : ℕ) (l : node < length net.roots) where
  -- The node is a root of the net with that root.
  root-here : is_root (with_root net node) node ≡ true
  root-here = flag-here net.roots node true l

  -- The net with the root has more, so it reaches no less.
  pub IsMore-root : IsMore net (with_root net node)
  IsMore-root = record {
    roots = λ n a. elim (cases_eq n node) [ inl s ↦ ap (is_root (with_root net node)) s ∙ root-here | inr s ↦ flag-other net.roots node n true s ∙ a ];
    closed = λ k a. a;
    offers = λ i m k e. (i, record { within = e.within; from = e.from; to = e.to });
    waits = λ i k n e. (i, record { within = e.within; from = e.from; to = e.to });
  }

  -- The node's mark fits the net with the root, so the following of edges can continue from it.
  pub Follows-root : (t new : Tally) → IsSettled net t → MarksNode node t new → IsListing new.marked new.places
      → Follows (with_root net node) new (length t.marked) 0 0
  Follows-root t new h m listing =
      let steady = h.follows.steady in
      let before = before_kept t new (length t.marked) steady.listing listing m.front (omega arith) in
      let kept : (n : ℕ) → is_marked_in t n ≡ true → is_marked_in new n ≡ true = λ n a. m.held n ∙ or_left (is_marked_in t n) (eqb n node) a in
      let opened : (k : ℕ) → is_open_in new k ≡ is_open_in t k = λ k. ap (λ flags. get_or flags k false) m.opened in
      let support : (k : ℕ) → support_in new k ≡ support_in t k = λ k. ap (λ xs. get_or xs k 0) m.support in
      record {
        steady = record {
          sizes = record {
            places = m.size ∙ steady.sizes.places ∙ sym (length-set net.roots node true);
            support = ap length m.support ∙ steady.sizes.support;
            opened = ap length m.opened ∙ steady.sizes.opened;
            touched = ap length m.touched_places ∙ steady.sizes.touched;
          };
          listing = listing;
          sound = λ n a.
              elim (or_cases (is_marked_in t n) (eqb n node) (sym (m.held n) ∙ a)) [
                | inl b ↦ reached-more net (with_root net node) IsMore-root n (steady.sound n b)
                | inr b ↦ root (ap (is_root (with_root net node)) (eqb-true n node b) ∙ root-here)
              ];
          roots = λ n a.
              elim (cases_eq n node) [
                | inl s ↦ m.held n ∙ or_right (is_marked_in t n) (eqb n node) (eq-eqb n node s)
                | inr s ↦ kept n (steady.roots n (sym (flag-other net.roots node n true s) ∙ a))
              ];
          released = λ i a o. kept (to_at net.waits i) (steady.released i a (sym (opened (from_at net.waits i)) ∙ o));
          open_not_closed = λ k o. steady.open_not_closed k (sym (opened k) ∙ o);
          open_supported = λ k o. omega (arith, support k, steady.open_supported k (sym (opened k) ∙ o));
        };
        counted = record {
          support = λ k a.
              omega (
                arith,
                support k,
                h.follows.counted.support k a,
                count_below-same (λ i. is_before new (length t.marked) (from_at net.offers i) && eqb
                    (to_at net.offers i) k)
                    (λ i. is_before t (length t.marked) (from_at net.offers i) && eqb (to_at net.offers i) k)
                    (length net.offers)
                    (λ i b. ap (λ x. x && eqb (to_at net.offers i) k) (before (from_at net.offers i))),
              );
          visits =
              omega (
                arith,
                m.visits,
                h.follows.counted.visits,
                count_below-same (λ i. is_before new (length t.marked) (from_at net.offers i))
                    (λ i. is_before t (length t.marked) (from_at net.offers i)) (length net.offers)
                    (λ i b. before (from_at net.offers i)),
                count_below-same (λ i. is_open_in new (from_at net.waits i)) (λ i. is_open_in t (from_at net.waits i))
                    (length net.waits) (λ i b. opened (from_at net.waits i)),
              );
        };
        opened = record {
          at = λ k a s c.
              elim (h.follows.opened.at k a (omega (arith, s, support k)) c) [
                | inl o ↦ inl (opened k ∙ o)
                | inr o ↦ inr (ap (λ ps. holds ps k) m.touched_places ∙ o)
              ];
        };
      }

-- A wait edge is added.

module _ (net : Net) (label node : ℕ) where
  -- The net with the wait edge has more, so it reaches no less.
  pub IsMore-wait : IsMore net (with_wait net label node)
  IsMore-wait = record {
    roots = λ n a. a;
    closed = λ k a. a;
    offers = λ i m k e. (i, record { within = e.within; from = e.from; to = e.to });
    waits = λ i k n e. let o = IsEdge-old net.waits (record { from = label; to = node }) i k n e in (i, record { within = o.within; from = o.from; to = o.to });
  }

  -- one more wait edge is counted if its label is open
  wait_counted : (flags : List Bool)
      → count_below (λ i. get_or flags (from_at (net.waits ++ record { from = label; to = node } ∷ []) i) false)
      (length (net.waits ++ record { from = label; to = node } ∷ []))
      ≡ count_below (λ i. get_or flags (from_at net.waits i) false) (length net.waits) + bit (get_or flags label false)
  wait_counted flags =
      let test = count_below-more (λ i. get_or flags (from_at (net.waits ++ record { from = label; to = node } ∷ []) i) false) (length net.waits) in
      let last : get_or flags (from_at (net.waits ++ record { from = label; to = node } ∷ []) (length net.waits)) false
      ≡ get_or flags label false =
      ap (λ k. get_or flags k false) (from_at-new net.waits (record { from = label; to = node })) in
      let same = count_below-same (λ i. get_or flags (from_at (net.waits ++ record { from = label; to = node } ∷ []) i)
      false) (λ i. get_or flags (from_at net.waits i) false) (length net.waits)
      (λ i a. ap (λ k. get_or flags k false) (from_at-old net.waits (record { from = label; to = node }) i a))
      in
      ap (count_below (λ i. get_or flags (from_at (net.waits ++ record { from = label; to = node } ∷ []) i) false))
      (length_push net.waits (record { from = label; to = node }))
      ∙ omega (arith, test, same, ap bit last)

  -- The marks fit the net with the wait edge, so the following of edges can continue from there.
  pub Follows-wait : (t new : Tally) → label < length net.closed → IsSettled net t → FollowsWait label node t new
      → IsListing new.marked new.places → Follows (with_wait net label node) new (length t.marked) 0 0
  Follows-wait t new l h f listing =
      let steady = h.follows.steady in
      elim f [
        | inr s ↦
            subst (λ x. Follows (with_wait net label node) x (length t.marked) 0 0) (sym s.1)
            (record {
              steady = record {
                sizes = record { places = steady.sizes.places; support = steady.sizes.support; opened = steady.sizes.opened; touched = steady.sizes.touched };
                listing = steady.listing;
                sound = λ n a. reached-more net (with_wait net label node) IsMore-wait n (steady.sound n a);
                roots = steady.roots;
                released = λ i a o.
                    elim (cases_lt i (length net.waits)) [
                      | inl b ↦
                          ap (is_marked_in t) (to_at-old net.waits (record { from = label; to = node }) i b)
                          ∙ steady.released i b (ap (is_open_in t) (sym (from_at-old net.waits (record { from = label; to = node }) i b)) ∙ o)
                      | inr b ↦
                          let at : i ≡ length net.waits = omega (arith, a, b, length_push net.waits (record { from = label; to = node })) in
                          let from : from_at (net.waits ++ record { from = label; to = node } ∷ []) i ≡ label =
                          ap (from_at (net.waits ++ record { from = label; to = node } ∷ [])) at
                          ∙ from_at-new net.waits (record { from = label; to = node }) in
                          absurd (both_ways (is_open_in t label) s.0 (ap (is_open_in t) (sym from) ∙ o))
                    ];
                open_not_closed = steady.open_not_closed;
                open_supported = steady.open_supported;
              };
              counted = record {
                support = h.follows.counted.support;
                visits =
                    omega (arith, h.follows.counted.visits, wait_counted t.opened, bit-false (is_open_in t label) s.0);
              };
              opened = record { at = h.follows.opened.at };
            })
        | inl s ↦
            let m = s.1 in
            let front : take (length t.marked) new.marked ≡ t.marked = m.front in
            let before = before_kept t new (length t.marked) steady.listing listing front (omega arith) in
            let kept : (n : ℕ) → is_marked_in t n ≡ true → is_marked_in new n ≡ true = λ n a. m.held n ∙ or_left (is_marked_in t n) (eqb n node) a in
            let opened : (k : ℕ) → is_open_in new k ≡ is_open_in t k = λ k. ap (λ flags. get_or flags k false) m.opened in
            let support : (k : ℕ) → support_in new k ≡ support_in t k = λ k. ap (λ xs. get_or xs k 0) m.support in
            let here : is_marked_in new node ≡ true = m.held node ∙ or_right (is_marked_in t node) (eqb node node) (eq-eqb node node refl) in
            record {
              steady = record {
                sizes = record {
                  places = m.size ∙ steady.sizes.places;
                  support = ap length m.support ∙ steady.sizes.support;
                  opened = ap length m.opened ∙ steady.sizes.opened;
                  touched = ap length m.touched_places ∙ steady.sizes.touched;
                };
                listing = listing;
                sound = λ n a.
                    elim (or_cases (is_marked_in t n) (eqb n node) (sym (m.held n) ∙ a)) [
                      | inl b ↦ reached-more net (with_wait net label node) IsMore-wait n (steady.sound n b)
                      | inr b ↦
                          let o = Follows-offered net (length t.marked) t h.follows label l (steady.open_supported label s.0) in
                          let e = o.2 in
                          let w = IsEdge-new net.waits (record { from = label; to = node }) in
                          subst (IsReached (with_wait net label node)) (sym (eqb-true n node b))
                          (step (reached-more net (with_wait net label node) IsMore-wait o.1 (steady.sound o.1 o.3))
                          (record { within = e.within; from = e.from; to = e.to })
                          (steady.open_not_closed label s.0)
                          (record { within = w.within; from = w.from; to = w.to }))
                    ];
                roots = λ n a. kept n (steady.roots n a);
                released = λ i a o.
                    elim (cases_lt i (length net.waits)) [
                      | inl b ↦
                          ap (is_marked_in new) (to_at-old net.waits (record { from = label; to = node }) i b)
                          ∙ kept (to_at net.waits i)
                          (steady.released i b (sym (opened (from_at net.waits i))
                          ∙ ap (is_open_in new)
                          (sym (from_at-old net.waits (record { from = label; to = node }) i b)) ∙ o))
                      | inr b ↦
                          let at : i ≡ length net.waits = omega (arith, a, b, length_push net.waits (record { from = label; to = node })) in
                          ap (is_marked_in new) (ap (to_at (net.waits ++ record { from = label; to = node } ∷ [])) at
                          ∙ to_at-new net.waits (record { from = label; to = node })) ∙ here
                    ];
                open_not_closed = λ k o. steady.open_not_closed k (sym (opened k) ∙ o);
                open_supported = λ k o. omega (arith, support k, steady.open_supported k (sym (opened k) ∙ o));
              };
              counted = record {
                support = λ k a.
                    omega (
                      arith,
                      support k,
                      h.follows.counted.support k a,
                      count_below-same
                          (λ i. is_before new (length t.marked) (from_at net.offers i) && eqb (to_at net.offers i) k)
                          (λ i. is_before t (length t.marked) (from_at net.offers i) && eqb (to_at net.offers i) k)
                          (length net.offers)
                          (λ i b. ap (λ x. x && eqb (to_at net.offers i) k) (before (from_at net.offers i))),
                    );
                visits =
                    omega (
                      arith,
                      m.visits,
                      h.follows.counted.visits,
                      wait_counted new.opened,
                      ap bit (opened label),
                      bit-true (is_open_in t label) s.0,
                      count_below-same (λ i. is_before new (length t.marked) (from_at net.offers i))
                          (λ i. is_before t (length t.marked) (from_at net.offers i)) (length net.offers)
                          (λ i b. before (from_at net.offers i)),
                      count_below-same (λ i. is_open_in new (from_at net.waits i))
                          (λ i. is_open_in t (from_at net.waits i)) (length net.waits)
                          (λ i b. opened (from_at net.waits i)),
                    );
              };
              opened = record {
                at = λ k a d c.
                    elim (h.follows.opened.at k a (omega (arith, d, support k)) c) [
                      | inl o ↦ inl (opened k ∙ o)
                      | inr o ↦ inr (ap (λ ps. holds ps k) m.touched_places ∙ o)
                    ];
              };
            }
      ]

-- An offer edge is added.

module _ (net : Net) (node label : ℕ) where
  -- The net with the offer edge has more, so it reaches no less.
  pub IsMore-offer : IsMore net (with_offer net node label)
  IsMore-offer = record {
    roots = λ n a. a;
    closed = λ k a. a;
    offers = λ i m k e. let o = IsEdge-old net.offers (record { from = node; to = label }) i m k e in
        (i, record { within = o.within; from = o.from; to = o.to });
    waits = λ i k n e. (i, record { within = e.within; from = e.from; to = e.to });
  }

  -- one more offer edge is counted if its node passes
  offer_counted : (test : ℕ → Bool)
      → count_below (λ i. test (from_at (net.offers ++ record { from = node; to = label } ∷ []) i))
      (length (net.offers ++ record { from = node; to = label } ∷ []))
      ≡ count_below (λ i. test (from_at net.offers i)) (length net.offers) + bit (test node)
  offer_counted test =
      ap (count_below (λ i. test (from_at (net.offers ++ record { from = node; to = label } ∷ []) i)))
      (length_push net.offers (record { from = node; to = label }))
      ∙ omega (
        arith,
        count_below-more (λ i. test (from_at (net.offers ++ record { from = node; to = label } ∷ []) i)) (length net.offers),
        ap (λ k. bit (test k)) (from_at-new net.offers (record { from = node; to = label })),
        count_below-same (λ i. test (from_at (net.offers ++ record { from = node; to = label } ∷ []) i)) (λ i. test (from_at net.offers i)) (length net.offers)
            (λ i a. ap test (from_at-old net.offers (record { from = node; to = label }) i a)),
      )

  -- One more offer edge is counted if its node passes and it leads to the label.
  offer_counted_to : (test : ℕ → Bool) (k : ℕ)
      → count_below (λ i. test (from_at (net.offers ++ record { from = node; to = label } ∷ []) i) && eqb
      (to_at (net.offers ++ record { from = node; to = label } ∷ []) i) k)
      (length (net.offers ++ record { from = node; to = label } ∷ []))
      ≡ count_below (λ i. test (from_at net.offers i) && eqb (to_at net.offers i) k) (length net.offers) + bit (test node && eqb label k)
  offer_counted_to test k =
      ap (count_below (λ i. test (from_at (net.offers ++ record { from = node; to = label } ∷ []) i) && eqb
      (to_at (net.offers ++ record { from = node; to = label } ∷ []) i) k))
      (length_push net.offers (record { from = node; to = label }))
      ∙ omega (
        arith,
        count_below-more (λ i. test (from_at (net.offers ++ record { from = node; to = label } ∷ []) i) && eqb
            (to_at (net.offers ++ record { from = node; to = label } ∷ []) i) k) (length net.offers),
        ap (λ m. bit (test m && eqb (to_at (net.offers ++ record { from = node; to = label } ∷ []) (length net.offers))
            k)) (from_at-new net.offers (record { from = node; to = label })),
        ap (λ m. bit (test node && eqb m k)) (to_at-new net.offers (record { from = node; to = label })),
        count_below-same (λ i. test (from_at (net.offers ++ record { from = node; to = label } ∷ []) i) && eqb
            (to_at (net.offers ++ record { from = node; to = label } ∷ []) i) k)
            (λ i. test (from_at net.offers i) && eqb (to_at net.offers i) k) (length net.offers)
            (λ i a. ap (λ m. test m && eqb (to_at (net.offers ++ record { from = node; to = label } ∷ []) i) k)
            (from_at-old net.offers (record { from = node; to = label }) i a)
            ∙ ap (λ m. test (from_at net.offers i) && eqb m k) (to_at-old net.offers (record { from = node; to = label }) i a)),
      )

  -- What holds of marks and open labels holds in the net with the offer edge.
  steady_offer : (t : Tally) → IsSteady net t → IsSteady (with_offer net node label) t
  steady_offer t steady = record {
    sizes = record { places = steady.sizes.places; support = steady.sizes.support; opened = steady.sizes.opened; touched = steady.sizes.touched };
    listing = steady.listing;
    sound = λ n a. reached-more net (with_offer net node label) IsMore-offer n (steady.sound n a);
    roots = steady.roots;
    released = steady.released;
    open_not_closed = steady.open_not_closed;
    open_supported = steady.open_supported;
  }

  -- The marks fit the net with the offer edge, so the following of edges can continue from there.
  pub Follows-offer : (t new : Tally) → label < length net.closed → IsSettled net t
      → ((is_marked_in t node ≡ true) × Supports (with_offer net node label) label t new)
      ⊎ ((is_marked_in t node ≡ false) × (new ≡ t)) → IsListing new.marked new.places
      → Follows (with_offer net node label) new (length t.marked) 0 0
  Follows-offer t new l h f listing =
      let c = h.follows.counted in
      let before = before_all t h.follows.steady.listing node in
      elim f [
        | inr s ↦
            let out : is_before t (length t.marked) node ≡ false = before ∙ s.0 in
            subst (λ x. Follows (with_offer net node label) x (length t.marked) 0 0) (sym s.1)
            (record {
              steady = steady_offer t h.follows.steady;
              counted = record {
                support = λ k a. omega (
                  arith,
                  c.support k a,
                  offer_counted_to (is_before t (length t.marked)) k,
                  bit-false (is_before t (length t.marked) node && eqb label k)
                      (and_left (is_before t (length t.marked) node) (eqb label k) out),
                );
                visits = omega (arith, c.visits, offer_counted (is_before t (length t.marked)), bit-false (is_before t (length t.marked) node) out);
              };
              opened = record { at = h.follows.opened.at };
            })
        | inl s ↦
            let there : is_before t (length t.marked) node ≡ true = before ∙ s.0 in
            let steady = steady_offer t h.follows.steady in
            let edge = IsEdge-new net.offers (record { from = node; to = label }) in
            Settles-follows (with_offer net node label) label (length t.marked) 0 0 (with_support t label) new l (omega arith)
            (with_support-steady (with_offer net node label) t label l steady)
            (record {
              support = λ k a.
                  elim (cases_eq k label) [
                    | inl q ↦
                        omega (
                          arith,
                          c.support k a,
                          offer_counted_to (is_before t (length t.marked)) k,
                          bit-true (is_before t (length t.marked) node && eqb label k)
                              (and_from (is_before t (length t.marked) node) (eqb label k) there
                              (eq-eqb label k (sym q))),
                          ap (support_in (with_support t label)) q,
                          ap (support_in t) q,
                          with_support-here (with_offer net node label) t label l steady,
                        )
                    | inr q ↦
                        omega (
                          arith,
                          c.support k a,
                          offer_counted_to (is_before t (length t.marked)) k,
                          bit-false (is_before t (length t.marked) node && eqb label k)
                              (and_no (is_before t (length t.marked) node) (eqb label k)
                              (ne_eqb label k (λ r. q (sym r)))),
                          with_support-other (with_offer net node label) t label l steady k q,
                        )
                  ];
              visits = omega (arith, c.visits, offer_counted (is_before t (length t.marked)), bit-true (is_before t (length t.marked) node) there);
            })
            listing
            (λ a. (length net.offers, node, record { within = edge.within; from = edge.from; to = edge.to }, s.0))
            (λ k a q b d. h.follows.opened.at k a (omega (arith, b, with_support-other (with_offer net node label) t label l steady k q)) d)
            s.1
      ]
    where
      and_no : (x y : Bool) → y ≡ false → (x && y) ≡ false
      and_no true y e = e
      and_no false y e = refl

-- To push the value that is read past the end changes nothing that is read.
pub push_default : {X : Type 0} (xs : List X) (d : X) (n : ℕ) → get_or (xs ++ d ∷ []) n d ≡ get_or xs n d
push_default xs d n =
    elim (cases_lt n (length xs)) [
      | inl l ↦ get_or_append_left xs (d ∷ []) d n l
      | inr l ↦
          elim (cases_eq (length xs) n) [
            | inl e ↦ get_or_push xs d d n e ∙ sym (get_or_past xs n d l)
            | inr e ↦ get_or_past (xs ++ d ∷ []) n d (omega (arith, e, l, length_push xs d)) ∙ sym (get_or_past xs n d l)
          ]
    ]

-- a flag that is set is within the list
pub within-from_flag : (flags : List Bool) (k : ℕ) → get_or flags k false ≡ true → k < length flags
within-from_flag flags k e =
    elim (cases_lt k (length flags)) [ inl l ↦ l | inr l ↦ absurd (both_ways (get_or flags k false) (get_or_past flags k false l) e) ]

-- A node is added.

-- The net with one node more has more, so it reaches no less.
pub IsMore-node : (net : Net) → IsMore net (with_node net)
IsMore-node net = record {
  roots = λ n a. push_default net.roots false n ∙ a;
  closed = λ k a. a;
  offers = λ i m k e. (i, record { within = e.within; from = e.from; to = e.to });
  waits = λ i k n e. (i, record { within = e.within; from = e.from; to = e.to });
}

-- An index is still settled with one node more, which is not marked.
pub IsSettled-node : (net : Net) (t : Tally) → IsSettled net t → IsSettled (with_node net) (record t { places = t.places ++ 0 ∷ [] })
IsSettled-node net t h =
    let steady = h.follows.steady in
    let c = h.follows.counted in
    let place : (n : ℕ) → get_or (t.places ++ 0 ∷ []) n 0 ≡ get_or t.places n 0 = push_default t.places 0 in
    let marked : (n : ℕ) → holds (t.places ++ 0 ∷ []) n ≡ is_marked_in t n = λ n. ap (ltb 0) (place n) in
    record {
      follows = record {
        steady = record {
          sizes = record {
            places = omega (arith, length_push t.places 0, length_push net.roots false, steady.sizes.places);
            support = steady.sizes.support;
            opened = steady.sizes.opened;
            touched = steady.sizes.touched;
          };
          listing = IsListing-grow t.marked t.places steady.listing;
          sound = λ n a. reached-more net (with_node net) (IsMore-node net) n (steady.sound n (sym (marked n) ∙ a));
          roots = λ n a. marked n ∙ steady.roots n (sym (push_default net.roots false n) ∙ a);
          released = λ i a o. marked (to_at net.waits i) ∙ steady.released i a o;
          open_not_closed = steady.open_not_closed;
          open_supported = steady.open_supported;
        };
        counted = record {
          support = λ k a.
              omega (
                arith,
                c.support k a,
                count_below-same
                    (λ i. (ltb 0 (get_or (t.places ++ 0 ∷ []) (from_at net.offers i) 0) && leb
                    (get_or (t.places ++ 0 ∷ []) (from_at net.offers i) 0) (length t.marked)) && eqb
                    (to_at net.offers i) k)
                    (λ i. is_before t (length t.marked) (from_at net.offers i) && eqb (to_at net.offers i) k)
                    (length net.offers)
                    (λ i b. ap (λ p. (ltb 0 p && leb p (length t.marked)) && eqb (to_at net.offers i) k) (place (from_at net.offers i))),
              );
          visits =
              omega (
                arith,
                c.visits,
                count_below-same (λ i. ltb 0 (get_or (t.places ++ 0 ∷ []) (from_at net.offers i) 0) && leb
                    (get_or (t.places ++ 0 ∷ []) (from_at net.offers i) 0) (length t.marked))
                    (λ i. is_before t (length t.marked) (from_at net.offers i)) (length net.offers)
                    (λ i b. ap (λ p. ltb 0 p && leb p (length t.marked)) (place (from_at net.offers i))),
              );
        };
        opened = record { at = h.follows.opened.at };
      };
      untouched = h.untouched;
    }

-- A label is added.

module _ (net : Net) (closed : Bool) (labels : (i : ℕ) → i < length net.offers → to_at net.offers i < length net.closed) where
  -- The older labels are closed or not as they were.
  pub closed-old : (k : ℕ) → k < length net.closed → is_closed (with_label net closed) k ≡ is_closed net k
  closed-old k l = get_or_append_left net.closed (closed ∷ []) false k l

  -- What was reached is so in the net with one label more.
  pub reached-label : (n : ℕ) → IsReached net n → IsReached (with_label net closed) n
  reached-label n (root e) = root e
  reached-label n (step {node = m} {label = l} {i = i} {j = j} r e c w) =
      let within : l < length net.closed = omega (arith, labels i e.within, e.to) in
      step (reached-label m r) (record { within = e.within; from = e.from; to = e.to }) (closed-old l within ∙ c)
      (record { within = w.within; from = w.from; to = w.to })

  -- An index is still settled with one label more, which is not open.
  pub IsSettled-label : (t : Tally) → IsSettled net t
      → IsSettled (with_label net closed) (record t {
        support = t.support ++ 0 ∷ [];
        opened = t.opened ++ false ∷ [];
        touched_places = t.touched_places ++ 0 ∷ [];
      })
  IsSettled-label t h =
      let steady = h.follows.steady in
      let c = h.follows.counted in
      let size = length_push net.closed closed in
      let support : (k : ℕ) → get_or (t.support ++ 0 ∷ []) k 0 ≡ support_in t k = push_default t.support 0 in
      let opened : (k : ℕ) → get_or (t.opened ++ false ∷ []) k false ≡ is_open_in t k = push_default t.opened false in
      let was_open : (k : ℕ) → get_or (t.opened ++ false ∷ []) k false ≡ true → is_open_in t k ≡ true = λ k o. sym (opened k) ∙ o in
      record {
        follows = record {
          steady = record {
            sizes = record {
              places = steady.sizes.places;
              support = omega (arith, size, length_push t.support 0, steady.sizes.support);
              opened = omega (arith, size, length_push t.opened false, steady.sizes.opened);
              touched = omega (arith, size, length_push t.touched_places 0, steady.sizes.touched);
            };
            listing = steady.listing;
            sound = λ n a. reached-label n (steady.sound n a);
            roots = steady.roots;
            released = λ i a o. steady.released i a (was_open (from_at net.waits i) o);
            open_not_closed = λ k o.
                closed-old k (omega (arith, within-from_flag t.opened k (was_open k o), steady.sizes.opened)) ∙ steady.open_not_closed k (was_open k o);
            open_supported = λ k o. omega (arith, support k, steady.open_supported k (was_open k o));
          };
          counted = record {
            support = λ k a.
                elim (cases_lt k (length net.closed)) [
                  | inl b ↦ omega (arith, support k, c.support k b)
                  | inr b ↦
                      omega (
                        arith,
                        support k,
                        get_or_past t.support k 0 (omega (arith, b, steady.sizes.support)),
                        count_below-gap
                            (λ i. is_before t (length t.marked) (from_at net.offers i) && eqb (to_at net.offers i) k) 0
                            (length net.offers) (omega arith)
                            (λ i d g. and_no (is_before t (length t.marked) (from_at net.offers i))
                            (eqb (to_at net.offers i) k)
                            (ne_eqb (to_at net.offers i) k (λ s. omega (arith, s, b, labels i g)))),
                      )
                ];
            visits = omega (
              arith,
              c.visits,
              count_below-same (λ i. get_or (t.opened ++ false ∷ []) (from_at net.waits i) false)
                  (λ i. is_open_in t (from_at net.waits i)) (length net.waits) (λ i b. opened (from_at net.waits i)),
            );
          };
          opened = record {
            at = λ k a s d.
                elim (cases_lt k (length net.closed)) [
                  | inl b ↦
                      elim (h.follows.opened.at k b (omega (arith, s, support k)) (sym (closed-old k b) ∙ d)) [
                        | inl o ↦ inl (opened k ∙ o)
                        | inr o ↦ inr (ap (ltb 0) (push_default t.touched_places 0 k) ∙ o)
                      ]
                  | inr b ↦ absurd (omega (arith, s, support k, get_or_past t.support k 0 (omega (arith, b, steady.sizes.support))))
                ];
          };
        };
        untouched = h.untouched;
      }
    where
      and_no : (x y : Bool) → y ≡ false → (x && y) ≡ false
      and_no true y e = e
      and_no false y e = refl

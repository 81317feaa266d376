-- Which nodes fell
use Rattle.std.proofs.Common.{◌≡◌, ◌≢◌, ℕ, ◌+◌, ◌-◌, ◌<◌, inl, inr, Bool, true, false, ◌&&◌, List, [], ◌∷◌, ◌++◌, cond}
use Rattle.std.proofs.Common.{length, get_or, take, drop, eqb, arith, refl, sym, ap, ◌∙◌, subst}
use Rattle.std.specs.Prelude.{not, Contains, AllPairs}
use Rattle.std.proofs.lemmas.Bool.{cases_Bool, cases_lt, ne_eqb, eq-eqb, eqb-true, and_parts, and_cases, both_ways, false_from_ne_true, not-true, not-false}
use Rattle.std.proofs.lemmas.List.{length_push, length-take, length-drop, get_or-take, get_or-drop}
use Rattle.std.proofs.lemmas.List.Quantifiers.{all_pairs_push}
use Rattle.std.proofs.lemmas.List.Elements.{Contains-push, Contains-push_cases, Contains-append_left, Contains-get_or}
use Rattle.wait_index.specs.Inside.Count.{count_below}
use Rattle.wait_index.specs.Inside.Listing.{holds, IsListing}
use Rattle.wait_index.specs.Edge.{from_at, to_at}
use Rattle.wait_index.specs.Net.{Net, is_root, IsReached, step, IsFallen, ReportsFallen}
use Rattle.wait_index.specs.Inside.Tally.{Tally, is_marked_in, is_open_in, UnmarksNode, WithdrawsAll, Falls}
use Rattle.wait_index.specs.Inside.Fall.{HasFallen, IsSettled, ListsFallen, with_fallen}
use Rattle.wait_index.proofs.CountBelowFacts.{count_below-change}
use Rattle.wait_index.proofs.ListingFacts.{within-from_holds, contains-from_holds, holds-from_contains}
use Rattle.wait_index.proofs.FallFacts.{WaitsOnce}
use Rattle.wait_index.proofs.CloseFacts.{taken-open, untouched-from_open, taken-touched}

-- A node is unmarked, and its offer edges are taken back.

module _ (net : Net) (node : ℕ) (now : Tally) (visits : ℕ) (between new : Tally)
    (u : UnmarksNode node (record now { visits = visits }) between) (w : WithdrawsAll net node between new)
    (m : is_marked_in now node ≡ true) where
  -- After that the marked nodes are those that were marked, without the node.
  held : (n : ℕ) → is_marked_in new n ≡ (is_marked_in now n && not (eqb n node))
  held n = ap (λ ps. holds ps n) w.places ∙ u.held n

  -- After that a marked node is one that was marked, and another one.
  still-held : (n : ℕ) → is_marked_in new n ≡ true → (is_marked_in now n ≡ true) × (n ≢ node)
  still-held n a =
      let parts = and_parts (is_marked_in now n) (not (eqb n node)) (sym (held n) ∙ a) in
      (parts.0, λ s. both_ways (eqb n node) (not-true (eqb n node) parts.1) (eq-eqb n node s))

  -- After that the node is not marked.
  out : is_marked_in new node ≡ false
  out = false_from_ne_true (is_marked_in new node) (λ a. (still-held node a).1 refl)

  -- After that the list of what fell, with the node at its end, is right.
  fallen_node : (fallen : List ℕ) → IsReached net node → ListsFallen net now fallen → ListsFallen net new (fallen ++ node ∷ [])
  fallen_node fallen r h = record {
    reached = λ n c. elim (Contains-push_cases fallen node n c) [ inl a ↦ h.reached n a | inr a ↦ subst (IsReached net) a r ];
    unmarked = λ n c.
        elim (Contains-push_cases fallen node n c) [
          | inl a ↦ false_from_ne_true (is_marked_in new n) (λ b. both_ways (is_marked_in now n) (h.unmarked n a) (still-held n b).0)
          | inr a ↦ ap (is_marked_in new) (sym a) ∙ out
        ];
    all = λ n s a.
        elim (and_cases (is_marked_in now n) (not (eqb n node)) (sym (held n) ∙ a)) [
          | inl b ↦ Contains-append_left fallen (node ∷ []) n (h.all n s b)
          | inr b ↦ subst (Contains (fallen ++ node ∷ [])) (sym (eqb-true n node (not-false (eqb n node) b))) (Contains-push fallen node)
        ];
    once = all_pairs_push ◌≢◌ fallen node h.once (λ k d l e.
        both_ways (is_marked_in now node) (h.unmarked node (subst (Contains fallen) e (Contains-get_or fallen k d l))) m);
  }

  -- After that one node fewer is marked.
  one_less : IsListing now.marked now.places → IsListing new.marked new.places → length now.marked ≡ length new.marked + 1
  one_less listing listing_new =
      let size : length new.places ≡ length now.places = ap length w.places ∙ u.size in
      let other : (k : ℕ) → k < length now.places → k ≢ node → holds new.places k ≡ holds now.places k =
      λ k l ne. held k ∙ ap (λ b. holds now.places k && not b) (ne_eqb k node ne) ∙ and_yes (holds now.places k)
      in
      omega (
        arith,
        listing.many,
        listing_new.many,
        ap (count_below (λ n. holds new.places n)) size,
        count_below-change (λ n. holds new.places n) (λ n. holds now.places n) node (length now.places) (within-from_holds now.places node m) out m other,
      )
    where
      and_yes : (x : Bool) → (x && true) ≡ x
      and_yes true = refl
      and_yes false = refl

-- One step keeps the list of what fell right, whether the node falls or is a root.
pub ListsFallen-step : (net : Net) (node : ℕ) (now : Tally) (visits : ℕ) (new : Tally) (fallen : List ℕ)
    → Falls net node (record now { visits = visits }) new → is_marked_in now node ≡ true → IsReached net node
    → ListsFallen net now fallen → ListsFallen net new (with_fallen net node fallen)
ListsFallen-step net node now visits new fallen falls m r h =
    elim falls [
      | inl a ↦
          subst (λ t. ListsFallen net t (with_fallen net node fallen)) (sym a.1)
          (subst (λ b. ListsFallen net (record now { visits = visits }) (cond b fallen (fallen ++ node ∷ []))) (sym a.0)
          (record { reached = h.reached; unmarked = h.unmarked; all = h.all; once = h.once }))
      | inr a ↦ subst (λ b. ListsFallen net new (cond b fallen (fallen ++ node ∷ []))) (sym a.0)
          (fallen_node net node now visits a.1.0 new a.1.1 a.1.2 m fallen r h)
    ]

-- the number of the fallen grew by what that of the marked lost
pub fallen-many : (net : Net) (node : ℕ) (now : Tally) (visits : ℕ) (new : Tally) (fallen : List ℕ)
    → Falls net node (record now { visits = visits }) new → is_marked_in now node ≡ true
    → IsListing now.marked now.places → IsListing new.marked new.places
    → length (with_fallen net node fallen) + length new.marked ≡ length fallen + length now.marked
fallen-many net node now visits new fallen falls m listing listing_new =
    elim falls [
      | inl a ↦
          omega (arith, ap (λ (t : Tally). length t.marked) a.1, ap (λ b. length (cond b fallen (fallen ++ node ∷ []))) a.0)
      | inr a ↦
          omega (
            arith,
            one_less net node now visits a.1.0 new a.1.1 a.1.2 m listing listing_new,
            ap (λ b. length (cond b fallen (fallen ++ node ∷ []))) a.0,
            length_push fallen node,
          )
    ]

-- While all that is reached is marked, nothing fell.
pub ListsFallen-none : (net : Net) (t : Tally) → ((n : ℕ) → IsReached net n → is_marked_in t n ≡ true) → ListsFallen net t []
ListsFallen-none net t marked = record {
  reached = λ n c. absurd (omega (arith, c.1));
  unmarked = λ n c. absurd (omega (arith, c.1));
  all = λ n r m. absurd (both_ways (is_marked_in t n) m (marked n r));
  once = λ i j d l within. absurd (omega (arith, within));
}

-- When the fall is over, the list has what falls with the labels.

module _ (net : Net) (t : Tally) (h : IsSettled net t) (queue : IsListing t.touched t.touched_places) (labels : (i : ℕ)
    → i < length net.offers → to_at net.offers i < length net.closed) (once : WaitsOnce net) (closing : List ℕ)
    (now : Tally) (f : HasFallen net closing now) (fallen : List ℕ) (listed : ListsFallen net now fallen) where
  -- Each node of the list falls, by the definition.
  falls-from_listed : (n : ℕ) → Contains fallen n → IsFallen net closing n
  falls-from_listed n c =
      let out = listed.unmarked n c in
      let w = f.lost n (listed.reached n c) out in
      record {
        not_root = false_from_ne_true (is_root net n) (λ r. both_ways (is_marked_in now n) out (f.roots n r));
        awaits = (w.0, from_at net.waits w.0, record { within = w.1; from = refl; to = w.2 }, f.near (from_at net.waits w.0) w.3);
      }

  -- Each node that falls, by the definition, is in the list.
  listed-from_falls : (n : ℕ) → IsFallen net closing n → Contains fallen n
  listed-from_falls n x =
      let i = x.awaits.0 in
      let label = x.awaits.1 in
      let e = x.awaits.2 in
      let o = taken-open net closing label x.awaits.3 in
      let out : is_marked_in now n ≡ false =
      false_from_ne_true (is_marked_in now n) (λ m.
      elim (f.grounded n m) [
        | inl r ↦ both_ways (is_root net n) x.not_root r
        | inr g ↦
            let same : g.0 ≡ i = once g.0 i g.1.within e.within (g.2 ∙ sym e.to) in
            elim g.1.by [
              | inl d ↦
                  untouched-from_open net closing now f label (ap (is_open_in now) (sym (ap (from_at net.waits) same ∙ e.from)) ∙ d)
                  (taken-touched net t h queue labels closing now f once label x.awaits.3)
              | inr d ↦ omega (arith, d.1)
            ]
      ])
      in
      listed.all n (step o.offered.3 o.offered.2 o.not_closed e) out

  -- Those that are marked now are the first ones of those that are marked in the end.

  module _ (kept : ℕ) (marked : List ℕ) (same : take kept marked ≡ now.marked) (apart : AllPairs ◌≢◌ marked)
      (before : (n : ℕ) → Contains marked n → IsReached net n) where
    -- The first ones are marked when the fall is over.
    marked-from_front : (n : ℕ) → Contains (take kept marked) n → is_marked_in now n ≡ true
    marked-from_front n c = holds-from_contains now.marked now.places f.listing n (subst (λ xs. Contains xs n) same c)

    -- What is marked when the fall is over is among the first ones.
    front-from_marked : (n : ℕ) → is_marked_in now n ≡ true → Contains (take kept marked) n
    front-from_marked n m = subst (λ xs. Contains xs n) (sym same) (contains-from_holds now.marked now.places f.listing n m)

    -- A node that falls is not marked when the fall is over.
    unmarked-from_falls : (n : ℕ) → IsFallen net closing n → is_marked_in now n ≡ true → ⊥
    unmarked-from_falls n x m = both_ways (is_marked_in now n) (listed.unmarked n (listed-from_falls n x)) m

    -- none of the first ones comes again after them
    front-once : (n : ℕ) → Contains (take kept marked) n → Contains (drop kept marked) n → ⊥
    front-once n a b =
        let size = length-take kept marked in
        apart a.0 (kept + b.0) n (omega (arith, a.1, size)) (omega (arith, b.1, length-drop kept marked))
        (sym (get_or-take kept marked a.0 n (omega (arith, a.1, size))) ∙ a.2 ∙ sym b.2 ∙ get_or-drop kept marked b.0 n)

    -- What comes after the first ones is marked in the end.
    marked-from_again : (n : ℕ) → Contains (drop kept marked) n → Contains marked n
    marked-from_again n c = (kept + c.0, omega (arith, c.1, length-drop kept marked), sym (get_or-drop kept marked c.0 n) ∙ c.2)

    -- A node that falls, and is marked in the end, comes after the first ones.
    again-from_falls : (n : ℕ) → IsFallen net closing n → Contains marked n → Contains (drop kept marked) n
    again-from_falls n x c =
        elim (cases_lt c.0 kept) [
          | inl l ↦
              absurd (unmarked-from_falls n x
              (marked-from_front n (c.0, omega (arith, l, c.1, length-take kept marked), get_or-take kept marked c.0 n l ∙ c.2)))
          | inr l ↦
              let at : kept + (c.0 - kept) ≡ c.0 = omega (arith, l) in
              (c.0 - kept, omega (arith, l, c.1, length-drop kept marked), get_or-drop kept marked (c.0 - kept) n ∙ ap (λ i. get_or marked i n) at ∙ c.2)
        ]

    -- The list, and the number of nodes that were kept, say what fell, as the index promises after
    -- a close.
    pub ReportsFallen-listed : ReportsFallen net closing fallen kept marked
    ReportsFallen-listed = record {
      fell = λ n. (falls-from_listed n, listed-from_falls n);
      once = listed.once;
      front = λ n. (
        λ c. (f.sound n (marked-from_front n c), λ x. unmarked-from_falls n x (marked-from_front n c)),
        λ r.
            elim (cases_Bool (is_marked_in now n)) [
              | inl m ↦ front-from_marked n m
              | inr m ↦ absurd (r.1 (falls-from_listed n (listed.all n r.0 m)))
            ],
      );
      again = λ n. (
        λ c.
            elim (cases_Bool (is_marked_in now n)) [
              | inl m ↦ absurd (front-once n (front-from_marked n m) c)
              | inr m ↦ let a = marked-from_again n c in (falls-from_listed n (listed.all n (before n a) m), a)
            ],
        λ x. again-from_falls n x.0 x.1,
      );
    }

-- How what only a label reaches is taken back
use Rattle.std.proofs.Common.{◌≡◌, ◌≢◌, ℕ, ◌+◌, ◌-◌, ◌<◌, ◌≤◌, ◌⊎◌, inl, inr, Bool, true, false, ◌&&◌, List, length}
use Rattle.std.proofs.Common.{get_or, set, take, eqb, arith, refl, sym, ap, ◌∙◌, subst}
use Rattle.std.specs.Prelude.{not}
use Rattle.std.proofs.lemmas.Bool.{cases_eq, cases_lt, ne_eqb, eq-eqb, eqb-true, and_parts, and_from, and_cases, both_ways, not-true, not-false}
use Rattle.std.proofs.lemmas.List.{length-set, length-take, get_or-take, get_or_past}
use Rattle.wait_index.specs.Inside.Count.{bit, count_below}
use Rattle.wait_index.specs.Edge.{from_at, to_at, IsEdge}
use Rattle.wait_index.specs.Inside.Links.{IsLink, IsLast}
use Rattle.wait_index.specs.Inside.Listing.{holds, IsListing}
use Rattle.wait_index.specs.Net.{Net, is_root, IsTakenBack, beyond}
use Rattle.wait_index.specs.Inside.Tally.{Tally, is_marked_in, is_touched_in, is_open_in, support_in, offers_between, UnmarksNode, WithdrawsAll, Falls}
use Rattle.wait_index.specs.Inside.Fall.{StillFollowed, IsFalling, CanFall}
use Rattle.wait_index.proofs.CountBelowFacts.{bit-true, bit-false, count_below-some, count_below-add, count_below-mono, count_below-same}
use Rattle.wait_index.proofs.LinkFacts.{IsLink-last, count_owned, count_owned-step}
use Rattle.wait_index.proofs.ListingFacts.{placed-from_holds, holds-from_placed}
use Rattle.wait_index.proofs.ReleaseFacts.{front-trans}
use Rattle.wait_index.proofs.FollowFacts.{flag-here, flag-other, bit-and-add, place_kept}

-- at most one wait edge leads to a node
abbrev pub WaitsOnce : Net → Type 0
WaitsOnce net = (i j : ℕ) → i < length net.waits → j < length net.waits → to_at net.waits i ≡ to_at net.waits j → i ≡ j

-- a marked node can fall
pub CanFall-marked : (net : Net) (closing : List ℕ) (t : Tally) (index label link node : ℕ)
    → IsFalling net closing t index label link → is_marked_in t node ≡ true → (visits : ℕ) → t.visits ≡ visits + 1
    → 0 < count_below (λ i. eqb (from_at net.waits i) label) link → CanFall net (record t { visits = visits }) node
CanFall-marked net closing t index label link node h m visits e some =
    let same : (i : ℕ) → eqb (from_at net.offers i) node ≡ true → is_marked_in t (from_at net.offers i) ≡ true =
    λ i a. ap (is_marked_in t) (eqb-true (from_at net.offers i) node a) ∙ m in
    record {
      sizes = record { places = h.sizes.places; support = h.sizes.support; opened = h.sizes.opened; touched = h.sizes.touched };
      visits = omega (
        arith,
        e,
        some,
        h.counted.visits,
        count_below-mono (λ i. eqb (from_at net.offers i) node) (λ i. is_marked_in t (from_at net.offers i)) (length net.offers) (λ i l a. same i a),
      );
      support = λ l a. omega (
        arith,
        h.counted.support l a,
        count_below-mono (λ i. eqb (from_at net.offers i) node && eqb (to_at net.offers i) l)
            (λ i. is_marked_in t (from_at net.offers i) && eqb (to_at net.offers i) l) (length net.offers)
            (λ i b c.
            let parts = and_parts (eqb (from_at net.offers i) node) (eqb (to_at net.offers i) l) c in
            and_from (is_marked_in t (from_at net.offers i)) (eqb (to_at net.offers i) l) (same i parts.0) parts.1),
      );
    }

-- The next touched label is taken up: from now on it is not open.

module _ (net : Net) (closing : List ℕ) (t : Tally) (index label link : ℕ) (h : IsFalling net closing t index 0 0)
    (l : index < length t.touched) (at : label ≡ get_or t.touched index 0) (within : label < length net.closed)
    (last : IsLast net.waits label (length net.waits) link) where
  -- the tally once the label is not open
  shut_label : Tally
  shut_label = record t { opened = set t.opened label false }

  -- The label was open.
  was_open : is_open_in t label ≡ true
  was_open = ap (is_open_in t) at ∙ h.todo index (omega arith) l

  -- The label is touched.
  was_touched : is_touched_in t label ≡ true
  was_touched = holds-from_placed t.touched_places label (omega (arith, ap (λ k. get_or t.touched_places k 0) at, h.queue.listed index l))

  -- The label's flag is lowered.
  shut_here : get_or (set t.opened label false) label false ≡ false
  shut_here = flag-here t.opened label false (omega (arith, within, h.sizes.opened))

  -- Each other flag is as it was.
  shut_other : (k : ℕ) → k ≢ label → get_or (set t.opened label false) k false ≡ is_open_in t k
  shut_other k ne = flag-other t.opened label k false ne

  -- what is open now was open, and is another label
  still_open : (k : ℕ) → get_or (set t.opened label false) k false ≡ true → (is_open_in t k ≡ true) × (k ≢ label)
  still_open k e =
      elim (cases_eq k label) [
        | inl s ↦ absurd (both_ways (get_or (set t.opened label false) label false) shut_here (ap (λ x. get_or (set t.opened label false) x false) (sym s) ∙ e))
        | inr s ↦ (sym (shut_other k s) ∙ e, s)
      ]

  -- The wait edges of open labels are fewer by those of this label.
  fewer_open : count_below (λ i. is_open_in t (from_at net.waits i)) (length net.waits)
      ≡ count_below (λ i. get_or (set t.opened label false) (from_at net.waits i) false) (length net.waits) +
      count_below (λ i. eqb (from_at net.waits i) label) (length net.waits)
  fewer_open =
      count_below-add (λ i. is_open_in t (from_at net.waits i))
      (λ i. get_or (set t.opened label false) (from_at net.waits i) false) (λ i. eqb (from_at net.waits i) label)
      (length net.waits)
      (λ i a. elim (cases_eq (from_at net.waits i) label) [
        | inl s ↦ omega (
          arith,
          bit-true (is_open_in t (from_at net.waits i)) (ap (is_open_in t) s ∙ was_open),
          bit-false (get_or (set t.opened label false) (from_at net.waits i) false)
              (ap (λ x. get_or (set t.opened label false) x false) s ∙ shut_here),
          bit-true (eqb (from_at net.waits i) label) (eq-eqb (from_at net.waits i) label s),
        )
        | inr s ↦ omega (arith, ap bit (shut_other (from_at net.waits i) s), bit-false (eqb (from_at net.waits i) label) (ne_eqb (from_at net.waits i) label s))
      ])

  -- The fall continues, with all wait edges of this label left to be taken back.
  pub IsFalling-start : IsFalling net closing (record t { opened = set t.opened label false }) (index + 1) label link
  IsFalling-start = record {
    sizes = record { places = h.sizes.places; support = h.sizes.support; opened = length-set t.opened label false ∙ h.sizes.opened; touched = h.sizes.touched };
    listing = h.listing;
    queue = h.queue;
    counted = record {
      support = h.counted.support;
      visits = omega (arith, h.counted.visits, fewer_open, count_owned net.waits label (length net.waits) link last);
    };
    sound = h.sound;
    roots = h.roots;
    grounded = λ n m.
        elim (h.grounded n m) [
          | inl a ↦ inl a
          | inr a ↦
              inr (
                a.0,
                (elim a.1.by [
                  | inl o ↦
                      elim (cases_eq (from_at net.waits a.0) label) [
                        | inl s ↦
                            record {
                              within = a.1.within;
                              by = inr (s, elim (cases_lt a.0 link) [ inl b ↦ b | inr b ↦ absurd (last.none_later a.0 b a.1.within s) ]);
                            }
                        | inr s ↦ record { within = a.1.within; by = inl (shut_other (from_at net.waits a.0) s ∙ o) }
                      ]
                  | inr o ↦ absurd (omega (arith, o.1))
                ]),
                a.2,
              )
        ];
    released = λ i a.
        h.released i (record {
          within = a.within;
          by = inl (elim a.by [ inl o ↦ (still_open (from_at net.waits i) o).0 | inr o ↦ ap (is_open_in t) o.0 ∙ was_open ]);
        });
    fallen = λ n i r m a b o. h.fallen n i r m a b (still_open (to_at net.offers i) o).0;
    open_not_closed = λ k o. h.open_not_closed k (still_open k o).0;
    open_supported = λ k o. h.open_supported k (still_open k o).0;
    opened = record {
      at = λ k a s b.
          elim (cases_eq k label) [
            | inl e ↦ inr (ap (is_touched_in t) e ∙ was_touched)
            | inr e ↦ elim (h.opened.at k a s b) [ inl o ↦ inl (shut_other k e ∙ o) | inr o ↦ inr o ]
          ];
    };
    lost = h.lost;
    shut = λ n i r a b d.
        elim (cases_eq (to_at net.offers i) label) [
          | inl e ↦ inr (ap (is_touched_in t) e ∙ was_touched)
          | inr e ↦ elim (h.shut n i r a b d) [ inl o ↦ inl (shut_other (to_at net.offers i) e ∙ o) | inr o ↦ inr o ]
        ];
    first = h.first;
    near = h.near;
    done = λ k a.
        elim (cases_eq (get_or t.touched k 0) label) [
          | inl e ↦ ap (λ x. get_or (set t.opened label false) x false) e ∙ shut_here
          | inr e ↦
              elim (cases_eq k index) [
                | inl s ↦ absurd (e (ap (λ x. get_or t.touched x 0) s ∙ sym at))
                | inr s ↦ shut_other (get_or t.touched k 0) e ∙ h.done k (omega arith)
              ]
        ];
    todo = λ k a b.
        let apart : get_or t.touched k 0 ≢ label =
        λ e. omega (
          arith,
          a,
          ap (λ x. get_or t.touched_places x 0) (e ∙ at),
          h.queue.listed k b,
          h.queue.listed index l,
        ) in
        shut_other (get_or t.touched k 0) apart ∙ h.todo k (omega (arith, a)) b;
  }

-- When no wait edge of a label is left, the fall is between two labels.
pub IsFalling-between : (net : Net) (closing : List ℕ) (t : Tally) (index label : ℕ) → IsFalling net closing t index label 0 → IsFalling net closing t index 0 0
IsFalling-between net closing t index label h = record {
  sizes = h.sizes;
  listing = h.listing;
  queue = h.queue;
  counted = record { support = h.counted.support; visits = h.counted.visits };
  sound = h.sound;
  roots = h.roots;
  grounded = λ n m.
      elim (h.grounded n m) [
        | inl a ↦ inl a
        | inr a ↦ inr (a.0, record { within = a.1.within; by = elim a.1.by [ inl o ↦ inl o | inr o ↦ absurd (omega (arith, o.1)) ] }, a.2)
      ];
  released = λ i a. h.released i (record { within = a.within; by = elim a.by [ inl o ↦ inl o | inr o ↦ absurd (omega (arith, o.1)) ] });
  fallen = h.fallen;
  open_not_closed = h.open_not_closed;
  open_supported = h.open_supported;
  opened = h.opened;
  lost = h.lost;
  shut = h.shut;
  first = h.first;
  near = h.near;
  done = h.done;
  todo = h.todo;
}

-- the wait edges of the touched label at the index are taken back from the link on
pub record TakesBackFrom (net : Net) (closing : List ℕ) (index label link : ℕ) (old now : Tally) : Type 0 where
  pub falling : IsFalling net closing now (index + 1) label link
  pub at : IsLink net.waits label link
  pub shut_label : is_open_in now label ≡ false
  pub touched_label : is_touched_in now label ≡ true
  pub within : index < length now.touched
  pub front : take (length old.touched) now.touched ≡ old.touched

-- One wait edge is taken back.

module _ (net : Net) (once : WaitsOnce net) (closing : List ℕ) (index label edge link next : ℕ) (old now : Tally)
    (h : TakesBackFrom net closing index label link old now) (e : link ≡ edge + 1)
    (last : IsLast net.waits label edge next) where
  -- The edge of the link is one of the wait edges.
  edge_within : edge < length net.waits
  edge_within = omega (arith, h.at.within, e)

  -- The edge is one of the label.
  owner : from_at net.waits edge ≡ label
  owner = h.at.owned edge e

  -- The edge is still followed.
  followed : StillFollowed net now label link edge
  followed = record { within = edge_within; by = inr (owner, omega (arith, e)) }

  -- The node to which the edge leads is marked, since the edge is followed.
  pub node_marked : is_marked_in now (to_at net.waits edge) ≡ true
  node_marked = h.falling.released edge followed

  -- What is followed with the next link is followed with this one.
  wider : (i : ℕ) → StillFollowed net now label next i → StillFollowed net now label link i
  wider i a = record { within = a.within; by = elim a.by [ inl o ↦ inl o | inr o ↦ inr (o.0, omega (arith, o.1, last.below, e)) ] }

  -- What is followed with this link, other than the edge, is followed with the next one.
  narrower : (i : ℕ) → StillFollowed net now label link i → i ≢ edge → StillFollowed net now label next i
  narrower i a ne = record {
    within = a.within;
    by = elim a.by [
      | inl o ↦ inl o
      | inr o ↦ inr (o.0, elim (cases_lt i next) [ inl b ↦ b | inr b ↦ absurd (last.none_later i b (omega (arith, o.1, e, ne)) o.0) ])
    ];
  }

  -- The edge is not followed with the next link.
  no_longer : StillFollowed net now label next edge → ⊥
  no_longer a =
      elim a.by [
        | inl o ↦ both_ways (is_open_in now label) h.shut_label (ap (is_open_in now) (sym owner) ∙ o)
        | inr o ↦ omega (arith, o.1, last.below)
      ]

  -- One edge of the label fewer is left.
  one_less : count_below (λ i. eqb (from_at net.waits i) label) link ≡ count_below (λ i. eqb (from_at net.waits i) label) next + 1
  one_less = ap (count_below (λ i. eqb (from_at net.waits i) label)) e ∙ count_owned-step net.waits label edge next owner last

  -- The visits are not 0, so one can be taken back.
  pub visits_some : now.visits ≡ (now.visits - 1) + 1
  visits_some = omega (arith, h.falling.counted.visits, one_less)

  -- The node can fall, by the counts without this edge.
  pub node_can : CanFall net (record now { visits = now.visits - 1 }) (to_at net.waits edge)
  node_can = CanFall-marked net closing now (index + 1) label link (to_at net.waits edge) h.falling node_marked
      (now.visits - 1) visits_some (omega (arith, one_less))

  -- A root is still marked, and the fall continues.
  falling_root : is_root net (to_at net.waits edge) ≡ true → IsFalling net closing (record now { visits = now.visits - 1 }) (index + 1) label next
  falling_root r =
      let f = h.falling in
      record {
        sizes = record { places = f.sizes.places; support = f.sizes.support; opened = f.sizes.opened; touched = f.sizes.touched };
        listing = f.listing;
        queue = f.queue;
        counted = record { support = f.counted.support; visits = omega (arith, f.counted.visits, one_less) };
        sound = f.sound;
        roots = f.roots;
        grounded = λ n m.
            elim (f.grounded n m) [
              | inl a ↦ inl a
              | inr a ↦
                  elim (cases_eq a.0 edge) [
                    | inl s ↦ inl (ap (is_root net) (sym a.2 ∙ ap (to_at net.waits) s) ∙ r)
                    | inr s ↦ let n = narrower a.0 a.1 s in inr (a.0, record { within = n.within; by = n.by }, a.2)
                  ]
            ];
        released = λ i a. f.released i (wider i (record { within = a.within; by = a.by }));
        fallen = f.fallen;
        open_not_closed = f.open_not_closed;
        open_supported = f.open_supported;
        opened = record { at = f.opened.at };
        lost = f.lost;
        shut = f.shut;
        first = f.first;
        near = f.near;
        done = f.done;
        todo = f.todo;
      }

  -- another node is no longer marked, and its offer edges are taken back

  module _ (not_root : is_root net (to_at net.waits edge) ≡ false) (between new : Tally)
      (u : UnmarksNode (to_at net.waits edge) (record now { visits = now.visits - 1 }) between)
      (w : WithdrawsAll net (to_at net.waits edge) between new) (listing : IsListing new.marked new.places)
      (queue : IsListing new.touched new.touched_places) where
    -- After that the marked nodes are those that were marked, without the node.
    held : (n : ℕ) → is_marked_in new n ≡ (is_marked_in now n && not (eqb n (to_at net.waits edge)))
    held n = ap (λ ps. holds ps n) w.places ∙ u.held n

    -- After that a marked node is one that was marked, and another one.
    held_parts : (n : ℕ) → is_marked_in new n ≡ true → (is_marked_in now n ≡ true) × (n ≢ to_at net.waits edge)
    held_parts n a =
        let parts = and_parts (is_marked_in now n) (not (eqb n (to_at net.waits edge))) (sym (held n) ∙ a) in
        (parts.0, λ s. both_ways (eqb n (to_at net.waits edge)) (not-true (eqb n (to_at net.waits edge)) parts.1) (eq-eqb n (to_at net.waits edge) s))

    -- Each other marked node is still marked.
    held_from : (n : ℕ) → is_marked_in now n ≡ true → n ≢ to_at net.waits edge → is_marked_in new n ≡ true
    held_from n a ne = held n ∙ and_from (is_marked_in now n) (not (eqb n (to_at net.waits edge))) a (ap not (ne_eqb n (to_at net.waits edge) ne))

    -- what is not marked now was not, or is the node
    fell_cases : (n : ℕ) → is_marked_in new n ≡ false → (is_marked_in now n ≡ false) ⊎ (n ≡ to_at net.waits edge)
    fell_cases n a =
        elim (and_cases (is_marked_in now n) (not (eqb n (to_at net.waits edge))) (sym (held n) ∙ a)) [
          | inl b ↦ inl b
          | inr b ↦ inr (eqb-true n (to_at net.waits edge) (not-false (eqb n (to_at net.waits edge)) b))
        ]

    -- In each count of marked nodes, just this node is left out.
    held_bit : (n : ℕ) → bit (is_marked_in now n) ≡ bit (is_marked_in new n) + bit (eqb n (to_at net.waits edge))
    held_bit n =
        elim (cases_eq n (to_at net.waits edge)) [
          | inl s ↦
              let test : eqb n (to_at net.waits edge) ≡ true = eq-eqb n (to_at net.waits edge) s in
              let out : is_marked_in new n ≡ false = held n ∙ ap (λ b. is_marked_in now n && not b) test ∙ and_no (is_marked_in now n) in
              omega (
                arith,
                bit-true (is_marked_in now n) (ap (is_marked_in now) s ∙ node_marked),
                bit-false (is_marked_in new n) out,
                bit-true (eqb n (to_at net.waits edge)) test,
              )
          | inr s ↦
              let test : eqb n (to_at net.waits edge) ≡ false = ne_eqb n (to_at net.waits edge) s in
              let same : is_marked_in new n ≡ is_marked_in now n = held n ∙ ap (λ b. is_marked_in now n && not b) test ∙ and_yes (is_marked_in now n) in
              omega (arith, ap bit same, bit-false (eqb n (to_at net.waits edge)) test)
        ]
      where
        and_no : (x : Bool) → (x && false) ≡ false
        and_no true = refl
        and_no false = refl

        and_yes : (x : Bool) → (x && true) ≡ x
        and_yes true = refl
        and_yes false = refl

    -- The flags of open labels do not change.
    open_same : (l : ℕ) → is_open_in new l ≡ is_open_in now l
    open_same l = ap (λ flags. get_or flags l false) (w.opened ∙ u.opened)

    -- What was touched is still touched.
    touched_kept : (l : ℕ) → is_touched_in now l ≡ true → is_touched_in new l ≡ true
    touched_kept l a = w.kept l (ap (λ ps. holds ps l) u.touched_places ∙ a)

    -- Each open label that the node offers is touched.
    touched_all : (i : ℕ) → i < length net.offers → from_at net.offers i ≡ to_at net.waits edge
        → is_open_in now (to_at net.offers i) ≡ true → is_touched_in new (to_at net.offers i) ≡ true
    touched_all i a b o = w.all i a b (ap (λ flags. get_or flags (to_at net.offers i) false) u.opened ∙ o)

    -- What is touched now was touched, or is open and offered by the node.
    touched_only : (l : ℕ) → is_touched_in new l ≡ true
        → (is_touched_in now l ≡ true)
        ⊎ ((is_open_in now l ≡ true) × ((i : ℕ) × IsEdge net.offers i (to_at net.waits edge) l))
    touched_only l a =
        elim (w.only l a) [
          | inl b ↦ inl (ap (λ ps. holds ps l) (sym u.touched_places) ∙ b)
          | inr b ↦ inr (ap (λ flags. get_or flags l false) (sym u.opened) ∙ b.0, b.1)
        ]

    -- The new touched labels come at the end of the list.
    touched_front : take (length now.touched) new.touched ≡ now.touched
    touched_front = ap (λ (xs : List ℕ). take (length xs) new.touched) (sym u.touched) ∙ w.front ∙ u.touched

    -- The list of touched labels does not get shorter.
    touched_longer : length now.touched ≤ length new.touched
    touched_longer = omega (arith, length-take (length now.touched) new.touched, ap length touched_front)

    -- The old touched labels keep their places.
    touched_item : (k : ℕ) → k < length now.touched → get_or new.touched k 0 ≡ get_or now.touched k 0
    touched_item k a = sym (get_or-take (length now.touched) new.touched k 0 a) ∙ ap (λ xs. get_or xs k 0) touched_front

    -- There is still one support for each label.
    label_size : length between.support ≡ length net.closed
    label_size = ap length u.support ∙ h.falling.sizes.support

    -- Each label's support falls by the node's offer edges to it.
    support_is : (l : ℕ) → l < length net.closed → support_in new l + offers_between net (to_at net.waits edge) l ≡ support_in now l
    support_is l a = w.support l (omega (arith, a, label_size)) ∙ ap (λ xs. get_or xs l 0) u.support

    -- What is touched now is taken back, by the definition.
    new_near : (l : ℕ) → is_touched_in new l ≡ true → IsTakenBack net closing l
    new_near l a =
        elim (touched_only l a) [
          | inl b ↦ h.falling.near l b
          | inr b ↦ beyond (h.falling.near label h.touched_label)
              (record { within = edge_within; from = owner; to = refl }) not_root b.1.1
              (h.falling.open_not_closed l b.0)
        ]

    -- What is touched and not yet taken up is still open.
    new_todo : (k : ℕ) → index + 1 ≤ k → k < length new.touched → is_open_in new (get_or new.touched k 0) ≡ true
    new_todo k a b =
        elim (cases_lt k (length now.touched)) [
          | inl c ↦ ap (is_open_in new) (touched_item k c) ∙ open_same (get_or now.touched k 0) ∙ h.falling.todo k a c
          | inr c ↦
              let place : get_or new.touched_places (get_or new.touched k 0) 0 ≡ k + 1 = queue.listed k b in
              elim (touched_only (get_or new.touched k 0) (holds-from_placed new.touched_places (get_or new.touched k 0) (omega (arith, place)))) [
                | inl d ↦
                    let was = placed-from_holds now.touched_places (get_or new.touched k 0) d in
                    let kept = place_kept now.touched now.touched_places new.touched new.touched_places h.falling.queue
                    queue touched_front (get_or new.touched k 0) was in
                    let before =
                    h.falling.queue.placed_within (get_or new.touched k 0)
                    (get_or now.touched_places (get_or new.touched k 0) 0 - 1) (omega (arith, was)) in
                    absurd (omega (arith, place, kept, before, c))
                | inr d ↦ open_same (get_or new.touched k 0) ∙ d.0
              ]
        ]

    -- The fall continues after a node that is not a root.
    falling_node : IsFalling net closing new (index + 1) label next
    falling_node =
        let f = h.falling in
        record {
          sizes = record {
            places = ap length w.places ∙ u.size ∙ f.sizes.places;
            support = w.supports ∙ label_size;
            opened = ap length w.opened ∙ ap length u.opened ∙ f.sizes.opened;
            touched = w.size ∙ ap length u.touched_places ∙ f.sizes.touched;
          };
          listing = listing;
          queue = queue;
          counted = record {
            support = λ l a.
                omega (
                  arith,
                  support_is l a,
                  f.counted.support l a,
                  count_below-add (λ i. is_marked_in now (from_at net.offers i) && eqb (to_at net.offers i) l)
                      (λ i. is_marked_in new (from_at net.offers i) && eqb (to_at net.offers i) l)
                      (λ i. eqb (from_at net.offers i) (to_at net.waits edge) && eqb (to_at net.offers i) l)
                      (length net.offers)
                      (λ i b. bit-and-add (is_marked_in now (from_at net.offers i))
                      (is_marked_in new (from_at net.offers i)) (eqb (from_at net.offers i) (to_at net.waits edge))
                      (eqb (to_at net.offers i) l) (held_bit (from_at net.offers i))),
                );
            visits =
                omega (
                  arith,
                  w.visits,
                  u.visits,
                  f.counted.visits,
                  one_less,
                  count_below-add (λ i. is_marked_in now (from_at net.offers i))
                      (λ i. is_marked_in new (from_at net.offers i))
                      (λ i. eqb (from_at net.offers i) (to_at net.waits edge)) (length net.offers)
                      (λ i b. held_bit (from_at net.offers i)),
                  count_below-same (λ i. is_open_in new (from_at net.waits i))
                      (λ i. is_open_in now (from_at net.waits i)) (length net.waits)
                      (λ i b. open_same (from_at net.waits i)),
                );
          };
          sound = λ n a. f.sound n (held_parts n a).0;
          roots = λ n a. held_from n (f.roots n a) (λ s. both_ways (is_root net (to_at net.waits edge)) not_root (ap (is_root net) (sym s) ∙ a));
          grounded = λ n m.
              let parts = held_parts n m in
              elim (f.grounded n parts.0) [
                | inl a ↦ inl a
                | inr a ↦
                    let apart : a.0 ≢ edge = λ s. parts.1 (sym a.2 ∙ ap (to_at net.waits) s) in
                    let s = narrower a.0 a.1 apart in
                    inr (a.0, record { within = s.within; by = elim s.by [ inl o ↦ inl (open_same (from_at net.waits a.0) ∙ o) | inr o ↦ inr o ] }, a.2)
              ];
          released = λ i a.
              let was : StillFollowed net now label next i =
              record {
                within = a.within;
                by =
                    elim a.by [ inl o ↦ inl (sym (open_same (from_at net.waits i)) ∙ o) | inr o ↦ inr o ];
              } in
              held_from (to_at net.waits i) (f.released i (wider i was))
              (λ s. no_longer (subst (λ k. StillFollowed net now label next k) (once i edge a.within edge_within s)
              was));
          fallen = λ n i r m a b o.
              let was_open = sym (open_same (to_at net.offers i)) ∙ o in
              elim (fell_cases n m) [
                | inl c ↦ touched_kept (to_at net.offers i) (f.fallen n i r c a b was_open)
                | inr c ↦ touched_all i a (b ∙ c) was_open
              ];
          open_not_closed = λ l o. f.open_not_closed l (sym (open_same l) ∙ o);
          open_supported = λ l o.
              let was_open = sym (open_same l) ∙ o in
              elim (f.open_supported l was_open) [
                | inl a ↦
                    elim (cases_lt 0 (offers_between net (to_at net.waits edge) l)) [
                      | inl b ↦
                          let i = count_below-some
                          (λ k. eqb (from_at net.offers k) (to_at net.waits edge) && eqb (to_at net.offers k) l)
                          (length net.offers) b in
                          let parts = and_parts (eqb (from_at net.offers i.0) (to_at net.waits edge)) (eqb (to_at net.offers i.0) l) i.2 in
                          let there : to_at net.offers i.0 ≡ l = eqb-true (to_at net.offers i.0) l parts.1 in
                          inr (ap (is_touched_in new) (sym there)
                          ∙ touched_all i.0 i.1 (eqb-true (from_at net.offers i.0) (to_at net.waits edge) parts.0)
                          (ap (is_open_in now) there ∙ was_open))
                      | inr b ↦ inl (omega (arith, a, b, support_is l (open_within l was_open)))
                    ]
                | inr a ↦ inr (touched_kept l a)
              ];
          opened = record {
            at = λ l a s b.
                elim (f.opened.at l a (omega (arith, s, support_is l a)) b) [
                  | inl o ↦ inl (open_same l ∙ o)
                  | inr o ↦ inr (touched_kept l o)
                ];
          };
          lost = λ n r m.
              elim (fell_cases n m) [
                | inl a ↦ let b = f.lost n r a in (b.0, b.1, b.2, touched_kept (from_at net.waits b.0) b.3)
                | inr a ↦ (edge, edge_within, sym a, touched_kept (from_at net.waits edge) (ap (is_touched_in now) owner ∙ h.touched_label))
              ];
          shut = λ n i r a b d.
              elim (f.shut n i r a b d) [
                | inl o ↦ inl (open_same (to_at net.offers i) ∙ o)
                | inr o ↦ inr (touched_kept (to_at net.offers i) o)
              ];
          first = λ l a o. touched_kept l (f.first l a o);
          near = new_near;
          done = λ k a.
              let b : k < length now.touched = omega (arith, a, h.within) in
              ap (is_open_in new) (touched_item k b) ∙ open_same (get_or now.touched k 0) ∙ f.done k a;
          todo = new_todo;
        }
      where
        open_within : (l : ℕ) → is_open_in now l ≡ true → l < length net.closed
        open_within l o =
            elim (cases_lt l (length now.opened)) [
              | inl a ↦ omega (arith, a, h.falling.sizes.opened)
              | inr a ↦ absurd (both_ways (is_open_in now l) (get_or_past now.opened l false a) o)
            ]

  -- The fall continues after each wait edge, whether its node falls or is a root.
  pub TakesBackFrom-step : (new : Tally) → Falls net (to_at net.waits edge) (record now { visits = now.visits - 1 }) new
      → IsListing new.marked new.places → IsListing new.touched new.touched_places
      → TakesBackFrom net closing index label next old new
  TakesBackFrom-step new f listing queue =
      let at = IsLink-last net.waits label edge next (omega (arith, edge_within)) last in
      elim f [
        | inl a ↦
            let falling = falling_root a.0 in
            subst (λ x. TakesBackFrom net closing index label next old x) (sym a.1)
            (record { falling = falling; at = at; shut_label = h.shut_label; touched_label = h.touched_label; within = h.within; front = h.front })
        | inr a ↦
            record {
              falling = falling_node a.0 a.1.0 new a.1.1 a.1.2 listing queue;
              at = at;
              shut_label = open_same a.0 a.1.0 new a.1.1 a.1.2 listing queue label ∙ h.shut_label;
              touched_label = touched_kept a.0 a.1.0 new a.1.1 a.1.2 listing queue label h.touched_label;
              within = omega (arith, h.within, touched_longer a.0 a.1.0 new a.1.1 a.1.2 listing queue);
              front = front-trans old.touched now.touched new.touched h.front (touched_front a.0 a.1.0 new a.1.1 a.1.2 listing queue);
            }
      ]

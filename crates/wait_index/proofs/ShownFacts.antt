-- What is shown of a settled index
use Rattle.std.proofs.Common.{◌≡◌, ℕ, ◌<◌, ◌≤◌, inl, inr, true, false, ◌&&◌, List, length, get_or, eqb, arith, sym, ap, subst, ◌∙◌}
use Rattle.std.specs.Prelude.{not}
use Rattle.std.specs.List.{list_any}
use Rattle.std.proofs.lemmas.Bool.{cases_Bool, eq-eqb, eqb-true, and_parts, and_from, both_ways, false_from_ne_true, not-true}
use Rattle.std.proofs.lemmas.List.{get_or_default}
use Rattle.std.proofs.lemmas.List.Folds.{Any-from_list_any, list_any_at}
use Rattle.wait_index.specs.declared.edges.Edge.{Edge}
use Rattle.wait_index.specs.Edge.{edge_at, from_at, to_at}
use Rattle.wait_index.specs.Inside.Listing.{holds, IsListing}
use Rattle.wait_index.specs.Net.{Net, is_closed, ListsReached, has_wait, is_among, is_open_among, visits_of}
use Rattle.wait_index.specs.declared.graph.Graph.{Graph}
use Rattle.wait_index.specs.declared.marks.Marks.{Marks}
use Rattle.wait_index.specs.Inside.Tally.{Tally, net_of, tally_of, is_marked_in, is_open_in}
use Rattle.wait_index.specs.Inside.Step.{is_before}
use Rattle.wait_index.specs.Inside.Fall.{IsSettled}
use Rattle.wait_index.proofs.CountBelowFacts.{count_by-count_below, count_below-same}
use Rattle.wait_index.proofs.ListingFacts.{contains-from_holds, holds-from_contains, listed-once}
use Rattle.wait_index.proofs.FollowFacts.{Follows-offered}
use Rattle.wait_index.proofs.CloseFacts.{before_all, open-from_offer, marked-from_reached}
use Rattle.wait_index.proofs.GrowthFacts.{within-from_flag}

module _ (items places : List ℕ) (h : IsListing items places) where
  -- A number is in the list exactly if it is held.
  pub is_among-holds : (n : ℕ) → is_among items n ≡ holds places n
  is_among-holds n =
      elim (cases_Bool (holds places n)) [
        | inl e ↦
            let c = contains-from_holds items places h n e in
            list_any_at (λ m. eqb m n) items c.0 n c.1 (eq-eqb (get_or items c.0 n) n c.2) ∙ sym e
        | inr e ↦
            false_from_ne_true (is_among items n) (λ t.
            let a = Any-from_list_any (λ m. eqb m n) items t in
            both_ways (holds places n) e
            (holds-from_contains items places h n
            (a.0, a.2, get_or_default items a.0 n a.1 a.2 ∙ a.3 ∙ eqb-true a.1 n a.4))) ∙ sym e
      ]

module _ (net : Net) (t : Tally) (h : IsSettled net t) (queue : IsListing t.touched t.touched_places) (labels : (i : ℕ)
    → i < length net.offers → to_at net.offers i < length net.closed) where
  -- The marked nodes are the reached ones, each once.
  pub lists-reached : ListsReached net t.marked
  lists-reached =
      let listing = h.follows.steady.listing in
      record {
        reached = λ n c. h.follows.steady.sound n (holds-from_contains t.marked t.places listing n c);
        all = λ n r. contains-from_holds t.marked t.places listing n (marked-from_reached net t h queue labels n r);
        once = listed-once t.marked t.places listing;
      }

  -- A node is in the list of marked nodes exactly if it is marked.
  among : (n : ℕ) → is_among t.marked n ≡ is_marked_in t n
  among = is_among-holds t.marked t.places h.follows.steady.listing

  -- A label is open by the list of marked nodes exactly if its flag is set.
  open_among : (l : ℕ) → is_open_among net t.marked l ≡ is_open_in t l
  open_among l =
      elim (cases_Bool (is_open_in t l)) [
        | inl o ↦
            let within : l < length net.closed = omega (arith, within-from_flag t.opened l o, h.follows.steady.sizes.opened) in
            let b = Follows-offered net (length t.marked) t h.follows l within (h.follows.steady.open_supported l o) in
            let here : (eqb (to_at net.offers b.0) l && is_among t.marked (from_at net.offers b.0)) ≡ true =
            and_from (eqb (to_at net.offers b.0) l) (is_among t.marked (from_at net.offers b.0))
            (eq-eqb (to_at net.offers b.0) l b.2.to)
            (among (from_at net.offers b.0) ∙ ap (is_marked_in t) b.2.from ∙ b.3)
            in
            and_from (not (is_closed net l)) (list_any (λ (e : Edge). eqb e.to l && is_among t.marked e.from) net.offers)
            (ap not (h.follows.steady.open_not_closed l o))
            (list_any_at (λ (e : Edge). eqb e.to l && is_among t.marked e.from) net.offers b.0 (record { from = 0; to = 0 }) b.2.within here)
            ∙ sym o
        | inr o ↦
            false_from_ne_true (is_open_among net t.marked l) (λ e.
            let parts = and_parts (not (is_closed net l)) (list_any (λ (e : Edge). eqb e.to l && is_among t.marked e.from) net.offers) e in
            let a = Any-from_list_any (λ (e : Edge). eqb e.to l && is_among t.marked e.from) net.offers parts.1 in
            let tests = and_parts (eqb a.1.to l) (is_among t.marked a.1.from) a.4 in
            let item : edge_at net.offers a.0 ≡ a.1 = get_or_default net.offers a.0 (record { from = 0; to = 0 }) a.1 a.2 ∙ a.3 in
            let to : to_at net.offers a.0 ≡ l = ap (λ (x : Edge). x.to) item ∙ eqb-true a.1.to l tests.0 in
            let from : from_at net.offers a.0 ≡ a.1.from = ap (λ (x : Edge). x.from) item in
            both_ways (is_open_in t l) o
            (open-from_offer net t h queue a.0 a.1.from l (record { within = a.2; from = from; to = to })
            (sym (among a.1.from) ∙ tests.1) (omega (arith, labels a.0 a.2, to))
            (not-true (is_closed net l) parts.0))) ∙ sym o
      ]

  -- The visits that are counted are those by the definition.
  pub visits-shown : t.visits ≡ visits_of net t.marked
  visits-shown =
      omega (
        arith,
        h.follows.counted.visits,
        count_by-count_below (λ (e : Edge). is_among t.marked e.from) net.offers (record { from = 0; to = 0 }),
        count_by-count_below (λ (e : Edge). is_open_among net t.marked e.from) net.waits (record { from = 0; to = 0 }),
        count_below-same (λ i. is_among t.marked (from_at net.offers i))
            (λ i. is_before t (length t.marked) (from_at net.offers i)) (length net.offers)
            (λ i a. among (from_at net.offers i) ∙ sym (before_all t h.follows.steady.listing (from_at net.offers i))),
        count_below-same (λ i. is_open_among net t.marked (from_at net.waits i))
            (λ i. is_open_in t (from_at net.waits i)) (length net.waits) (λ i a. open_among (from_at net.waits i)),
      )

-- the marked nodes of a settled index are listed
pub lists : (g : Graph) (m : Marks) → IsSettled (net_of g) (tally_of m) → ListsReached (net_of g) m.marked.items.items
lists g m h = lists-reached (net_of g) (tally_of m) h m.touched.listed g.shaped.labels

-- The marked nodes are listed also after room was added.
pub lists-grown : (g more : Graph) (m grown : Marks) → IsSettled (net_of g) (tally_of m) → net_of more ≡ net_of g
    → tally_of grown ≡ tally_of m → ListsReached (net_of more) grown.marked.items.items
lists-grown g more m grown h net tally =
    subst (λ (n : Net). ListsReached n grown.marked.items.items) (sym net) (subst (λ (t : Tally). ListsReached (net_of g) t.marked) (sym tally) (lists g m h))

-- no wait edge leads to a node that is not there
pub has_wait-past : (net : Net) (node : ℕ) → ((i : ℕ) → i < length net.waits → to_at net.waits i < length net.roots)
    → length net.roots ≤ node → has_wait net node ≡ false
has_wait-past net node nodes l =
    false_from_ne_true (has_wait net node) (λ e.
    let a = Any-from_list_any (λ (w : Edge). eqb w.to node) net.waits e in
    let item : edge_at net.waits a.0 ≡ a.1 = get_or_default net.waits a.0 (record { from = 0; to = 0 }) a.1 a.2 ∙ a.3 in
    omega (arith, l, nodes a.0 a.2, ap (λ (x : Edge). x.to) item, eqb-true a.1.to node a.4))

-- How much work a close is: its bounds, and that it is one number
use Rattle.std.proofs.Common.{◌≡◌, ℕ, ◌*◌, ◌≤◌, Bool, true, false, ◌&&◌, List, length, get_or, eqb, arith, refl, sym, ap, ◌∙◌, subst}
use Rattle.std.specs.Prelude.{not, Contains, ◌↔◌}
use Rattle.std.specs.List.{list_any}
use Rattle.std.proofs.lemmas.Bool.{eq-eqb, eqb-true, and_parts, and_from}
use Rattle.std.proofs.lemmas.List.{get_or_default}
use Rattle.std.proofs.lemmas.List.Folds.{Any-from_list_any, list_any_at}
use Rattle.wait_index.specs.declared.edges.Edge.{Edge}
use Rattle.wait_index.specs.Edge.{edge_at, from_at, to_at}
use Rattle.wait_index.specs.Index.{Index}
use Rattle.wait_index.specs.Net.{Net, is_closed, ListsReached, is_among, is_open_among, visits_of}
use Rattle.wait_index.specs.Net.{ClosesIn, HasReachOf, edges_at}
use Rattle.wait_index.specs.Close.{AreUnopened, ClosesWithWork}
use Rattle.wait_index.proofs.CountBelowFacts.{count_by-count_below, count_below-mono, count_below-gap}
use Rattle.wait_index.proofs.NetLawFacts.{closed-order}
use Rattle.wait_index.proofs.CloseFacts.{ClosesIn-near, ClosesIn-one}

-- ---- visits depend on which nodes are listed, and not on their order

module _ (net : Net) (xs ys : List ℕ) (more : (n : ℕ) → Contains xs n → Contains ys n) where
  -- a node that is among the fewer is among the more
  among-more : (n : ℕ) → is_among xs n ≡ true → is_among ys n ≡ true
  among-more n e =
      let a = Any-from_list_any (λ m. eqb m n) xs e in
      let c = more n (a.0, a.2, get_or_default xs a.0 n a.1 a.2 ∙ a.3 ∙ eqb-true a.1 n a.4) in
      list_any_at (λ m. eqb m n) ys c.0 n c.1 (eq-eqb (get_or ys c.0 n) n c.2)

  -- a label that is open by the fewer is open by the more
  open-more : (l : ℕ) → is_open_among net xs l ≡ true → is_open_among net ys l ≡ true
  open-more l e =
      let parts = and_parts (not (is_closed net l)) (list_any (λ (w : Edge). eqb w.to l && is_among xs w.from) net.offers) e in
      let a = Any-from_list_any (λ (w : Edge). eqb w.to l && is_among xs w.from) net.offers parts.1 in
      let tests = and_parts (eqb a.1.to l) (is_among xs a.1.from) a.4 in
      let item : edge_at net.offers a.0 ≡ a.1 = get_or_default net.offers a.0 (record { from = 0; to = 0 }) a.1 a.2 ∙ a.3 in
      let test : (eqb (to_at net.offers a.0) l && is_among ys (from_at net.offers a.0)) ≡ true =
      ap (λ (w : Edge). eqb w.to l && is_among ys w.from) item
      ∙ and_from (eqb a.1.to l) (is_among ys a.1.from) tests.0 (among-more a.1.from tests.1)
      in
      and_from (not (is_closed net l)) (list_any (λ (w : Edge). eqb w.to l && is_among ys w.from) net.offers) parts.0
      (list_any_at (λ (w : Edge). eqb w.to l && is_among ys w.from) net.offers a.0 (record { from = 0; to = 0 }) a.2 test)

  -- so with more nodes there are not fewer visits
  pub visits-more : visits_of net xs ≤ visits_of net ys
  visits-more =
      omega (
        arith,
        count_by-count_below (λ (w : Edge). is_among xs w.from) net.offers (record { from = 0; to = 0 }),
        count_by-count_below (λ (w : Edge). is_among ys w.from) net.offers (record { from = 0; to = 0 }),
        count_by-count_below (λ (w : Edge). is_open_among net xs w.from) net.waits (record { from = 0; to = 0 }),
        count_by-count_below (λ (w : Edge). is_open_among net ys w.from) net.waits (record { from = 0; to = 0 }),
        count_below-mono (λ i. is_among xs (from_at net.offers i)) (λ i. is_among ys (from_at net.offers i))
            (length net.offers) (λ i a e. among-more (from_at net.offers i) e),
        count_below-mono (λ i. is_open_among net xs (from_at net.waits i)) (λ i. is_open_among net ys (from_at net.waits i))
            (length net.waits) (λ i a e. open-more (from_at net.waits i) e),
      )

-- Two lists of the reached nodes have the same visits.
pub visits-same : (net : Net) (xs ys : List ℕ) → ListsReached net xs → ListsReached net ys → visits_of net xs ≡ visits_of net ys
visits-same net xs ys p q =
    omega (
      arith,
      visits-more net xs ys (λ n c. q.all n (p.reached n c)),
      visits-more net ys xs (λ n c. p.all n (q.reached n c)),
    )

-- ---- the laws

-- The clause `near`: an edge is looked at twice at most, and only at labels of the reach.
pub work-near : (old new : Index) (labels : List ℕ) (work : ℕ) → ClosesWithWork old labels new work → (reach : ℕ → Bool)
    → HasReachOf old.net labels reach → work ≤ 2 * edges_at old.net reach
work-near old new labels work is reach h =
    ClosesIn-near old.net labels (visits_of old.net old.marked) (visits_of new.net new.marked) work reach is.work_is is.fewer h

-- The clause `unopened`: if no label is open there is no work.
pub work-unopened : (old new : Index) (labels : List ℕ) (work : ℕ) → ClosesWithWork old labels new work → AreUnopened old labels → work ≡ 0
work-unopened old new labels work is none =
    omega (
      arith,
      work-near old new labels work is (λ l. false) (record {
        has = λ l c o. absurd (none l c o);
        continues = λ here node there i j h w o. h;
      }),
      count_by-count_below (λ (e : Edge). false) old.net.offers (record { from = 0; to = 0 }),
      count_by-count_below (λ (e : Edge). false) old.net.waits (record { from = 0; to = 0 }),
      count_below-gap (λ i. false) 0 (length old.net.offers) (omega arith) (λ i a b. refl),
      count_below-gap (λ i. false) 0 (length old.net.waits) (omega arith) (λ i a b. refl),
    )

-- The clause `one`: the work is one number, since both closes leave the same reached nodes.
pub work-one : (old new other : Index) (labels others : List ℕ) (work more : ℕ)
    → ((l : ℕ) → (Contains labels l ↔ Contains others l)) → ClosesWithWork old labels new work
    → ClosesWithWork old others other more → work ≡ more
work-one old new other labels others work more same p q =
    let nets : new.net ≡ other.net = p.net ∙ closed-order old.net labels others same ∙ sym q.net in
    let visits : visits_of other.net other.marked ≡ visits_of new.net new.marked =
    sym (visits-same other.net new.marked other.marked (subst (λ (n : Net). ListsReached n new.marked) nets p.marked) q.marked)
    ∙ ap (λ (n : Net). visits_of n new.marked) (sym nets) in
    ClosesIn-one old.net labels others (visits_of old.net old.marked) (visits_of new.net new.marked) work more same p.work_is
    (subst (λ v. ClosesIn old.net others (visits_of old.net old.marked) v more) visits q.work_is)

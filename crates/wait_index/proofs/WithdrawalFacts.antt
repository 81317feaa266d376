-- How the offer edges of a node are taken back
use Rattle.std.proofs.Common.{◌≡◌, ◌≢◌, ℕ, ◌+◌, ◌-◌, ◌<◌, ◌≤◌, ◌⊎◌, inl, inr, true, false, ◌&&◌, length, get_or, take, eqb, arith, refl, sym, ap, ◌∙◌}
use Rattle.std.proofs.lemmas.Bool.{cases_eq, cases_lt, ne_eqb, eq-eqb, or_cases, or_left, or_right, eqb-true, and_parts, and_from}
use Rattle.std.proofs.lemmas.List.{take_all, length-set, get_or-set_same, get_or-set_other}
use Rattle.wait_index.specs.Inside.Count.{count_below}
use Rattle.wait_index.specs.Edge.{from_at, to_at, IsEdge}
use Rattle.wait_index.specs.Inside.Links.{IsLink, IsLast}
use Rattle.wait_index.specs.Net.{Net}
use Rattle.wait_index.specs.Inside.Tally.{Tally, HasSizes, is_touched_in, is_open_in, support_in, offer_count_of, offers_between, Withdraws}
use Rattle.wait_index.specs.Inside.Fall.{CanFall}
use Rattle.wait_index.proofs.CountBelowFacts.{bit-true, bit-false, count_below-at}
use Rattle.wait_index.proofs.LinkFacts.{IsLink-last, count_owned, count_owned-step, count_owned_and, count_owned_and-step}
use Rattle.wait_index.proofs.ReleaseFacts.{front-trans}

-- the offer edges of the node from the link on are taken back
pub record WithdrawsFrom (net : Net) (node link : ℕ) (old now : Tally) : Type 0 where
  pub can : CanFall net old node
  pub sizes : HasSizes net now
  pub at : IsLink net.offers node link
  pub marked : now.marked ≡ old.marked
  pub places : now.places ≡ old.places
  pub support : (l : ℕ) → l < length old.support
      → support_in now l + offers_between net node l
      ≡ support_in old l + count_below (λ i. eqb (from_at net.offers i) node && eqb (to_at net.offers i) l) link
  pub supports : length now.support ≡ length old.support
  pub opened : now.opened ≡ old.opened
  pub front : take (length old.touched) now.touched ≡ old.touched
  pub kept : (l : ℕ) → is_touched_in old l ≡ true → is_touched_in now l ≡ true
  pub all : (i : ℕ) → i < length net.offers → link ≤ i → from_at net.offers i ≡ node
      → is_open_in old (to_at net.offers i) ≡ true → is_touched_in now (to_at net.offers i) ≡ true
  pub only : (l : ℕ) → is_touched_in now l ≡ true → (is_touched_in old l ≡ true) ⊎ ((is_open_in old l ≡ true) × ((i : ℕ) × IsEdge net.offers i node l))
  pub size : length now.touched_places ≡ length old.touched_places
  pub visits : now.visits + offer_count_of net node ≡ old.visits + count_below (λ i. eqb (from_at net.offers i) node) link

-- Before the first offer edge of the node all of them are left to be taken back.
pub WithdrawsFrom-start : (net : Net) (node link : ℕ) (t : Tally) → CanFall net t node
    → IsLast net.offers node (length net.offers) link → WithdrawsFrom net node link t t
WithdrawsFrom-start net node link t c h = record {
  can = c;
  sizes = c.sizes;
  at = IsLink-last net.offers node (length net.offers) link (omega arith) h;
  marked = refl;
  places = refl;
  support = λ l a. ap (λ n. support_in t l + n) (count_owned_and net.offers node (λ i. eqb (to_at net.offers i) l) (length net.offers) link h);
  supports = refl;
  opened = refl;
  front = take_all (length t.touched) t.touched (omega arith);
  kept = λ l a. a;
  all = λ i a b e o. absurd (h.none_later i b a e);
  only = λ l a. inl a;
  size = refl;
  visits = ap (λ n. t.visits + n) (count_owned net.offers node (length net.offers) link h);
}

-- If an offer edge is left, neither the visits nor its label's support are 0, so both can be
-- lowered.
pub WithdrawsFrom-some : (net : Net) (node edge link : ℕ) (old now : Tally) → WithdrawsFrom net node link old now
    → link ≡ edge + 1 → to_at net.offers edge < length net.closed
    → (0 < now.visits) × (0 < support_in now (to_at net.offers edge))
WithdrawsFrom-some net node edge link old now h e within =
    let owner : eqb (from_at net.offers edge) node ≡ true = eq-eqb (from_at net.offers edge) node (h.at.owned edge e) in
    let here : (eqb (from_at net.offers edge) node && eqb (to_at net.offers edge) (to_at net.offers edge)) ≡ true =
    and_from (eqb (from_at net.offers edge) node) (eqb (to_at net.offers edge) (to_at net.offers edge)) owner
    (eq-eqb (to_at net.offers edge) (to_at net.offers edge) refl) in (
      omega (arith, h.visits, h.can.visits, count_below-at (λ i. eqb (from_at net.offers i) node) edge link (omega (arith, e)) owner),
      omega (
        arith,
        h.support (to_at net.offers edge) (omega (arith, within, h.can.sizes.support)),
        h.can.support (to_at net.offers edge) within,
        count_below-at (λ i. eqb (from_at net.offers i) node && eqb (to_at net.offers i) (to_at net.offers edge)) edge link (omega (arith, e)) here,
      ),
    )

-- One offer edge more is taken back.
pub WithdrawsFrom-step : (net : Net) (node edge link next : ℕ) (old now new : Tally)
    → WithdrawsFrom net node link old now → link ≡ edge + 1 → to_at net.offers edge < length net.closed
    → IsLast net.offers node edge next → Withdraws (to_at net.offers edge) now new → WithdrawsFrom net node next old new
WithdrawsFrom-step net node edge link next old now new h e within last w =
    let there : edge < length net.offers = omega (arith, h.at.within, e) in
    let owner : from_at net.offers edge ≡ node = h.at.owned edge e in
    let some = WithdrawsFrom-some net node edge link old now h e within in
    let label_in : to_at net.offers edge < length now.support = omega (arith, within, h.sizes.support) in
    let opened : (l : ℕ) → is_open_in now l ≡ is_open_in old l = λ l. ap (λ flags. get_or flags l false) h.opened in
    let kept : (l : ℕ) → is_touched_in now l ≡ true → is_touched_in new l ≡ true =
    λ l a. w.touched l ∙ or_left (is_touched_in now l)
    (eqb l (to_at net.offers edge) && is_open_in now (to_at net.offers edge)) a in
    let here : support_in new (to_at net.offers edge) ≡ support_in now (to_at net.offers edge) - 1 =
    ap (λ xs. get_or xs (to_at net.offers edge) 0) w.support
    ∙ get_or-set_same now.support (to_at net.offers edge) (support_in now (to_at net.offers edge) - 1) 0 label_in in
    let other : (l : ℕ) → l ≢ to_at net.offers edge → support_in new l ≡ support_in now l = λ l ne.
    ap (λ xs. get_or xs l 0) w.support ∙ get_or-set_other now.support (to_at net.offers edge) l (support_in now (to_at net.offers edge) - 1) 0 ne in
    let supports : length new.support ≡ length now.support =
    ap length w.support ∙ length-set now.support (to_at net.offers edge)
    (support_in now (to_at net.offers edge) - 1) in
    record {
      can = h.can;
      sizes = record {
        places = ap length w.places ∙ h.sizes.places;
        support = supports ∙ h.sizes.support;
        opened = ap length w.opened ∙ h.sizes.opened;
        touched = w.size ∙ h.sizes.touched;
      };
      at = IsLink-last net.offers node edge next (omega (arith, there)) last;
      marked = w.marked ∙ h.marked;
      places = w.places ∙ h.places;
      support = λ l a.
          let step = count_owned_and-step net.offers node (λ i. eqb (to_at net.offers i) l) edge next owner last in
          let at = ap (count_below (λ i. eqb (from_at net.offers i) node && eqb (to_at net.offers i) l)) e in
          elim (cases_eq l (to_at net.offers edge)) [
            | inl q ↦ omega (
              arith,
              h.support l a,
              step,
              at,
              bit-true (eqb (to_at net.offers edge) l) (eq-eqb (to_at net.offers edge) l (sym q)),
              ap (support_in new) q,
              ap (support_in now) q,
              here,
              some.1,
            )
            | inr q ↦ omega (
              arith,
              h.support l a,
              step,
              at,
              bit-false (eqb (to_at net.offers edge) l) (ne_eqb (to_at net.offers edge) l (λ r. q (sym r))),
              other l q,
            )
          ];
      supports = supports ∙ h.supports;
      opened = w.opened ∙ h.opened;
      front = front-trans old.touched now.touched new.touched h.front w.front;
      kept = λ l a. kept l (h.kept l a);
      all = λ i a b o p.
          elim (cases_lt edge i) [
            | inl l ↦ kept (to_at net.offers i) (h.all i a (omega (arith, l, e)) o p)
            | inr l ↦
                elim (cases_eq i edge) [
                  | inl s ↦
                      let now_open : is_open_in now (to_at net.offers edge) ≡ true =
                      opened (to_at net.offers edge) ∙ ap (λ k. is_open_in old (to_at net.offers k)) (sym s) ∙ p in
                      let both : (eqb (to_at net.offers edge) (to_at net.offers edge) && is_open_in now (to_at net.offers edge)) ≡ true =
                      and_from (eqb (to_at net.offers edge) (to_at net.offers edge))
                      (is_open_in now (to_at net.offers edge))
                      (eq-eqb (to_at net.offers edge) (to_at net.offers edge) refl) now_open
                      in
                      ap (λ k. is_touched_in new (to_at net.offers k)) s ∙ w.touched (to_at net.offers edge)
                      ∙ or_right (is_touched_in now (to_at net.offers edge))
                      (eqb (to_at net.offers edge) (to_at net.offers edge) && is_open_in now
                      (to_at net.offers edge)) both
                  | inr s ↦ absurd (last.none_later i b (omega arith) o)
                ]
          ];
      only = λ l a.
          elim (or_cases (is_touched_in now l) (eqb l (to_at net.offers edge) && is_open_in now (to_at net.offers edge)) (sym (w.touched l) ∙ a)) [
            | inl b ↦ h.only l b
            | inr b ↦
                let parts = and_parts (eqb l (to_at net.offers edge)) (is_open_in now (to_at net.offers edge)) b in
                let same = eqb-true l (to_at net.offers edge) parts.0 in
                inr (sym (opened l) ∙ ap (is_open_in now) same ∙ parts.1, (edge, record { within = there; from = owner; to = sym same }))
          ];
      size = w.size ∙ h.size;
      visits = omega (
        arith,
        h.visits,
        w.visits,
        some.0,
        count_owned-step net.offers node edge next owner last,
        ap (count_below (λ i. eqb (from_at net.offers i) node)) e,
      );
    }

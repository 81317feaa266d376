-- How marks spread
use Rattle.std.proofs.Common.{◌≡◌, ℕ, ◌+◌, ◌<◌, ◌≤◌, ◌⊎◌, inl, inr, true, ◌||◌, List, length, take, eqb, arith, refl, sym, ap, ◌∙◌}
use Rattle.std.proofs.lemmas.Bool.{cases_eq, cases_lt, eq-eqb, or_cases, or_left, or_right, eqb-true}
use Rattle.std.proofs.lemmas.List.{take-take, length-take, take_all}
use Rattle.wait_index.specs.Inside.Count.{count_below}
use Rattle.wait_index.specs.Edge.{from_at, to_at, IsEdge}
use Rattle.wait_index.specs.Inside.Links.{IsLink, IsLast}
use Rattle.wait_index.specs.Net.{Net}
use Rattle.wait_index.specs.Inside.Tally.{Tally, HasSizes, is_marked_in, waits_of, MarksNode}
use Rattle.wait_index.proofs.CountBelowFacts.{count_below-le, count_below-at}
use Rattle.wait_index.proofs.LinkFacts.{IsLink-last, count_owned, count_owned-step}

-- the front of a list does not change if more is put at its end
pub front-trans : {X : Type 0} (a b c : List X) → take (length a) b ≡ a → take (length b) c ≡ b → take (length a) c ≡ a
front-trans a b c h k =
    let short : length a ≤ length b = omega (arith, length-take (length a) b, ap length h) in
    sym (take-take (length a) (length b) c short) ∙ ap (take (length a)) k ∙ h

-- the wait edges of the label from the link on have been followed
pub record ReleasesFrom (net : Net) (label link : ℕ) (old now : Tally) : Type 0 where
  pub sizes : HasSizes net now
  pub at : IsLink net.waits label link
  pub front : take (length old.marked) now.marked ≡ old.marked
  pub kept : (n : ℕ) → is_marked_in old n ≡ true → is_marked_in now n ≡ true
  pub all : (i : ℕ) → i < length net.waits → link ≤ i → from_at net.waits i ≡ label → is_marked_in now (to_at net.waits i) ≡ true
  pub only : (n : ℕ) → is_marked_in now n ≡ true → (is_marked_in old n ≡ true) ⊎ ((i : ℕ) × IsEdge net.waits i label n)
  pub size : length now.places ≡ length old.places
  pub support : now.support ≡ old.support
  pub opened : now.opened ≡ old.opened
  pub touched : now.touched ≡ old.touched
  pub touched_places : now.touched_places ≡ old.touched_places
  pub visits : now.visits + count_below (λ i. eqb (from_at net.waits i) label) link ≡ old.visits + waits_of net label

-- Before the first wait edge of the label all of them are left to be followed.
pub ReleasesFrom-start : (net : Net) (label link : ℕ) (t : Tally) → HasSizes net t
    → IsLast net.waits label (length net.waits) link → ReleasesFrom net label link t t
ReleasesFrom-start net label link t s h = record {
  sizes = s;
  at = IsLink-last net.waits label (length net.waits) link (omega arith) h;
  front = take_all (length t.marked) t.marked (omega arith);
  kept = λ n a. a;
  all = λ i a b e. absurd (h.none_later i b a e);
  only = λ n a. inl a;
  size = refl;
  support = refl;
  opened = refl;
  touched = refl;
  touched_places = refl;
  visits = ap (λ n. t.visits + n) (sym (count_owned net.waits label (length net.waits) link h));
}

-- one more is followed: its node is marked
pub ReleasesFrom-step : (net : Net) (label edge link next : ℕ) (old now then new : Tally)
    → ReleasesFrom net label link old now → link ≡ edge + 1 → then ≡ record now { visits = now.visits + 1 }
    → IsLast net.waits label edge next → MarksNode (to_at net.waits edge) then new → ReleasesFrom net label next old new
ReleasesFrom-step net label edge link next old now then new h e is last m =
    let owner : from_at net.waits edge ≡ label = h.at.owned edge e in
    let held : (n : ℕ) → is_marked_in new n ≡ (is_marked_in now n || eqb n (to_at net.waits edge)) =
    λ n. m.held n ∙ ap (λ (t : Tally). is_marked_in t n || eqb n (to_at net.waits edge)) is
    in
    let kept : (n : ℕ) → is_marked_in now n ≡ true → is_marked_in new n ≡ true =
    λ n a. held n ∙ or_left (is_marked_in now n) (eqb n (to_at net.waits edge)) a in
    let here : is_marked_in new (to_at net.waits edge) ≡ true =
    held (to_at net.waits edge) ∙ or_right (is_marked_in now (to_at net.waits edge))
    (eqb (to_at net.waits edge) (to_at net.waits edge)) (eq-eqb (to_at net.waits edge) (to_at net.waits edge) refl)
    in
    let size : length new.places ≡ length now.places = m.size ∙ ap (λ (t : Tally). length t.places) is in
    let support : new.support ≡ now.support = m.support ∙ ap (λ (t : Tally). t.support) is in
    let opened : new.opened ≡ now.opened = m.opened ∙ ap (λ (t : Tally). t.opened) is in
    let touched_places : new.touched_places ≡ now.touched_places = m.touched_places ∙ ap (λ (t : Tally). t.touched_places) is in
    let marked : then.marked ≡ now.marked = ap (λ (t : Tally). t.marked) is in
    let visits : new.visits ≡ now.visits + 1 = m.visits ∙ ap (λ (t : Tally). t.visits) is in
    record {
      sizes = record {
        places = size ∙ h.sizes.places;
        support = ap length support ∙ h.sizes.support;
        opened = ap length opened ∙ h.sizes.opened;
        touched = ap length touched_places ∙ h.sizes.touched;
      };
      at = IsLink-last net.waits label edge next (omega (arith, h.at.within)) last;
      front = front-trans old.marked now.marked new.marked h.front (ap (λ (xs : List ℕ). take (length xs) new.marked) (sym marked) ∙ m.front ∙ marked);
      kept = λ n a. kept n (h.kept n a);
      all = λ i a b o.
          elim (cases_lt edge i) [
            | inl l ↦ kept (to_at net.waits i) (h.all i a (omega (arith, l, e)) o)
            | inr l ↦
                elim (cases_eq i edge) [
                  | inl s ↦ ap (λ k. is_marked_in new (to_at net.waits k)) s ∙ here
                  | inr s ↦ absurd (last.none_later i b (omega arith) o)
                ]
          ];
      only = λ n a.
          elim (or_cases (is_marked_in now n) (eqb n (to_at net.waits edge)) (sym (held n) ∙ a)) [
            | inl b ↦ h.only n b
            | inr b ↦ inr (edge, record { within = omega (arith, h.at.within); from = owner; to = sym (eqb-true n (to_at net.waits edge) b) })
          ];
      size = size ∙ h.size;
      support = support ∙ h.support;
      opened = opened ∙ h.opened;
      touched = m.touched ∙ ap (λ (t : Tally). t.touched) is ∙ h.touched;
      touched_places = touched_places ∙ h.touched_places;
      visits = omega (
        arith,
        visits,
        h.visits,
        ap (count_below (λ i. eqb (from_at net.waits i) label)) e,
        count_owned-step net.waits label edge next owner last,
      );
    }

-- The visits are within the number of wait edges, so one can be added.
pub ReleasesFrom-fits : (net : Net) (label edge link : ℕ) (old now : Tally) → ReleasesFrom net label link old now
    → link ≡ edge + 1 → now.visits + 1 ≤ old.visits + length net.waits
ReleasesFrom-fits net label edge link old now h e =
    omega (
      arith,
      h.visits,
      count_below-le (λ i. eqb (from_at net.waits i) label) (length net.waits),
      count_below-at (λ i. eqb (from_at net.waits i) label) edge link (omega arith)
          (eq-eqb (from_at net.waits edge) label (h.at.owned edge e)),
    )

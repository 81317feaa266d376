use Rattle.std.proofs.Common.{◌≡◌, ℕ, ◌<◌, Bool, true, [], length, take, eqb, refl, sym, ap, ◌∙◌, subst, arith}
use Rattle.std.proofs.lemmas.Bool.{both_ways, eqb-true, eq-eqb}
use Rattle.std.proofs.lemmas.List.{nil_from_length, take_all}
use Rattle.wait_index.specs.declared.label_set.LabelSet.{LabelSet}
use Rattle.wait_index.specs.Edge.{from_at}
use Rattle.wait_index.specs.Inside.Fall.{HasFallen, IsFalling, IsSettled, ListsFallen}
use Rattle.wait_index.specs.Net.{ClosesIn, with_all_closed}
use Rattle.wait_index.specs.Inside.Tally.{Tally, net_of, tally_of, is_marked_in, is_open_in}
use Rattle.wait_index.proofs.CloseFacts.{marked-from_reached, open-from_shown, IsFalling-touched, HasFallen-listed}
use Rattle.wait_index.proofs.CloseFacts.{IsSettled-shut, reached-before, Follows-fallen, visits_after, visits_fall}
use Rattle.wait_index.proofs.CloseFacts.{ClosesIn-shut, ClosesIn-open}
use Rattle.wait_index.proofs.FollowFacts.{Follows-visits, Follows-nodes}
use Rattle.wait_index.proofs.ListingFacts.{holds-from_contains, listed-once}
use Rattle.wait_index.proofs.FallenListFacts.{ListsFallen-none, ReportsFallen-listed}
use Rattle.wait_index.proofs.TouchFacts.{TouchesAll-same, TouchesAll-shut, TouchesAll-untouched}
use Rattle.wait_index.proofs.marks.Marks.close.Goals as goal

-- None is touched.

-- A set of labels whose length is 0 has no label.
none_touched : (touched : LabelSet) (empty : Bool) → empty ≡ eqb touched.items.len 0 → empty ≡ true → touched.items.items ≡ []
none_touched touched empty is e = nil_from_length touched.items.items (omega (arith, touched.items.ok.0, eqb-true touched.items.len 0 (sym is ∙ e)))

pub returns-then-is_empty-clause-settled : goal.returns-then-is_empty-clause-settled
returns-then-is_empty-clause-settled c =
    let s = c.args.self.now in
    let g = c.args.graph.now in
    let touched = c.touch_all.new.self.touched in
    let none = none_touched touched c.is_empty.result c.is_empty.ensures c.if-is_empty.true in
    let shut = TouchesAll-shut c.args.labels.now (tally_of s) (tally_of c.touch_all.new.self) touched.listed none c.touch_all.ensures.touched in
    let same = TouchesAll-same c.args.labels.now (tally_of s) (tally_of c.touch_all.new.self) s.touched.listed
    touched.listed c.requires.settled.untouched none c.touch_all.ensures.touched in
    rw c.close_all.ensures.net (subst (λ t. IsSettled (with_all_closed (net_of g) c.args.labels.now) t) (sym same)
    (IsSettled-shut (net_of g) (tally_of s) c.requires.settled s.touched.listed g.shaped.labels c.args.labels.now
    shut))

pub returns-then-is_empty-clause-work : goal.returns-then-is_empty-clause-work
returns-then-is_empty-clause-work c =
    let s = c.args.self.now in
    let g = c.args.graph.now in
    let touched = c.touch_all.new.self.touched in
    let none = none_touched touched c.is_empty.result c.is_empty.ensures c.if-is_empty.true in
    let shut = TouchesAll-shut c.args.labels.now (tally_of s) (tally_of c.touch_all.new.self) touched.listed none c.touch_all.ensures.touched in
    let visits : c.touch_all.new.self.visits ≡ s.visits = ap (λ (t : Tally). t.visits) c.touch_all.ensures.touched.same in
    subst (λ v. ClosesIn (net_of g) c.args.labels.now s.visits v 0) (sym visits)
    (ClosesIn-shut (net_of g) c.args.labels.now s.visits (λ l a o.
    both_ways (is_open_in (tally_of s) l) (shut l a) (open-from_shown (net_of g) (tally_of s) c.requires.settled s.touched.listed g.shaped.labels l o)))

pub returns-then-is_empty-clause-shut : goal.returns-then-is_empty-clause-shut
returns-then-is_empty-clause-shut c shut =
    let s = c.args.self.now in
    let touched = c.touch_all.new.self.touched in
    let none = none_touched touched c.is_empty.result c.is_empty.ensures c.if-is_empty.true in (
      refl,
      TouchesAll-same c.args.labels.now (tally_of s) (tally_of c.touch_all.new.self) s.touched.listed
          touched.listed c.requires.settled.untouched none c.touch_all.ensures.touched,
    )

-- Some are.

pub take_back-requires : goal.take_back-requires
take_back-requires c =
    let s = c.args.self.now in
    let g = c.args.graph.now in
    let marked = ap (λ (t : Tally). length t.marked) c.touch_all.ensures.touched.same in (
      IsFalling-touched (net_of g) (tally_of s) c.requires.settled s.touched.listed g.shaped.labels c.args.labels.now
          (tally_of c.touch_all.new.self) c.touch_all.ensures.touched c.touch_all.new.self.touched.listed,
      (
        rw c.begin.ensures.fallen
            (ListsFallen-none (net_of g) (tally_of c.touch_all.new.self) (λ n r.
            ap (λ (t : Tally). is_marked_in t n) c.touch_all.ensures.touched.same
            ∙ marked-from_reached (net_of g) (tally_of s) c.requires.settled s.touched.listed g.shaped.labels n r)),
        omega (
          arith,
          ap length c.begin.ensures.fallen,
          c.begin.ensures.room,
          c.requires.last_room,
          marked,
          Follows-nodes (net_of g) (length s.marked.items.items) 0 0 (tally_of s) c.requires.settled.follows,
        ),
      ),
    )

pub follow_again-requires-clause-follows : goal.follow_again-requires-clause-follows
follow_again-requires-clause-follows c =
    let s = c.args.self.now in
    let g = c.args.graph.now in
    let f = HasFallen-listed (net_of g) (tally_of s) c.requires.settled s.touched.listed g.shaped.labels
    c.args.labels.now (tally_of c.touch_all.new.self) (tally_of c.take_back.new.self) c.touch_all.ensures.touched
    c.touch_all.new.self.touched.listed c.take_back.ensures.fallen in
    rw c.close_all-2.ensures.net (Follows-fallen (net_of g) g.shaped.once c.args.labels.now (tally_of c.take_back.new.self) f)

pub overflow_sub-result : goal.overflow_sub-result
overflow_sub-result c =
    let s = c.args.self.now in
    let g = c.args.graph.now in
    let waits : (i : ℕ) → i < length g.waits.edges.items → from_at g.waits.edges.items i < length g.closed.items =
    λ i a. omega (arith, g.waits.linked.owners i a, g.shaped.labels_listed) in
    let f = HasFallen-listed (net_of g) (tally_of s) c.requires.settled s.touched.listed g.shaped.labels
    c.args.labels.now (tally_of c.touch_all.new.self) (tally_of c.take_back.new.self) c.touch_all.ensures.touched
    c.touch_all.new.self.touched.listed c.take_back.ensures.fallen in
    let visits : c.touch_all.new.self.visits ≡ s.visits = ap (λ (t : Tally). t.visits) c.touch_all.ensures.touched.same in
    omega (
      arith,
      visits,
      visits_fall (net_of g) (tally_of s) c.requires.settled s.touched.listed g.shaped.labels waits
          g.shaped.once c.args.labels.now (tally_of c.take_back.new.self) f,
    )

pub overflow_add-result : goal.overflow_add-result
overflow_add-result c =
    let s = c.args.self.now in
    let g = c.args.graph.now in
    let settled : IsSettled (with_all_closed (net_of g) c.args.labels.now) (tally_of c.follow_again.new.self) =
    rw c.close_all-2.ensures.net at c.follow_again.ensures.settled in
    let after = visits_after (net_of g) (tally_of s) c.requires.settled s.touched.listed g.shaped.labels
    c.args.labels.now (tally_of c.follow_again.new.self) settled in
    let visits : c.touch_all.new.self.visits ≡ s.visits = ap (λ (t : Tally). t.visits) c.touch_all.ensures.touched.same in
    omega (arith, visits, after, c.requires.few, Follows-visits (net_of g) (length s.marked.items.items) 0 0 (tally_of s) c.requires.settled.follows)

pub returns-clause-work : goal.returns-clause-work
returns-clause-work c =
    let s = c.args.self.now in
    let g = c.args.graph.now in
    let waits : (i : ℕ) → i < length g.waits.edges.items → from_at g.waits.edges.items i < length g.closed.items =
    λ i a. omega (arith, g.waits.linked.owners i a, g.shaped.labels_listed) in
    let f = HasFallen-listed (net_of g) (tally_of s) c.requires.settled s.touched.listed g.shaped.labels
    c.args.labels.now (tally_of c.touch_all.new.self) (tally_of c.take_back.new.self) c.touch_all.ensures.touched
    c.touch_all.new.self.touched.listed c.take_back.ensures.fallen in
    let visits : c.touch_all.new.self.visits ≡ s.visits = ap (λ (t : Tally). t.visits) c.touch_all.ensures.touched.same in
    rw visits (ClosesIn-open (net_of g) (tally_of s) c.requires.settled s.touched.listed g.shaped.labels waits
    g.shaped.once c.args.labels.now (tally_of c.take_back.new.self) f c.follow_again.new.self.visits
    c.follow_again.ensures.visits)

pub returns-then-is_empty-clause-fewer : goal.returns-then-is_empty-clause-fewer
returns-then-is_empty-clause-fewer c = omega (arith, ap (λ (t : Tally). t.visits) c.touch_all.ensures.touched.same)

pub returns-clause-fewer : goal.returns-clause-fewer
returns-clause-fewer c =
    let s = c.args.self.now in
    let g = c.args.graph.now in
    let settled : IsSettled (with_all_closed (net_of g) c.args.labels.now) (tally_of c.follow_again.new.self) =
    rw c.close_all-2.ensures.net at c.follow_again.ensures.settled in
    visits_after (net_of g) (tally_of s) c.requires.settled s.touched.listed g.shaped.labels c.args.labels.now
    (tally_of c.follow_again.new.self) settled

pub returns-clause-shut : goal.returns-clause-shut
returns-clause-shut c shut =
    let s = c.args.self.now in
    let touched = c.touch_all.new.self.touched in
    let none = TouchesAll-untouched c.args.labels.now (tally_of s) (tally_of c.touch_all.new.self) s.touched.listed
    touched.listed c.requires.settled.untouched shut c.touch_all.ensures.touched in
    absurd (both_ways c.is_empty.result c.if-is_empty.false (c.is_empty.ensures ∙ eq-eqb touched.items.len 0 (omega (arith, touched.items.ok.0, none))))

-- What fell

pub returns-then-is_empty-clause-fallen : goal.returns-then-is_empty-clause-fallen
returns-then-is_empty-clause-fallen c =
    let s = c.args.self.now in
    let g = c.args.graph.now in
    let now = tally_of c.touch_all.new.self in
    let set = c.touch_all.new.self.marked in
    let touched = c.touch_all.new.self.touched in
    let none = none_touched touched c.is_empty.result c.is_empty.ensures c.if-is_empty.true in
    let falling = IsFalling-touched (net_of g) (tally_of s) c.requires.settled s.touched.listed g.shaped.labels
    c.args.labels.now now c.touch_all.ensures.touched touched.listed in
    let all : HasFallen (net_of g) touched.items.items now = subst (λ k. IsFalling (net_of g) touched.items.items now k 0 0) (ap length (sym none)) falling in
    let f = HasFallen-listed (net_of g) (tally_of s) c.requires.settled s.touched.listed g.shaped.labels
    c.args.labels.now now now c.touch_all.ensures.touched touched.listed all in
    let listed : ListsFallen (net_of g) now c.begin.new.self.fallen.items =
    rw c.begin.ensures.fallen
    (ListsFallen-none (net_of g) now (λ n r.
    ap (λ (t : Tally). is_marked_in t n) c.touch_all.ensures.touched.same
    ∙ marked-from_reached (net_of g) (tally_of s) c.requires.settled s.touched.listed g.shaped.labels n r))
    in
    ReportsFallen-listed (net_of g) (tally_of s) c.requires.settled s.touched.listed g.shaped.labels g.shaped.once
    c.args.labels.now now f c.begin.new.self.fallen.items listed c.begin.new.self.kept now.marked
    (take_all c.begin.new.self.kept now.marked
    (omega (
      arith,
      c.begin.ensures.kept,
      c.len.ensures,
      s.marked.items.ok.0,
      ap (λ (t : Tally). length t.marked) c.touch_all.ensures.touched.same,
    )))
    (listed-once set.items.items set.places.items set.listed)
    (λ n a. f.sound n (holds-from_contains set.items.items set.places.items set.listed n a))

pub returns-clause-fallen : goal.returns-clause-fallen
returns-clause-fallen c =
    let s = c.args.self.now in
    let g = c.args.graph.now in
    let now = tally_of c.take_back.new.self in
    let set = c.follow_again.new.self.marked in
    let settled : IsSettled (with_all_closed (net_of g) c.args.labels.now) (tally_of c.follow_again.new.self) =
    rw c.close_all-2.ensures.net at c.follow_again.ensures.settled in
    let kept : c.len-last.result ≡ length now.marked = omega (arith, c.len-last.ensures, c.take_back.new.self.marked.items.ok.0) in
    let f = HasFallen-listed (net_of g) (tally_of s) c.requires.settled s.touched.listed g.shaped.labels
    c.args.labels.now (tally_of c.touch_all.new.self) now c.touch_all.ensures.touched
    c.touch_all.new.self.touched.listed c.take_back.ensures.fallen in
    ReportsFallen-listed (net_of g) (tally_of s) c.requires.settled s.touched.listed g.shaped.labels g.shaped.once
    c.args.labels.now now f c.take_back.new.last.fallen.items c.take_back.ensures.listed c.len-last.result
    set.items.items
    (ap (λ k. take k set.items.items) kept ∙ c.follow_again.ensures.front)
    (listed-once set.items.items set.places.items set.listed)
    (λ n a. reached-before (net_of g) c.args.labels.now n
    (settled.follows.steady.sound n (holds-from_contains set.items.items set.places.items set.listed n a)))

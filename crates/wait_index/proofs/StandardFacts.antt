-- What the definitions say of one small net. Node 0 is its root and offers the labels 0 and 1; node
-- 1 awaits 0 and node 2 awaits 1; both offer 2, which node 3 awaits.
use Rattle.std.proofs.Common.{◌≡◌, ℕ, zero, suc, ◌+◌, ◌⊎◌, inl, inr, Bool, true, false, List, [], ◌∷◌, eqb, arith, refl, sym, ap, ◌∙◌, subst}
use Rattle.std.specs.Prelude.{◌||◌}
use Rattle.std.proofs.lemmas.Bool.{both_ways, or_cases, eqb-true}
use Rattle.wait_index.specs.Edge.{IsEdge}
use Rattle.wait_index.specs.Net.{Net, is_root, is_closed, IsReached, root, step, IsOpen, IsClosedUnder, IsTakenBack}
use Rattle.wait_index.specs.Net.{itself, beyond, AreTakenBack, ClosesIn, HasReachOf, IsFallen, ReportsFallen, has_wait}
use Rattle.wait_index.specs.Net.{visits_of, edges_taken_back, edges_at, with_closed, with_all_closed}
use Rattle.wait_index.proofs.NetLawFacts.{reached-least, contains-cons}
use Rattle.wait_index.proofs.CloseFacts.{taken-near, ClosesIn-one}

-- the net that the heading describes
abbrev pub net : Net
net = record {
  roots = true ∷ false ∷ false ∷ false ∷ [];
  closed = false ∷ false ∷ false ∷ [];
  offers = record { from = 0; to = 0 } ∷ record { from = 0; to = 1 } ∷ record { from = 1; to = 2 } ∷ record { from = 2; to = 2 } ∷ [];
  waits = record { from = 0; to = 1 } ∷ record { from = 1; to = 2 } ∷ record { from = 2; to = 3 } ∷ [];
}

-- the same net with label 0 closed
abbrev pub less : Net
less = with_closed net 0

-- The offer edges of the net, one by one.
offer : (i node label : ℕ) → IsEdge net.offers i node label
    → ((node ≡ 0) × (label ≡ 0)) ⊎ (((node ≡ 0) × (label ≡ 1))
    ⊎ (((node ≡ 1) × (label ≡ 2)) ⊎ ((node ≡ 2) × (label ≡ 2))))
offer zero n l e = inl (sym e.from, sym e.to)
offer (suc zero) n l e = inr (inl (sym e.from, sym e.to))
offer (suc (suc zero)) n l e = inr (inr (inl (sym e.from, sym e.to)))
offer (suc (suc (suc zero))) n l e = inr (inr (inr (sym e.from, sym e.to)))
offer (suc (suc (suc (suc i)))) n l e = absurd (omega (arith, e.within))

-- The wait edges of the net: label n is awaited by node n + 1.
wait : (i label node : ℕ) → IsEdge net.waits i label node → node ≡ label + 1
wait zero l n e = omega (arith, e.from, e.to)
wait (suc zero) l n e = omega (arith, e.from, e.to)
wait (suc (suc zero)) l n e = omega (arith, e.from, e.to)
wait (suc (suc (suc i))) l n e = absurd (omega (arith, e.within))

-- Which nodes are reached

-- Node 1 is reached by label 0.
pub node_1 : IsReached net 1
node_1 = step {label = 0} {i = 0} {j = 0} (root refl) (record { within = omega arith; from = refl; to = refl }) refl
    (record { within = omega arith; from = refl; to = refl })

-- Node 2 is reached while label 0 is closed.
pub node_2 : IsReached less 2
node_2 = step {label = 1} {i = 1} {j = 1} (root refl) (record { within = omega arith; from = refl; to = refl }) refl
    (record { within = omega arith; from = refl; to = refl })

-- Node 3 is reached another way while label 0 is closed.
pub node_3 : IsReached less 3
node_3 = step {label = 2} {i = 3} {j = 2} node_2 (record { within = omega arith; from = refl; to = refl }) refl
    (record { within = omega arith; from = refl; to = refl })

-- every node but 1
abbrev pub others : ℕ → Bool
others n = eqb n 0 || (eqb n 2 || eqb n 3)

-- The set of these nodes is closed under the steps of the net without label 0.
others-closed : IsClosedUnder less (λ n. others n ≡ true)
others-closed = record { roots = roots; steps = steps }
  where
    roots : (node : ℕ) → is_root less node ≡ true → others node ≡ true
    roots zero e = refl
    roots (suc zero) e = absurd (both_ways false refl e)
    roots (suc (suc zero)) e = refl
    roots (suc (suc (suc zero))) e = refl
    roots (suc (suc (suc (suc n)))) e = absurd (both_ways false refl e)

    steps : (node label next i j : ℕ) → others node ≡ true → IsEdge less.offers i node label
        → is_closed less label ≡ false → IsEdge less.waits j label next → others next ≡ true
    steps node label next i j o e c w =
        let next_is = wait j label next w in
        elim (offer i node label e) [
          | inl a ↦ absurd (both_ways true (ap (is_closed less) (sym a.1) ∙ c) refl)
          | inr a ↦
              elim a [
                | inl b ↦ let at : next ≡ 2 = omega (arith, next_is, b.1) in ap others at
                | inr b ↦
                    elim b [
                      | inl d ↦ absurd (both_ways false refl (ap others (sym d.0) ∙ o))
                      | inr d ↦ let at : next ≡ 3 = omega (arith, next_is, d.1) in ap others at
                    ]
              ]
        ]

-- Node 1 is not reached while label 0 is closed.
pub not_node_1 : IsReached less 1 → ⊥
not_node_1 r = both_ways false refl (reached-least less (λ n. others n ≡ true) others-closed 1 r)

-- an open label is offered by a reached node and not closed
pub label_2 : IsOpen less 2
label_2 = record { not_closed = refl; offered = (3, 2, record { within = omega arith; from = refl; to = refl }, node_2) }

-- A closed label is not open.
pub not_label_0 : IsOpen less 0 → ⊥
not_label_0 o = both_ways true o.not_closed refl

-- What is counted: a marked node's offers, though the label be closed, and what awaits a label that
-- is open

-- All four offer edges and all three wait edges are visited.
pub visits_before : visits_of net (0 ∷ 1 ∷ 2 ∷ 3 ∷ []) ≡ 7
visits_before = refl

-- With label 0 closed, three offer edges and two wait edges are visited.
pub visits_after : visits_of less (0 ∷ 2 ∷ 3 ∷ []) ≡ 5
visits_after = refl

-- If nothing is marked nothing is visited.
pub none_marked : visits_of net [] ≡ 0
none_marked = refl

-- Node 3 awaits a label.
pub awaited : has_wait net 3 ≡ true
awaited = refl

-- Node 0 awaits none.
pub not_awaited : has_wait net 0 ≡ false
not_awaited = refl

-- What closing label 0 takes back: the wait edge to node 1, which falls with its offer edge, and
-- the wait edge to node 3, which is then followed again, since node 2 offers label 2 too. So it
-- is the work 3 and 1.

-- the labels that are taken back with label 0: itself and label 2
abbrev pub lost : ℕ → Bool
lost l = eqb l 0 || eqb l 2

-- These labels are a reach of label 0.
lost-reach : HasReachOf net (0 ∷ []) lost
lost-reach = record {
  has = λ l c o. elim (contains-cons 0 [] l c) [ inl a ↦ ap lost a | inr a ↦ absurd (omega (arith, a.1)) ];
  continues = λ here node there i j o w e.
      elim (offer j node there e) [
        | inl a ↦ absurd (omega (arith, wait i here node w, a.0))
        | inr a ↦
            elim a [
              | inl b ↦ absurd (omega (arith, wait i here node w, b.0))
              | inr b ↦ elim b [ inl d ↦ ap lost d.1 | inr d ↦ ap lost d.1 ]
            ]
      ];
}

-- Label 0 is open.
open_0 : IsOpen net 0
open_0 = record { not_closed = refl; offered = (0, 0, record { within = omega arith; from = refl; to = refl }, root refl) }

-- Label 0 is taken back with itself.
taken_0 : IsTakenBack net (0 ∷ []) 0
taken_0 = itself (0, omega arith, refl) open_0

-- Label 2 is taken back if label 0 is.
taken_2 : (closing : List ℕ) → IsTakenBack net closing 0 → IsTakenBack net closing 2
taken_2 closing b = beyond {here = 0} {node = 1} {i = 0} {j =
    2} b (record { within = omega arith; from = refl; to = refl }) refl
    (record { within = omega arith; from = refl; to = refl }) refl

-- Just these labels are taken back with label 0.
pub taken : AreTakenBack net (0 ∷ []) lost
taken = record {
  only = λ l e.
      elim (or_cases (eqb l 0) (eqb l 2) e) [
        | inl a ↦ subst (IsTakenBack net (0 ∷ [])) (sym (eqb-true l 0 a)) taken_0
        | inr a ↦ subst (IsTakenBack net (0 ∷ [])) (sym (eqb-true l 2 a)) (taken_2 (0 ∷ []) taken_0)
      ];
  all = taken-near net (0 ∷ []) lost lost-reach;
}

-- Three edges are taken back.
pub three_taken : edges_taken_back net lost ≡ 3
three_taken = refl

-- Five edges lead to these labels or from them.
pub five_near : edges_at net lost ≡ 5
five_near = refl

-- The close is the work 4.
pub work_of_four : ClosesIn net (0 ∷ []) 7 5 4
work_of_four = record { labels = lost; taken_back = taken; again = 1; visits = refl; work = refl }

-- The close is not the work 2, which would be only the fall of the visits.
pub not_two : ClosesIn net (0 ∷ []) 7 5 2 → ⊥
not_two c = omega (arith, ClosesIn-one net (0 ∷ []) (0 ∷ []) 7 5 4 2 (λ l. (λ a. a, λ a. a)) work_of_four c)

-- Nor is it the work 6, which would be twice what was taken back.
pub not_six : ClosesIn net (0 ∷ []) 7 5 6 → ⊥
not_six c = omega (arith, ClosesIn-one net (0 ∷ []) (0 ∷ []) 7 5 4 6 (λ l. (λ a. a, λ a. a)) work_of_four c)

-- So the nodes 1 and 3 fall, of which 3 is marked again.

-- Node 1 falls.
pub fallen_1 : IsFallen net (0 ∷ []) 1
fallen_1 = record { not_root = refl; awaits = (0, 0, record { within = omega arith; from = refl; to = refl }, taken_0) }

-- Node 3 falls, although it is marked again.
pub fallen_3 : IsFallen net (0 ∷ []) 3
fallen_3 = record { not_root = refl; awaits = (2, 2, record { within = omega arith; from = refl; to = refl }, taken_2 (0 ∷ []) taken_0) }

-- A root does not fall.
pub not_fallen_0 : IsFallen net (0 ∷ []) 0 → ⊥
not_fallen_0 x = both_ways true x.not_root refl

-- A node that awaits a label which is not taken back does not fall.
pub not_fallen_2 : IsFallen net (0 ∷ []) 2 → ⊥
not_fallen_2 x =
    let at : x.awaits.1 ≡ 1 = omega (arith, wait x.awaits.0 x.awaits.1 2 x.awaits.2) in
    both_ways false refl (ap lost (sym at) ∙ taken.all x.awaits.1 x.awaits.3)

-- A list of what fell that leaves out node 3, which is marked again, is refused.
pub not_stated : (kept : ℕ) (marked : List ℕ) → ReportsFallen net (0 ∷ []) (1 ∷ []) kept marked → ⊥
not_stated kept marked h =
    elim (contains-cons 1 [] 3 ((h.fell 3).1 fallen_3)) [
      | inl a ↦ omega (arith, a)
      | inr a ↦ omega (arith, a.1)
    ]

-- To report node 3 as kept is refused.
pub not_kept : (fallen : List ℕ) → ReportsFallen net (0 ∷ []) fallen 3 (0 ∷ 2 ∷ 3 ∷ []) → ⊥
not_kept fallen h = ((h.front 3).0 (2, omega arith, refl)).1 fallen_3

-- What closing the labels 0 and 1 together takes back: the three wait edges, and the offer edges of
-- the nodes 1 and 2. None is followed again, so it is the work 5; one label after the other is 4
-- and 3.

-- the labels that are taken back with both: all three
abbrev pub all_lost : ℕ → Bool
all_lost l = eqb l 0 || (eqb l 1 || eqb l 2)

-- These labels are a reach of both.
all_lost-reach : HasReachOf net (0 ∷ 1 ∷ []) all_lost
all_lost-reach = record {
  has = λ l c o.
      elim (contains-cons 0 (1 ∷ []) l c) [
        | inl a ↦ ap all_lost a
        | inr a ↦ elim (contains-cons 1 [] l a) [ inl b ↦ ap all_lost b | inr b ↦ absurd (omega (arith, b.1)) ]
      ];
  continues = λ here node there i j o w e.
      elim (offer j node there e) [
        | inl a ↦ ap all_lost a.1
        | inr a ↦
            elim a [
              | inl b ↦ ap all_lost b.1
              | inr b ↦ elim b [ inl d ↦ ap all_lost d.1 | inr d ↦ ap all_lost d.1 ]
            ]
      ];
}

-- Label 1 is open.
open_1 : IsOpen net 1
open_1 = record { not_closed = refl; offered = (1, 0, record { within = omega arith; from = refl; to = refl }, root refl) }

-- Label 0 is taken back with itself, and `both_1` says the same for label 1.
both_0 : IsTakenBack net (0 ∷ 1 ∷ []) 0
both_0 = itself (0, omega arith, refl) open_0

-- Label 1 is taken back with itself.
both_1 : IsTakenBack net (0 ∷ 1 ∷ []) 1
both_1 = itself (1, omega arith, refl) open_1

-- All labels are taken back with both.
pub both_taken : AreTakenBack net (0 ∷ 1 ∷ []) all_lost
both_taken = record {
  only = λ l e.
      elim (or_cases (eqb l 0) (eqb l 1 || eqb l 2) e) [
        | inl a ↦ subst (IsTakenBack net (0 ∷ 1 ∷ [])) (sym (eqb-true l 0 a)) both_0
        | inr a ↦
            elim (or_cases (eqb l 1) (eqb l 2) a) [
              | inl b ↦ subst (IsTakenBack net (0 ∷ 1 ∷ [])) (sym (eqb-true l 1 b)) both_1
              | inr b ↦ subst (IsTakenBack net (0 ∷ 1 ∷ [])) (sym (eqb-true l 2 b)) (taken_2 (0 ∷ 1 ∷ []) both_0)
            ]
      ];
  all = taken-near net (0 ∷ 1 ∷ []) all_lost all_lost-reach;
}

-- After that the two offer edges of the root are visited, and nothing else.
pub visits_after_both : visits_of (with_all_closed net (0 ∷ 1 ∷ [])) (0 ∷ []) ≡ 2
visits_after_both = refl

-- The close of both is the work 5.
pub work_of_five : ClosesIn net (0 ∷ 1 ∷ []) 7 2 5
work_of_five = record { labels = all_lost; taken_back = both_taken; again = 0; visits = refl; work = refl }

-- It is less work than two closes, one after the other.
pub not_seven : ClosesIn net (0 ∷ 1 ∷ []) 7 2 7 → ⊥
not_seven c = omega (arith, ClosesIn-one net (0 ∷ 1 ∷ []) (0 ∷ 1 ∷ []) 7 2 5 7 (λ l. (λ a. a, λ a. a)) work_of_five c)

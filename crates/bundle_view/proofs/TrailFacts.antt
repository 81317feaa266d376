-- The search from step to step, and the way back
use Rattle.std.proofs.Common.{◌≡◌, ℕ, zero, suc, ◌+◌, ◌<◌, ◌≤◌, inl, inr, Bool, List, [], ◌∷◌, ◌++◌, length, Option, Some, None, arith, sym, ap, ◌∙◌, subst}
use Rattle.std.specs.Prelude.{slice_get}
use Rattle.std.proofs.lemmas.Bool.{cases_eq}
use Rattle.std.proofs.lemmas.List.Sums.{count_by-le-length}
use Rattle.std.proofs.lemmas.List.Elements.{Contains-append_left, Contains-append_right, Contains-push_cases}
use Rattle.std.proofs.lemmas.Option.{same_Some, slice_get_within}
use Rattle.fed_config.specs.declared.seed.Seed.{Seed}
use Rattle.receipt_core.specs.declared.triple.Triple.{Triple}
use Rattle.receipt_core.specs.Receipt.{Receipt, Pair, pair_of, offers_of}
use Rattle.receipt_core.specs.Acceptance.{pair_of_seed}
use Rattle.bundle_view.specs.Inside.Search.{Stride, IsStride, AreStrides, AreFollowed, AreVisited, IsAddedStep, AppendsSteps}
use Rattle.bundle_view.specs.Inside.Search.{FollowsOffers, IsSearchBegun, IsSearched, IsBackFrom, IsShorter, AreLinkedSteps}
use Rattle.closure_core.proofs.ContainsFacts.{contains_first, contains_none}
use Rattle.bundle_view.proofs.SearchFacts.{more-AreFollowed, wider, old_at}

-- ---- what holds still holds with more

-- a step is still one with more steps
kept_stride : (seeds : List Seed) (old new : List Stride) (s : Stride) (before : Option ℕ)
    → ((i : ℕ) (t : Stride) → slice_get old i ≡ Some t → slice_get new i ≡ Some t) → IsStride seeds old s before
    → IsStride seeds new s before
kept_stride seeds old new s None kept h = h
kept_stride seeds old new s (Some place) kept h = record { previous = h.previous; at = kept place h.previous h.at; offers = h.offers; next = h.next }

-- a step is still one with one more configured document
more_seeds : (seeds : List Seed) (x : Seed) (strides : List Stride) (s : Stride) (before : Option ℕ)
    → IsStride seeds strides s before → IsStride (seeds ++ x ∷ []) strides s before
more_seeds seeds x strides s None h =
    record {
      seed = h.seed;
      configured = Contains-append_left seeds (x ∷ []) h.seed h.configured;
      offers = h.offers;
      first = h.first;
    }
more_seeds seeds x strides s (Some place) h = h

-- all steps are still steps with those that were added, if each of these is one
more_strides : (seeds : List Seed) (waiting : List Receipt) (offers : List Triple) (before : Option ℕ) (most : ℕ)
    (old new : List Stride) → AreStrides seeds waiting old → AppendsSteps waiting offers before most old new
    → ((s : Stride) → IsAddedStep waiting offers before most s → IsStride seeds new s before) → AreStrides seeds waiting new
more_strides seeds waiting offers before most old new are adds led = record {
  waits = λ i s at. elim (adds.each i s at) [ inl there ↦ are.waits i s there | inr is ↦ is.waits ];
  placed = λ i s at. elim (adds.each i s at) [
    | inl there ↦ kept_stride seeds old new s s.before adds.kept (are.placed i s there)
    | inr is ↦ subst (IsStride seeds new s) (sym is.led) (led s is)
  ];
}

-- ---- from the configured documents

-- before the first configured document nothing was followed
pub begun_none : (waiting : List Receipt) (visited : List Bool) (strides : List Stride) → strides ≡ []
    → AreVisited waiting visited strides 1 → IsSearchBegun [] waiting visited strides
begun_none waiting visited strides e v = record {
  visits = v;
  stand = record { waits = λ i s at. absurd (none i s at); placed = λ i s at. absurd (none i s at) };
  started = λ s has. absurd (contains_none s has);
}
  where
    none : (i : ℕ) (s : Stride) → slice_get strides i ≡ Some s → ⊥
    none i s at = let l = slice_get_within strides i s at in omega (arith, l, ap length e)

-- the offers of one more configured document were followed: the step of the loop in `follow_seeds`
pub begun_more : (seeds : List Seed) (x : Seed) (waiting : List Receipt) (flags visited : List Bool)
    (old new : List Stride) → IsSearchBegun seeds waiting flags old
    → FollowsOffers waiting (offers_of (pair_of_seed x)) None 1 old visited new
    → IsSearchBegun (seeds ++ x ∷ []) waiting visited new
begun_more seeds x waiting flags visited old new b f = record {
  visits = f.visits;
  stand = more_strides (seeds ++ x ∷ []) waiting (offers_of (pair_of_seed x)) None 1 old new
      record { waits = b.stand.waits; placed = λ i s at. more_seeds seeds x old s s.before (b.stand.placed i s at) }
      f.adds
      (λ s is. record { seed = x; configured = Contains-append_right seeds (x ∷ []) x (contains_first x []); offers = is.offered; first = is.long });
  started = λ s has. elim (Contains-push_cases seeds x s has) [
    | inl earlier ↦ more-AreFollowed waiting old new (offers_of (pair_of_seed s)) 1 f.adds.kept (b.started s earlier)
    | inr e ↦ subst (λ (y : Seed). AreFollowed waiting new (offers_of (pair_of_seed y)) 1) e f.reached
  ];
}

-- ---- from the steps

-- The search has reached the place.
pub record IsAt (seeds : List Seed) (waiting : List Receipt) (p : Pair) (visited : List Bool) (strides : List Stride) (place : ℕ) : Type 0 where
  pub searched : IsSearched seeds waiting strides p place
  pub visits : (s : Stride) → slice_get strides place ≡ Some s → AreVisited waiting visited strides (s.length + 1)
  pub within : place ≤ length strides
  pub few : length strides ≤ length waiting

-- there are not more steps than receipts, since each raises a flag
few_strides : (waiting : List Receipt) (visited : List Bool) (strides : List Stride) (most : ℕ)
    → AreVisited waiting visited strides most → length strides ≤ length waiting
few_strides waiting visited strides most v = omega (arith, v.marks.count, v.marks.size, count_by-le-length (λ flag. flag) visited)

-- after the configured documents the search is at the first place
pub at_start : (seeds : List Seed) (waiting : List Receipt) (p : Pair) (visited : List Bool) (strides : List Stride)
    → IsSearchBegun seeds waiting visited strides → IsAt seeds waiting p visited strides 0
at_start seeds waiting p visited strides b = record {
  searched = record {
    stand = b.stand;
    rising = b.visits.marks.rising;
    started = b.started;
    followed = λ i s l at. absurd (omega (arith, l));
    passed = λ i s l at e. omega (arith, l);
  };
  visits = λ s at. wider waiting visited strides 1 (s.length + 1) (omega arith) b.visits;
  within = omega arith;
  few = few_strides waiting visited strides 1 b.visits;
}

-- the offers of the step at the place were followed, and the search is at the next one: the step of
-- the loop in `follow_all`
pub at_next : (seeds : List Seed) (waiting : List Receipt) (p : Pair) (flags visited : List Bool)
    (old new : List Stride) (place : ℕ) (s : Stride) → IsAt seeds waiting p flags old place
    → slice_get old place ≡ Some s → (pair_of s.receipt ≡ p → ⊥)
    → FollowsOffers waiting (offers_of (pair_of s.receipt)) (Some place) (s.length + 1) old visited new → IsAt seeds waiting p visited new (place + 1)
at_next seeds waiting p flags visited old new place s a at other f =
    let here : slice_get new place ≡ Some s = f.adds.kept place s at in
    record {
      searched = record {
        stand = more_strides seeds waiting (offers_of (pair_of s.receipt)) (Some place) (s.length + 1) old new
            a.searched.stand f.adds (λ t is. record { previous = s; at = here; offers = is.offered; next = is.long });
        rising = f.visits.marks.rising;
        started = λ x has. more-AreFollowed waiting old new (offers_of (pair_of_seed x)) 1 f.adds.kept (a.searched.started x has);
        followed = λ i t l there. elim (cases_eq i place) [
          | inl e ↦ subst (λ (x : Stride). AreFollowed waiting new (offers_of (pair_of x.receipt)) (x.length + 1))
              (same_Some s t (sym here ∙ ap (slice_get new) (sym e) ∙ there)) f.reached
          | inr d ↦
              let before : i < place = omega (arith, l, d) in
              more-AreFollowed waiting old new (offers_of (pair_of t.receipt)) (t.length + 1) f.adds.kept
              (a.searched.followed i t before (earlier i t before there))
        ];
        passed = λ i t l there e. elim (cases_eq i place) [
          | inl same ↦ other (ap (λ (x : Stride). pair_of x.receipt) (same_Some s t (sym here ∙ ap (slice_get new) (sym same) ∙ there)) ∙ e)
          | inr d ↦ let before : i < place = omega (arith, l, d) in a.searched.passed i t before (earlier i t before there) e
        ];
      };
      visits = λ t there. let rise = f.visits.marks.rising place (place + 1) s t (omega arith) here there in
          wider waiting visited new (s.length + 1) (t.length + 1) (omega (arith, rise)) f.visits;
      within = omega (arith, slice_get_within old place s at, f.adds.longer);
      few = few_strides waiting visited new (s.length + 1) f.visits;
    }
  where
    earlier : (i : ℕ) (t : Stride) → i < place → slice_get new i ≡ Some t → slice_get old i ≡ Some t
    earlier i t l there = old_at waiting (offers_of (pair_of s.receipt)) (Some place) (s.length + 1) old new f.adds i t
        (omega (arith, l, slice_get_within old place s at)) there

-- past the last step all were searched
pub at_last : (seeds : List Seed) (waiting : List Receipt) (p : Pair) (visited : List Bool) (strides : List Stride)
    (place : ℕ) → IsAt seeds waiting p visited strides place → length strides ≤ place
    → IsSearched seeds waiting strides p (length strides)
at_last seeds waiting p visited strides place a l =
    subst (IsSearched seeds waiting strides p) (let e : place ≡ length strides = omega (arith, l, a.within) in
    e) a.searched

-- ---- back

-- the place, if there is one, is that of a step
abbrev pub IsWithin : List Stride → Option ℕ → Type 0
IsWithin strides None = Unit {0}
IsWithin strides (Some place) = place < length strides

-- how many receipts the chain to the step at a place has, or 0 if there is no step
abbrev pub length_from : List Stride → ℕ → ℕ
length_from [] place = 0
length_from (s ∷ strides) zero = s.length
length_from (s ∷ strides) (suc place) = length_from strides place

-- how many receipts there may still be on the way back
abbrev pub left_from : List Stride → Option ℕ → ℕ
left_from strides None = 0
left_from strides (Some place) = length_from strides place + 1

-- the same for a step that is there
length_at : (strides : List Stride) (place : ℕ) (s : Stride) → slice_get strides place ≡ Some s → length_from strides place ≡ s.length
length_at [] place s at = absurd (let l = slice_get_within [] place s at in omega (arith, l))
length_at (t ∷ strides) zero s at = ap (λ (x : Stride). x.length) (same_Some t s at)
length_at (t ∷ strides) (suc place) s at = length_at strides place s at

-- each step has a chain that is longer by one than that of the step before it
pub linked : (seeds : List Seed) (waiting : List Receipt) (strides : List Stride) → AreStrides seeds waiting strides → AreLinkedSteps strides
linked seeds waiting strides are place s at = by_before s.before (are.placed place s at)
  where
    by_before : (before : Option ℕ) → IsStride seeds strides s before → IsShorter strides s before
    by_before None h = tt
    by_before (Some i) h = (h.previous, h.at, h.next)

-- the step before is one of the steps
pub before_within : (strides : List Stride) (s : Stride) (before : Option ℕ) → IsShorter strides s before → IsWithin strides before
before_within strides s None h = tt
before_within strides s (Some place) h = slice_get_within strides place h.0 h.1

-- not more receipts are left at the step before than the step's chain has
fewer_left : (strides : List Stride) (s : Stride) (before : Option ℕ) → IsShorter strides s before → left_from strides before ≤ s.length
fewer_left strides s None h = omega arith
fewer_left strides s (Some place) h = omega (arith, h.2, length_at strides place h.0 h.1)

-- fewer receipts are left with each step back, so the loop in `chain_to` ends
pub falls_back : (strides : List Stride) (place : ℕ) (s : Stride) → AreLinkedSteps strides
    → slice_get strides place ≡ Some s → left_from strides s.before < left_from strides (Some place)
falls_back strides place s are at = omega (arith, fewer_left strides s s.before (are place s at), length_at strides place s at)

-- a step's receipt goes in front of those that lead back from the step before
pub back_more : (strides : List Stride) (at : Option ℕ) (place : ℕ) (s : Stride) (r : Receipt) (rest : List Receipt)
    → at ≡ Some place → slice_get strides place ≡ Some s → s.receipt ≡ r → IsBackFrom strides s.before rest
    → IsBackFrom strides at (r ∷ rest)
back_more strides at place s r rest e here is back = subst (λ x. IsBackFrom strides x (r ∷ rest)) (sym e) (s, here, is, back)

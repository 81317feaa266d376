-- The buckets that are marked, one by one.
use Rattle.std.proofs.Common.{◌≡◌, ◌∙◌, ℕ, ◌+◌, ◌<◌, ◌≤◌, Bool, true, false, List, [], ◌∷◌, ◌++◌, length, drop, get_or}
use Rattle.std.proofs.Common.{refl, sym, ap, arith, add-one, append_assoc, append-nil, drop-cons}
use Rattle.std.proofs.lemmas.List.{drop_all}
use Rattle.bucket_sums.specs.Sessions.{at_least_one, buckets_asked, marked_from}

-- What is left of the marks, and the first of it.
left_marks : (marks : List Bool) (place : ℕ) → place < length marks → drop place marks ≡ get_or marks place true ∷ drop (place + 1) marks
left_marks marks place within = rw (add-one) (drop-cons marks place true within)

-- A bucket that is marked is the next one.
pub one_marked : (marks : List Bool) (bucket : ℕ) (old new all : List ℕ) → bucket + 1 < length marks → get_or marks (bucket + 1) true ≡ true
    → new ≡ old ++ bucket ∷ [] → old ++ marked_from bucket (drop (bucket + 1) marks) ≡ all
    → new ++ marked_from (bucket + 1) (drop ((bucket + 1) + 1) marks) ≡ all
one_marked marks bucket old new all within is n so_far =
    ap (λ (l : List ℕ). l ++ marked_from (bucket + 1) (drop ((bucket + 1) + 1) marks)) n
    ∙ append_assoc old (bucket ∷ []) (marked_from (bucket + 1) (drop ((bucket + 1) + 1) marks))
    ∙ ap (λ (m : Bool). old ++ marked_from bucket (m ∷ drop ((bucket + 1) + 1) marks)) (sym is)
    ∙ ap (λ (ms : List Bool). old ++ marked_from bucket ms) (sym (left_marks marks (bucket + 1) within))
    ∙ so_far

-- One that is not marked is left out.
pub none_marked : (marks : List Bool) (bucket : ℕ) (old all : List ℕ) → bucket + 1 < length marks → get_or marks (bucket + 1) true ≡ false
    → old ++ marked_from bucket (drop (bucket + 1) marks) ≡ all → old ++ marked_from (bucket + 1) (drop ((bucket + 1) + 1) marks) ≡ all
none_marked marks bucket old all within is so_far =
    ap (λ (m : Bool). old ++ marked_from bucket (m ∷ drop ((bucket + 1) + 1) marks)) (sym is)
    ∙ ap (λ (ms : List Bool). old ++ marked_from bucket ms) (sym (left_marks marks (bucket + 1) within))
    ∙ so_far

-- After the last bucket there are all.
pub all_marked : (marks : List Bool) (bucket : ℕ) (buckets all : List ℕ) → length marks ≤ bucket + 1
    → buckets ++ marked_from bucket (drop (bucket + 1) marks) ≡ all → buckets ≡ all
all_marked marks bucket buckets all over so_far =
    sym (append-nil buckets) ∙ ap (λ (ms : List Bool). buckets ++ marked_from bucket ms) (sym (drop_all (bucket + 1) marks over)) ∙ so_far

-- At least one bucket, if the records are marked.
pub at_least : (marks : List Bool) (buckets : List ℕ) → 0 < length marks → buckets ≡ marked_from 0 (drop 1 marks)
    → at_least_one (get_or marks 0 true) buckets ≡ buckets_asked marks
at_least [] buckets some is = absurd (omega (arith, some))
at_least (m ∷ marks) buckets some is = ap (at_least_one m) is

pub asked_none : (records : Bool) → records ≡ true → at_least_one records [] ≡ 0 ∷ []
asked_none true is = refl
asked_none false is = absurd (cc)

-- Buckets that are asked about as they are.
pub asked_as_marked : (records : Bool) (buckets : List ℕ) → ((buckets ≡ []) → records ≡ true → ⊥) → at_least_one records buckets ≡ buckets
asked_as_marked false buckets some = refl
asked_as_marked true [] some = absurd (some refl refl)
asked_as_marked true (b ∷ buckets) some = refl

-- A session that begins with sums, as what is held: haves are asked about the parts that differ.
use Rattle.std.specs.Prelude.{ℕ, ◌+◌, Bool, true, false, List, [], ◌∷◌}
use Rattle.receipt_core.specs.Acceptance.{Meaning}
use Rattle.replica_core.specs.State.{State, joined, meaning_of_state}
use Rattle.replica_core.specs.Session.{give_of, have_of}

-- the buckets that are marked, if the first mark is that of this one
abbrev pub marked_from : ℕ → List Bool → List ℕ
marked_from first [] = []
marked_from first (true ∷ marks) = first ∷ marked_from (first + 1) marks
marked_from first (false ∷ marks) = marked_from (first + 1) marks

-- one bucket at least, if the records are marked: each answer has all records
abbrev pub at_least_one : Bool → List ℕ → List ℕ
at_least_one false buckets = buckets
at_least_one true [] = 0 ∷ []
at_least_one true (bucket ∷ buckets) = bucket ∷ buckets

-- the buckets that are asked about, of the marks of all parts
abbrev pub buckets_asked : List Bool → List ℕ
buckets_asked [] = []
buckets_asked (records ∷ buckets) = at_least_one records (marked_from 0 buckets)

-- what a replica that holds this holds after it took the other's answer about the bucket
abbrev pub after_answer : Meaning → State → ℕ → State
after_answer other state bucket = joined state
    (give_of other (have_of (meaning_of_state other.config state) bucket)).content

-- what it holds after the answers about these buckets
abbrev pub after_answers : Meaning → State → List ℕ → State
after_answers other state [] = state
after_answers other state (bucket ∷ buckets) = after_answers other
    (after_answer other state bucket) buckets

-- What a session over sums brings.
use Rattle.std.proofs.Common.{◌≡◌, ◌∙◌, ℕ, zero, suc, ◌+◌, ◌<◌, ◌≤◌, inl, inr, Bool, true, false, List, [], ◌∷◌, ◌++◌, length, drop, get_or}
use Rattle.std.proofs.Common.{sym, ap, subst, arith, add-one, append-nil, drop-cons}
use Rattle.std.specs.Prelude.{Option, Some, None, Contains}
use Rattle.std.specs.List.{AllByRecursion}
use Rattle.std.proofs.lemmas.List.{drop_all}
use Rattle.fed_config.specs.Configuration.{Configuration, config_id_of}
use Rattle.receipt_core.specs.Receipt.{Receipt, receipt_id_of}
use Rattle.receipt_core.specs.Acceptance.{IsMeaning, Meaning}
use Rattle.replica_core.specs.Session.{GiveMessage, give_of, state_of}
use Rattle.replica_core.specs.State.{State, joined}
use Rattle.replica_core.specs.declared.error.SyncError.{SyncError}
use Rattle.replica_sync.specs.Plans.{answered_of, bucket_at}
use Rattle.replica_sync.specs.PulledPieces.{AreAlone, PulledPiece, bytes_pulled, haves_planned}
use Rattle.replica_sync.specs.Pulling.{after_gives, have_in}
use Rattle.replica_sync.specs.PullSessions.{HasPulledAbout, HasPulledAll, IsOverPulling, PullsPieces, due_have, fault_of_pulling, kept_answer}
use Rattle.replica_sync.specs.Serving.{ServesAll}
use Rattle.replica_sync.specs.SessionRun.{known_run}
use Rattle.replica_sync.specs.declared.answer_lines.AnswerLines.{AnswerLines}
use Rattle.replica_sync.specs.declared.piece_pulling.Pulling.{Pulling}
use Rattle.replica_sync.proofs.PlanLawFacts.{AreBelow, plan_answered, plan_done}
use Rattle.replica_sync.proofs.UnderstandingFacts.{all-gives}
use Rattle.bucket_sums.specs.Sessions.{after_answer, after_answers, at_least_one, buckets_asked, marked_from}
use Rattle.bucket_sums.specs.Sums.{HasDistinctSums, marks_between}
use Rattle.bucket_sums.proofs.LawFacts.{length-marks}
use Rattle.bucket_sums.proofs.SessionFacts.{both-held}

-- ---- buckets

-- What is left of a list from a place on.
pub left_items : (xs : List ℕ) (place : ℕ) → place < length xs → drop place xs ≡ get_or xs place 0 ∷ drop (place + 1) xs
left_items xs place within = rw (add-one) (drop-cons xs place 0 within)

-- An item of a list has what all have.
pub item_has : (P : ℕ → Type 0) (xs : List ℕ) (place : ℕ) → AllByRecursion P xs → place < length xs → P (get_or xs place 0)
item_has P [] place all within = absurd (omega (arith, within))
item_has P (x ∷ xs) zero all within = all.0
item_has P (x ∷ xs) (suc place) all within = item_has P xs place all.1 (omega (arith, within))

-- Marked buckets are below the number of buckets.
marked_below : (marks : List Bool) (first most : ℕ) → first + length marks ≤ most → AllByRecursion (λ b. b < most) (marked_from first marks)
marked_below [] first most few = tt
marked_below (true ∷ marks) first most few = (omega (arith, few), marked_below marks (first + 1) most (omega (arith, few)))
marked_below (false ∷ marks) first most few = marked_below marks (first + 1) most (omega (arith, few))

one_below : (records : Bool) (buckets : List ℕ) → AllByRecursion (λ b. b < 256) buckets → AllByRecursion (λ b. b < 256) (at_least_one records buckets)
one_below false buckets all = all
one_below true [] all = (omega arith, tt)
one_below true (b ∷ buckets) all = all

pub asked_below : (marks : List Bool) → length marks ≡ 257 → AllByRecursion (λ b. b < 256) (buckets_asked marks)
asked_below [] all = tt
asked_below (records ∷ marks) all = one_below records (marked_from 0 marks) (marked_below marks 0 256 (omega (arith, all)))

-- There are no more of them than there are buckets.
marked_few : (marks : List Bool) (first : ℕ) → length (marked_from first marks) ≤ length marks
marked_few [] first = omega arith
marked_few (true ∷ marks) first = let rest = marked_few marks (first + 1) in omega (arith, rest)
marked_few (false ∷ marks) first = let rest = marked_few marks (first + 1) in omega (arith, rest)

one_few : (records : Bool) (buckets : List ℕ) → length buckets ≤ 256 → length (at_least_one records buckets) ≤ 256
one_few false buckets few = few
one_few true [] few = omega arith
one_few true (b ∷ buckets) few = few

pub asked_few : (marks : List Bool) → length marks ≡ 257 → length (buckets_asked marks) ≤ 256
asked_few [] all = omega arith
asked_few (records ∷ marks) all =
    one_few records (marked_from 0 marks) (let few = marked_few marks 0 in let size : length marks ≡ 256 = omega (arith, all) in omega (arith, few, size))

-- ---- what is held after the answers

-- After the other's answers about listed buckets this is held.
after_is : (c : Configuration) (k : Meaning) (bs : List ℕ) (place : ℕ) (state : State) (gives : List GiveMessage)
    → gives ≡ all-gives k (haves_planned (Some bs) c place state gives) → place + length gives ≡ length bs
    → after_gives state gives ≡ after_answers k state (drop place bs)
after_is c k bs place state [] e few = sym (ap (after_answers k state) (drop_all place bs (omega (arith, few))))
after_is c k bs place state (r ∷ gives) e few =
    let b = bucket_at (Some bs) place in
    let head : r ≡ give_of k (have_in c state b) = cc in
    let tail : gives ≡ all-gives k (haves_planned (Some bs) c (place + 1) (joined state r.content) gives) = cc in
    let one : joined state r.content ≡ after_answer k state b = ap (λ (g : GiveMessage). joined state g.content) head in
    after_is c k bs (place + 1) (joined state r.content) gives tail (omega (arith, few))
    ∙ ap (λ (s : State). after_answers k s (drop (place + 1) bs)) one
    ∙ ap (after_answers k state) (sym (left_items bs place (omega (arith, few))))

-- A session without an error that is over has all answers.
pub came_all : (plan : Option (List ℕ)) (f : Option SyncError) (answered : ℕ) (lines : AnswerLines) (m : Meaning) (came : List PulledPiece)
    (rest written due : List ℕ) → f ≡ None → lines.bucket ≡ 256 → due ≡ [] → PullsPieces plan f answered lines m came rest (written ++ due)
    → HasPulledAll plan lines m came written
came_all plan None answered lines m came rest written due sound over idle (inl on) = absurd (let below = on.below in omega (arith, below, over))
came_all plan None answered lines m came rest written due sound over idle (inr all) =
    subst (HasPulledAll plan lines m came) (ap (λ (l : List ℕ). written ++ l) idle ∙ append-nil written) all
came_all plan (Some e) answered lines m came rest written due sound over idle pulls = absurd (cc)

-- After whole answers about the buckets that are marked, what is held is what both held together.
pub listed_joins : (p : Pulling) (m k held : Meaning) (came : List PulledPiece) (written replied rest : List ℕ) (count : ℕ)
    → IsMeaning m → IsMeaning k → IsMeaning held → config_id_of m.config ≡ config_id_of k.config
    → HasDistinctSums (state_of m) (state_of k)
    → ((r s : Receipt) → Contains (joined (state_of m) (state_of k)).held r → Contains (joined (state_of m) (state_of k)).held s
    → receipt_id_of r ≡ receipt_id_of s → r ≡ s)
    → HasPulledAbout (Some (buckets_asked (marks_between (state_of m) (state_of k)))) p m came written → AreAlone m came held
    → fault_of_pulling p ≡ None → IsOverPulling p → due_have p ≡ [] → ServesAll (known_run written replied) k count
    → bytes_pulled came ++ rest ≡ replied → state_of held ≡ joined (state_of m) (state_of k)
listed_joins p m k held came written replied rest count valid other kept same sums ids h alone sound over idle all begins =
    let marks = marks_between (state_of m) (state_of k) in
    let buckets = buckets_asked marks in
    let whole = came_all (Some buckets) (fault_of_pulling p) (answered_of p.plan) p.lines m came (kept_answer p) written (due_have p) sound over idle
    h.pulls in
    let done = plan_done (Some buckets) p.lines m held came written whole alone in
    let below : AreBelow (Some buckets) = λ place within.
    item_has (λ b. b < 256) buckets place (asked_below marks (length-marks (state_of m) (state_of k))) within in
    let answered = plan_answered (Some buckets) m k held came written replied rest count below valid other kept same done all begins in
    let all_came = done.many in
    let many : 0 + length done.gives ≡ length buckets = omega (arith, all_came) in
    ap state_of done.meaning ∙ after_is m.config k buckets 0 (state_of m) done.gives answered many
    ∙ both-held m k valid other sums ids

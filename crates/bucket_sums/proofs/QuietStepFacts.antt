-- A connection that is served: one call, by what came before it.
use Rattle.std.proofs.Common.{◌≡◌, ◌∙◌, ◌≢◌, ℕ, ◌+◌, ◌<◌, ◌≤◌, ◌⊎◌, inl, inr, Bool, true, not, get_or, List, [], ◌∷◌, ◌++◌, length, take, drop}
use Rattle.std.proofs.Common.{refl, sym, ap, subst, arith, drop-drop, length-append, length-drop}
use Rattle.std.specs.Prelude.{Option, Some, None, Result, Ok, Err, IfOk, IsErrAnd, MatchOption, MatchResult}
use Rattle.std.specs.List.{AllByRecursion}
use Rattle.std.proofs.lemmas.List.{drop_all}
use Rattle.std.proofs.lemmas.List.Elements.{All-from_recursion, recursion_from_All}
use Rattle.fed_config.specs.Configuration.{Configuration}
use Rattle.receipt_core.specs.Acceptance.{Meaning}
use Rattle.byte_lines.specs.Lines.{HasNoFeed}
use Rattle.replica_core.specs.Session.{state_of}
use Rattle.replica_core.specs.declared.error.SyncError.{SyncError}
use Rattle.replica_core.specs.declared.error.SyncError.TheVariants.{NoMemory}
use Rattle.replica_texts.specs.Snapshots.{ended}
use Rattle.replica_texts.specs.SoleLines.{written_header}
use Rattle.replica_sync.specs.Pieces.{EndsLine, Continues, kept_part, piece_run}
use Rattle.replica_sync.specs.ServedPieces.{Came, HasServedPieces, came_taken, due_give, fault_of_serving, records_answered}
use Rattle.replica_sync.specs.AnsweredFrom.{answered_from}
use Rattle.replica_sync.specs.declared.answer_records.AnswerRecords.TheVariants.{All}
use Rattle.replica_sync.specs.declared.line_part.LinePart.{LinePart}
use Rattle.replica_sync.proofs.ServedPieceFacts.{kept_plain}
use Rattle.replica_sync.specs.declared.piece_serving.Serving.{Serving}
use Rattle.bucket_sums.specs.Lines.{marks_line, part_count}
use Rattle.bucket_sums.specs.Questions.{IsPlain, longest_line, sums_answer}
use Rattle.bucket_sums.specs.RecordsOnce.{has_feed, left_out_if, records_due, shown_at}
use Rattle.bucket_sums.specs.Quiet.{IsAsking, IsOpening, ServesFrom, StopsOpening, fault_in, first_due}
use Rattle.bucket_sums.specs.Serving.{HasTakenQuestion, TakesToLine, fault_of_question, marks_made, own_sums_of}
use Rattle.bucket_sums.specs.Sums.{sums_of}
use Rattle.bucket_sums.specs.Inside.OpeningSteps.{RefusesOpeningLine}
use Rattle.bucket_sums.specs.declared.quiet_serving.Opening.{Opening}
use Rattle.bucket_sums.specs.declared.quiet_serving.Opening.TheVariants.{FirstLine, Plain, Answered}
use Rattle.bucket_sums.specs.declared.sums_serving.SumsServing.{SumsServing}
use Rattle.bucket_sums.proofs.OnceFacts.{due_after, whole_shown}
use Rattle.bucket_sums.proofs.QuietFacts.{answers_on, asks_end, asks_on}
use Rattle.bucket_sums.proofs.QuietFacts.{fault_is, opened_haves, opening_fails, opening_have_fails, opens_on, opens_otherwise}
use Rattle.bucket_sums.proofs.QuietFacts.{opens_question, quiet_wrote_haves, quiet_wrote_marks, serves_on}

-- What follows from a session without an error, if what it opens with and the configuration are these.
pub step_from : (o old : Opening) (k config : Configuration) (haves : Serving) (due : List ℕ) (came : List Came) (written : List ℕ)
    (Q : Configuration → Type 0) → o ≡ old → k ≡ config → (ServesFrom old None k haves due came written → Q k)
    → ServesFrom o None config haves due came written → Q config
step_from o old k config haves due came written Q is same f h =
    subst Q same (f (subst (λ (p : Opening). ServesFrom p None k haves due came written) is
    (subst (λ (d : Configuration). ServesFrom o None d haves due came written) (sym same) h)))

-- An option without a value has what holds of none.
pub not_some : {A : Type 0} (o : Option A) (P : Type 0) (Q : A → Type 0) → MatchOption o P Q → ((a : A) → o ≡ Some a → ⊥) → P
not_some None P Q h never = h
not_some (Some a) P Q h never = absurd (never a refl)

-- An error is found.
pub failed : (o : Opening) (config : Configuration) (haves : Serving) (due : List ℕ) (m : Meaning) (came : List Came) (piece written : List ℕ)
    (r : Result ℕ SyncError) (e : SyncError) → IsErrAnd r (λ y. y ≡ e)
    → ServesFrom o (Some e) config haves due (came ++ record { bytes = piece; held = m } ∷ []) written
    → ServesFrom o (fault_in r) config haves due (came ++ came_taken piece m r ∷ []) written
failed o config haves due m came piece written (Ok used) e is h = absurd is
failed o config haves due m came piece written (Err y) e is h =
    subst (λ (x : SyncError). ServesFrom o (Some x) config haves due (came ++ record { bytes = piece; held = m } ∷ []) written) (sym is) h

-- ---- the first line

-- If bytes have no line feed, the last of them have none.
by_recursion_back : (xs ys : List ℕ) → AllByRecursion (λ b. b ≢ 10) (xs ++ ys) → AllByRecursion (λ b. b ≢ 10) ys
by_recursion_back [] ys h = h
by_recursion_back (x ∷ xs) ys h = by_recursion_back xs ys h.1

plain_piece : (old piece new : List ℕ) → Continues (piece_run longest_line old piece) new → HasNoFeed piece
plain_piece old piece new goes =
    All-from_recursion (λ b. b ≢ 10) piece
    (by_recursion_back old piece (recursion_from_All (λ b. b ≢ 10) (old ++ piece) (subst HasNoFeed goes.kept goes.plain)))

-- If answers have all records, a piece is answered from what is held.
pub with_all : (haves then : Serving) (m : Meaning) (came : List Came) (piece : List ℕ) (r : Result ℕ SyncError) (written : List ℕ)
    → records_answered haves ≡ All → HasServedPieces then (came ++ came_taken piece (answered_from (records_answered haves) m) r ∷ []) written
    → HasServedPieces then (came ++ came_taken piece m r ∷ []) written
with_all haves then m came piece r written all serves =
    subst (λ (k : Meaning). HasServedPieces then (came ++ came_taken piece k r ∷ []) written) (whole_shown (records_answered haves) m all) serves

-- The haves take what comes within the first line.
pub opening_within : (config : Configuration) (part next : LinePart) (haves then : Serving) (due : List ℕ) (m : Meaning) (came : List Came)
    (piece : List ℕ) (r : Result ℕ SyncError) (written : List ℕ) → Continues (piece_run longest_line (kept_part part) piece) (kept_part next)
    → ((before : List Came) (after : List ℕ) → HasServedPieces haves before after
    → HasServedPieces then (before ++ came_taken piece (answered_from (records_answered haves) m) r ∷ []) after)
    → (due_give haves ≡ [] → HasNoFeed piece → IfOk r (λ used. used ≡ length piece))
    → (due_give haves ≡ [] → HasNoFeed piece → due_give then ≡ []) → records_answered then ≡ records_answered haves
    → MatchResult r (λ _. fault_of_serving then ≡ None) (λ e. fault_of_serving then ≡ Some e) → IsOpening part haves due came written
    → ServesFrom (FirstLine next) (fault_in r) config then due (came ++ came_taken piece m r ∷ []) written
opening_within config part next haves then due m came piece (Ok used) written goes serves whole quiet same fault h =
    let plain = plain_piece (kept_part part) piece (kept_part next) goes in
    opens_on (kept_part part) next then due m came piece used written goes (whole h.idle plain) h.bytes h.none h.none_due fault (quiet h.idle plain)
    (same ∙ h.all) (with_all haves then m came piece (Ok used) written h.all (serves came written h.serves))
opening_within config part next haves then due m came piece (Err e) written goes serves whole quiet same fault h =
    let plain = plain_piece (kept_part part) piece (kept_part next) goes in
    opening_have_fails config then due came (record { bytes = piece; held = m }) written e fault
    (with_all haves then m came piece (Err e) written h.all (serves came written h.serves)) h.none h.none_due (quiet h.idle plain)

-- The first line is that of a question.
pub opening_asks : (config : Configuration) (part : LinePart) (question : SumsServing) (haves then : Serving) (due : List ℕ) (m : Meaning)
    (came : List Came) (piece : List ℕ) (used : ℕ) (written : List ℕ)
    → EndsLine (piece_run longest_line (kept_part part) piece) used (written_header config)
    → HasTakenQuestion config question (ended (written_header config)) → own_sums_of question ≡ sums_of (state_of m)
    → fault_of_question question ≡ None → HasServedPieces then [] [] → fault_of_serving then ≡ None → due_give then ≡ []
    → records_answered then ≡ All → IsOpening part haves due came written
    → IsAsking config question then due (came ++ record { bytes = take used piece; held = m } ∷ []) written
opening_asks config part question haves then due m came piece used written ends takes own sound serves ready idle all h =
    opens_question config question then due m came (kept_part part) piece used written ends
    (kept_plain part.has_ended part.line.items part.unbroken) h.bytes h.none h.none_due takes own sound serves ready idle all

-- The first line is another one.
pub opening_haves : (config : Configuration) (part : LinePart) (haves then : Serving) (due : List ℕ) (m : Meaning) (came : List Came)
    (piece : List ℕ) (r : Result ℕ SyncError) (written : List ℕ) → IsPlain config (kept_part part ++ piece)
    → ((before : List Came) (after : List ℕ) → HasServedPieces haves before after
    → HasServedPieces then (before ++ came_taken piece (answered_from (records_answered haves) m) r ∷ []) after)
    → records_answered then ≡ records_answered haves
    → MatchResult r (λ _. fault_of_serving then ≡ None) (λ e. fault_of_serving then ≡ Some e) → IsOpening part haves due came written
    → ServesFrom Plain (fault_in r) config then due (came ++ came_taken piece m r ∷ []) written
opening_haves config part haves then due m came piece r written plain serves same fault h = (
  fault_is r (fault_of_serving then) fault,
  opened_haves config then due m came (kept_part part) piece r written h.none_due h.bytes plain (same ∙ h.all)
      (with_all haves then m came piece r written h.all (serves came written h.serves)),
)

-- The first line is refused.
pub opening_stops : (config : Configuration) (part : LinePart) (haves : Serving) (due : List ℕ) (m : Meaning) (came : List Came)
    (piece written : List ℕ) (e : SyncError) → RefusesOpeningLine config (kept_part part) piece e → IsOpening part haves due came written
    → StopsOpening config haves due (came ++ record { bytes = piece; held = m } ∷ []) written e
opening_stops config part haves due m came piece written e (inl out) h =
    opening_fails config haves due came (record { bytes = piece; held = m }) written e out h.none h.none_due h.idle
opening_stops config part haves due m came piece written e (inr other) h =
    opens_otherwise config haves due m came (kept_part part) piece written e other h.bytes h.none h.none_due h.idle

-- Out of memory for the sums.
pub opening_out : (config : Configuration) (part : LinePart) (haves : Serving) (due : List ℕ) (came : List Came) (c : Came)
    (written : List ℕ) (e : SyncError) → e ≡ NoMemory → IsOpening part haves due came written → StopsOpening config haves due (came ++ c ∷ []) written e
opening_out config part haves due came c written e out h = opening_fails config haves due came c written e out h.none h.none_due h.idle

-- ---- the question

-- The question ends, and is answered.
pub question_ends : (config : Configuration) (question then : SumsServing) (haves later : Serving) (due marks : List ℕ) (m : Meaning)
    (came : List Came) (piece : List ℕ) (used : ℕ) (written : List ℕ) (differ : Bool)
    → ((bytes : List ℕ) → HasTakenQuestion config question bytes → HasTakenQuestion config then (bytes ++ take used piece))
    → own_sums_of then ≡ own_sums_of question → fault_of_question then ≡ None → length (marks_made then) ≡ part_count
    → length (own_sums_of then) ≡ part_count → marks ≡ sums_answer config (marks_made then) → differ ≡ get_or (marks_made then) 0 true
    → (HasServedPieces haves [] [] → HasServedPieces later [] []) → records_answered later ≡ left_out_if (not differ) (records_answered haves)
    → fault_of_serving later ≡ fault_of_serving haves → IsAsking config question haves due came written
    → ServesFrom Answered None config later marks (came ++ record { bytes = take used piece; held = m } ∷ []) written
question_ends config question then haves later due marks m came piece used written differ on own sound all sums is first keeps left fault asks =
    let now = asks_on config question then haves due m came piece used written on own sound asks in (
      sym (fault ∙ asks.ready),
      asks_end config then haves later due marks (came ++ record { bytes = take used piece; held = m } ∷ []) written differ all sums is first keeps left now,
    )

-- Out of memory for the answer.
pub question_out : (config : Configuration) (question : SumsServing) (haves : Serving) (due : List ℕ) (came : List Came) (c : Came)
    (written : List ℕ) (e : SyncError) → e ≡ NoMemory → IsAsking config question haves due came written
    → StopsOpening config haves due (came ++ c ∷ []) written e
question_out config question haves due came c written e out asks =
    opening_fails config haves due came c written e out asks.none asks.none_due asks.idle

-- ---- haves

-- Haves come already, and each answer has all records.
pub plain_reads : (config : Configuration) (haves then : Serving) (due : List ℕ) (m : Meaning) (came : List Came) (piece : List ℕ)
    (r : Result ℕ SyncError) (written : List ℕ)
    → ((before : List Came) (after : List ℕ) → HasServedPieces haves before after
    → HasServedPieces then (before ++ came_taken piece (answered_from (records_answered haves) m) r ∷ []) after)
    → records_answered then ≡ records_answered haves
    → MatchResult r (λ _. fault_of_serving then ≡ None) (λ e. fault_of_serving then ≡ Some e) → ServesFrom Plain None config haves due came written
    → ServesFrom Plain (fault_in r) config then due (came ++ came_taken piece m r ∷ []) written
plain_reads config haves then due m came piece r written serves same fault h = (
  fault_is r (fault_of_serving then) fault,
  serves_on config haves then due came (came_taken piece m r) written
      (λ old. with_all haves then m came piece r written h.1.all (serves came written old)) same h.1,
)

-- what came by a call, as it is answered from
shown_taken : (differ : Bool) (before : List ℕ) (haves : Serving) (m : Meaning) (piece : List ℕ) (r : Result ℕ SyncError)
    → records_answered haves ≡ records_due differ (has_feed before)
    → came_taken piece (answered_from (records_answered haves) m) r ≡ shown_at differ before (came_taken piece m r)
shown_taken differ before haves m piece (Ok used) is = ap (λ records. record { bytes = take used piece; held = answered_from records m }) is
shown_taken differ before haves m piece (Err e) is = ap (λ records. record { bytes = piece; held = answered_from records m }) is

-- Haves come after a question, and there is an error in what comes.
pub answered_stops : (config : Configuration) (haves then : Serving) (due : List ℕ) (m : Meaning) (came : List Came) (piece : List ℕ)
    (written : List ℕ) (e : SyncError)
    → ((before : List Came) (after : List ℕ) → HasServedPieces haves before after
    → HasServedPieces then (before ++ came_taken piece (answered_from (records_answered haves) m) (Err e) ∷ []) after)
    → fault_of_serving then ≡ Some e → ServesFrom Answered None config haves due came written
    → ServesFrom Answered (Some e) config then due (came ++ record { bytes = piece; held = m } ∷ []) written
answered_stops config haves then due m came piece written e serves fault h = (
  sym fault,
  answers_on config haves then due came (record { bytes = piece; held = m }) written
      (λ seen after differ before has old.
      subst (λ (c : Came). HasServedPieces then (seen ++ c ∷ []) after) (shown_taken differ before haves m piece (Err e) (has (sym h.0)))
      (serves seen after old))
      (λ differ before has sound. absurd (let stopped = fault in cc)) h.1,
)

-- Haves come after a question. `then` is after the call, and `last` after the records were left out or not.
pub answered_reads : (config : Configuration) (haves then last : Serving) (due : List ℕ) (m : Meaning) (came : List Came) (piece : List ℕ)
    (used : ℕ) (written : List ℕ)
    → ((before : List Came) (after : List ℕ) → HasServedPieces haves before after
    → HasServedPieces then (before ++ came_taken piece (answered_from (records_answered haves) m) (Ok used) ∷ []) after)
    → records_answered then ≡ records_answered haves → fault_of_serving then ≡ None
    → ((before : List Came) (after : List ℕ) → HasServedPieces then before after → HasServedPieces last before after)
    → records_answered last ≡ left_out_if (has_feed (take used piece)) (records_answered then) → fault_of_serving last ≡ fault_of_serving then
    → ServesFrom Answered None config haves due came written
    → ServesFrom Answered None config last due (came ++ record { bytes = take used piece; held = m } ∷ []) written
answered_reads config haves then last due m came piece used written serves same sound keeps left fault h = (
  sym (fault ∙ sound),
  answers_on config haves last due came (record { bytes = take used piece; held = m }) written
      (λ seen after differ before has old. keeps (seen ++ shown_at differ before (record { bytes = take used piece; held = m }) ∷ []) after
      (subst (λ (c : Came). HasServedPieces then (seen ++ c ∷ []) after) (shown_taken differ before haves m piece (Ok used) (has (sym h.0)))
      (serves seen after old)))
      (λ differ before has calm. left ∙ ap (left_out_if (has_feed (take used piece))) (same ∙ has (sym h.0))
      ∙ due_after differ before (take used piece)) h.1,
)

-- ---- what is due

-- If something is left of the first text, it is due.
pub first_some : (due later : List ℕ) → (due ≡ [] → ⊥) → first_due due later ≡ due
first_some [] later some = absurd (some refl)
first_some (b ∷ due) later some = refl

-- If either text is left, something is due.
pub later_due : (due later : List ℕ) → 0 < length later → 0 < length (first_due due later)
later_due [] later some = some
later_due (b ∷ due) later some = omega arith

pub now_due : (due later : List ℕ) → 0 < length due → 0 < length (first_due due later)
now_due [] later some = absurd (omega (arith, some))
now_due (b ∷ due) later some = omega arith

-- So is what is left of a text that is not written to its end.
pub question_due : (text later : List ℕ) (written : ℕ) → written < length text → 0 < length (first_due (drop written text) later)
question_due text later written less = let size = length-drop written text in now_due (drop written text) later (omega (arith, size, less))

-- Else the other text is.
pub first_none : (due later : List ℕ) → due ≡ [] → first_due due later ≡ later
first_none [] later none = refl
first_none (b ∷ due) later none = absurd (cc)

-- The answer to a question is some bytes.
pub marks_due : (config : Configuration) (marks : List Bool) (text later : List ℕ) → text ≡ sums_answer config marks
    → 0 < length (first_due (drop 0 text) later)
marks_due config marks text later is =
    let size = ap length is in
    let both = length-append (ended (written_header config)) (ended (marks_line marks)) in
    let last = length-append (marks_line marks) (10 ∷ []) in
    now_due (drop 0 text) later (omega (arith, size, both, last))

-- A call takes what the haves take.
pub haves_taken : (due : List ℕ) (then : Serving) (piece : List ℕ) (r : Result ℕ SyncError)
    → IfOk r (λ used. (used ≤ length piece) × ((used ≡ length piece) ⊎ (0 < length (due_give then))))
    → IfOk r (TakesToLine (0 < length (first_due due (due_give then))) piece)
haves_taken due then piece (Err e) taken = taken
haves_taken due then piece (Ok used) taken = λ less. inr (elim taken.1 [
  | inl all ↦ absurd (omega (arith, all, less))
  | inr some ↦ later_due due (due_give then) some
])

-- Something is left of a text that is not written to its end.
pub some_left : (text : List ℕ) (written : ℕ) → written < length text → drop written text ≡ [] → ⊥
some_left text written less none =
    let size = length-drop written text in
    let nothing : length (drop written text) ≡ 0 = ap length none in
    omega (arith, less, size, nothing)

-- Nothing is left of a text that is written to its end.
pub none_left_of : (text : List ℕ) (written : ℕ) → length text ≤ written → drop written text ≡ []
none_left_of text written over = drop_all written text over

-- Within what is due, no more is written than there is.
pub within_text : (text later : List ℕ) (written count : ℕ) → written < length text → count ≤ length (first_due (drop written text) later)
    → written + count ≤ length text
within_text text later written count less few =
    let size = length-drop written text in
    let same = ap length (first_some (drop written text) later (some_left text written less)) in
    omega (arith, less, few, size, same)

-- ---- what was written

pub marks_written : (o : Opening) (f : Option SyncError) (config : Configuration) (haves : Serving) (text : List ℕ) (from count : ℕ)
    (came : List Came) (written : List ℕ) → from < length text → ServesFrom o f config haves (drop from text) came written
    → ServesFrom o f config haves (drop (from + count) text) came (written ++ take count (first_due (drop from text) (due_give haves)))
marks_written o f config haves text from count came written less h =
    let some = some_left text from less in
    subst (λ (l : List ℕ). ServesFrom o f config haves (drop (from + count) text) came (written ++ take count l))
    (sym (first_some (drop from text) (due_give haves) some))
    (quiet_wrote_marks o f config haves (drop from text) (drop (from + count) text) came written count (sym (drop-drop count from text)) some h)

pub haves_written : (o : Opening) (f : Option SyncError) (config : Configuration) (haves then : Serving) (due : List ℕ) (came : List Came)
    (written : List ℕ) (count : ℕ) → due ≡ [] → ((later : List Came) (after : List ℕ) → HasServedPieces haves later after
    → HasServedPieces then later (after ++ take count (due_give haves)))
    → fault_of_serving then ≡ fault_of_serving haves → records_answered then ≡ records_answered haves
    → due_give then ≡ drop count (due_give haves) → ServesFrom o f config haves due came written
    → ServesFrom o f config then due came (written ++ take count (first_due due (due_give haves)))
haves_written o f config haves then due came written count none on same records left h =
    subst (λ (l : List ℕ). ServesFrom o f config then due came (written ++ take count l)) (sym (first_none due (due_give haves) none))
    (quiet_wrote_haves o f config haves then due came written count none on same records left h)

-- A whole session that is served, over devices: what one step does, and what steps do together.
use Rattle.std.proofs.Common.{◌≡◌, ◌∙◌, ℕ, ◌+◌, ◌<◌, ◌≤◌, ◌⊎◌, inl, inr, List, [], ◌∷◌, ◌++◌, length, take, drop, cond, refl, sym, ap, subst, arith, zero, suc}
use Rattle.std.proofs.Common.{append_assoc, append-nil, length-append, length-drop}
use Rattle.std.proofs.KnownBytes.{Appends-kept, Appends-nil, Appends-trans, Consumes-kept, Consumes-nil, Consumes-trans}
use Rattle.std.proofs.lemmas.Grind.{flat_map-append}
use Rattle.std.proofs.lemmas.List.Sums.{count_by-le-length, sum_by-append}
use Rattle.std.specs.Prelude.{Option, Some, None, Result, Ok, Err, IfOk, ◌==◌}
use Rattle.std.specs.List.{AllByRecursion}
use Rattle.std.specs.Io.KnownBytes.{Appends, Consumes, IsAtEnd, Keeps, prepend_known}
use Rattle.fed_config.specs.Configuration.{Configuration}
use Rattle.receipt_core.specs.Acceptance.{Meaning}
use Rattle.byte_lines.specs.Limits.{line_limit}
use Rattle.replica_core.specs.declared.error.SyncError.{SyncError}
use Rattle.replica_core.specs.declared.error.SyncError.TheVariants.{Truncated}
use Rattle.replica_texts.specs.Snapshots.{ended, text_of_lines}
use Rattle.replica_texts.specs.SoleLines.{written_header}
use Rattle.replica_sync.specs.Pieces.{piece_run}
use Rattle.replica_sync.specs.ServedPieces.{Came, IsStill, TakesUpToHave, bytes_came, came_taken, due_give, fault_of_serving, kept_have}
use Rattle.replica_sync.specs.declared.piece_serving.Serving.{Serving}
use Rattle.bucket_sums.specs.Lines.{part_count}
use Rattle.bucket_sums.specs.Quiet.{HasServedQuietly, IsBetween, ServesFrom, due_marks, due_quiet, fault_of_quiet, first_due}
use Rattle.bucket_sums.specs.QuietRuns.{FindsFault, HasServedRun, IsCutShort, SessionState, feeds_in, lines_asked, lines_of_question, session_state}
use Rattle.bucket_sums.specs.Inside.QuietTurns.{GivesQuietly}
use Rattle.bucket_sums.specs.declared.quiet_serving.Opening.{Opening}
use Rattle.bucket_sums.specs.declared.quiet_serving.Opening.TheVariants.{FirstLine, Question, Plain, Answered}
use Rattle.bucket_sums.specs.declared.quiet_serving.QuietServing.{QuietServing}
use Rattle.bucket_sums.proofs.QuietFacts.{came_bytes}
use Rattle.bucket_sums.proofs.QuietRunFacts.{all_ahead, first_ahead}

-- ---- what is written

-- Nothing is written.
pub gives_none : (s : QuietServing) (old new : Option (List ℕ)) → Keeps old new → GivesQuietly s old new s
gives_none s old new kept = record {
  written = [];
  wrote = Appends-kept old old new [] (Appends-nil old) kept;
  serves = λ config came said h. subst (λ (l : List ℕ). HasServedQuietly config s came l) (sym (append-nil said)) h;
}

-- Some bytes more are written.
pub gives_more : (before mid after : QuietServing) (old now new : Option (List ℕ)) (bytes : List ℕ) → GivesQuietly before old now mid
    → Appends now new bytes
    → ((config : Configuration) (came : List Came) (said : List ℕ) → HasServedQuietly config mid came said
    → HasServedQuietly config after came (said ++ bytes))
    → GivesQuietly before old new after
gives_more before mid after old now new bytes first more wrote = record {
  written = first.written ++ bytes;
  wrote = Appends-trans old now new first.written bytes first.wrote more;
  serves = λ config came said h.
      subst (λ (l : List ℕ). HasServedQuietly config after came l) (append_assoc said first.written bytes)
      (wrote config came (said ++ first.written) (first.serves config came said h));
}

-- Nothing more is written.
pub gives_kept : (before after : QuietServing) (old now new : Option (List ℕ)) → GivesQuietly before old now after → Keeps now new
    → GivesQuietly before old new after
gives_kept before after old now new first kept = record {
  written = first.written;
  wrote = Appends-kept old now new first.written first.wrote kept;
  serves = first.serves;
}

-- ---- a run, and one step more

-- Nothing came and nothing was written.
pub served_none : (s : QuietServing) (m : Meaning) (source rest sink : Option (List ℕ)) → HasServedQuietly m.config s [] [] → Keeps source rest
    → HasServedRun (session_state m source sink) (session_state m rest sink) [] s
served_none s m source rest sink begins kept = record {
  written = [];
  still = tt;
  read = Consumes-kept source source rest [] (Consumes-nil source) kept;
  wrote = Appends-nil sink;
  serves = begins;
}

-- Nothing more came.
pub served_kept : (s : QuietServing) (old : SessionState) (m : Meaning) (source rest sink : Option (List ℕ)) (came : List Came)
    → HasServedRun old (session_state m source sink) came s → Keeps source rest → HasServedRun old (session_state m rest sink) came s
served_kept s old m source rest sink came run kept = record {
  written = run.written;
  still = run.still;
  read = Consumes-kept old.source source rest (bytes_came came) run.read kept;
  wrote = run.wrote;
  serves = run.serves;
}

-- The same is held while one piece more comes.
still_on : (m : Meaning) (came : List Came) (c : Came) → IsStill m came → c.held ≡ m → IsStill m (came ++ c ∷ [])
still_on m [] c still same = (same, tt)
still_on m (d ∷ came) c still same = (still.0, still_on m came c still.1 same)

-- A piece was taken.
pub served_took : (s then : QuietServing) (old : SessionState) (m : Meaning) (source rest sink : Option (List ℕ)) (came : List Came) (c : Came)
    → HasServedRun old (session_state m source sink) came s → Consumes source rest c.bytes → c.held ≡ old.held
    → ((written : List ℕ) → HasServedQuietly old.held.config s came written → HasServedQuietly old.held.config then (came ++ c ∷ []) written)
    → HasServedRun old (session_state m rest sink) (came ++ c ∷ []) then
served_took s then old m source rest sink came c run takes same serves = record {
  written = run.written;
  still = still_on old.held came c run.still same;
  read = subst (Consumes old.source rest) (sym (came_bytes came c))
      (Consumes-trans old.source source rest (bytes_came came) c.bytes run.read takes);
  wrote = run.wrote;
  serves = serves run.written run.serves;
}

-- What was due is written, or a part of it.
pub served_gave : (s then : QuietServing) (old : SessionState) (m : Meaning) (source sink later : Option (List ℕ)) (came : List Came)
    → HasServedRun old (session_state m source sink) came s → GivesQuietly s sink later then
    → HasServedRun old (session_state m source later) came then
served_gave s then old m source sink later came run gives = record {
  written = run.written ++ gives.written;
  still = run.still;
  read = run.read;
  wrote = Appends-trans old.sink sink later run.written gives.written run.wrote gives.wrote;
  serves = gives.serves old.held.config came run.written run.serves;
}

-- what is left of the bytes that were read ahead, and what follows them
abbrev pub rest_after : List ℕ → Option (List ℕ) → Result ℕ SyncError → Option (List ℕ)
rest_after bytes later (Ok used) = prepend_known (drop used bytes) later
rest_after bytes later (Err e) = later

-- The session read of what was read ahead.
pub served_read : (s then : QuietServing) (old : SessionState) (m k : Meaning) (bytes piece : List ℕ) (later sink : Option (List ℕ))
    (came : List Came) (r : Result ℕ SyncError) → piece ≡ bytes → k ≡ old.held
    → HasServedRun old (session_state m (prepend_known bytes later) sink) came s
    → ((config : Configuration) (before : List Came) (written : List ℕ) → k.config ≡ config → HasServedQuietly config s before written
    → HasServedQuietly config then (before ++ came_taken piece k r ∷ []) written)
    → HasServedRun old (session_state m (rest_after bytes later r) sink) (came ++ came_taken piece k r ∷ []) then
served_read s then old m k bytes piece later sink came (Ok used) is held run serves =
    let source = prepend_known bytes later in
    let rest = prepend_known (drop used bytes) later in
    served_took s then old m source rest sink came (record { bytes = take used piece; held = k }) run
    (subst (λ (l : List ℕ). Consumes source rest (take used l)) (sym is) (first_ahead bytes used later)) held
    (λ written h. serves old.held.config came written (ap (λ (n : Meaning). n.config) held) h)
served_read s then old m k bytes piece later sink came (Err e) is held run serves =
    served_took s then old m (prepend_known bytes later) later sink came (record { bytes = piece; held = k }) run
    (subst (Consumes (prepend_known bytes later) later) (sym is) (all_ahead bytes later)) held
    (λ written h. serves old.held.config came written (ap (λ (n : Meaning). n.config) held) h)

-- ---- how many lines came

-- the lines that end in both
feeds_both : (bytes more : List ℕ) → feeds_in (bytes ++ more) ≡ feeds_in bytes + feeds_in more
feeds_both bytes more = sum_by-append (λ (b : ℕ). cond (b == 10) 1 0) bytes more

pub feeds_on : (came : List Came) (c : Came) (lines : ℕ) → lines ≡ feeds_in (bytes_came came)
    → lines + feeds_in c.bytes ≡ feeds_in (bytes_came (came ++ c ∷ []))
feeds_on came c lines is =
    ap (λ (n : ℕ). n + feeds_in c.bytes) is ∙ sym (feeds_both (bytes_came came) c.bytes) ∙ ap feeds_in (sym (came_bytes came c))

pub feeds_few : (bytes : List ℕ) → feeds_in bytes ≤ length bytes
feeds_few bytes = count_by-le-length (λ (b : ℕ). b == 10) bytes

-- Each line of a text ends.
lines_end : (lines : List (List ℕ)) → length lines ≤ feeds_in (text_of_lines lines)
lines_end [] = omega arith
lines_end (text ∷ lines) =
    let both = feeds_both (ended text) (text_of_lines lines) in
    let first = feeds_both text (10 ∷ []) in
    let one : feeds_in (10 ∷ []) ≡ 1 = refl in
    let others = lines_end lines in
    omega (arith, both, first, one, others)

-- If a question was answered its lines came.
asked_few : (o : Opening) (f : Option SyncError) (config : Configuration) (haves : Serving) (due : List ℕ) (came : List Came) (written : List ℕ)
    → ServesFrom o f config haves due came written → lines_of_question o ≤ feeds_in (bytes_came came)
asked_few (FirstLine part) f config haves due came written h = omega arith
asked_few (Question question) f config haves due came written h = omega arith
asked_few Plain f config haves due came written h = omega arith
asked_few Answered f config haves due came written h =
    let asks = h.1.question in
    let parts = ap feeds_in (ap bytes_came h.1.order ∙ flat_map-append (λ (c : Came). c.bytes) h.1.asked h.1.later) in
    let both = feeds_both (bytes_came h.1.asked) (bytes_came h.1.later) in
    let bytes = ap feeds_in asks.bytes in
    let few = lines_end (written_header config ∷ asks.lines) in
    let all = asks.all in
    omega (arith, parts, both, bytes, few, all)

pub asked_came : (s : QuietServing) (config : Configuration) (came : List Came) (written : List ℕ) → HasServedQuietly config s came written
    → lines_asked s ≤ feeds_in (bytes_came came)
asked_came s config came written h = asked_few s.opening (fault_of_quiet s) config s.haves (due_marks s) came written h

-- ---- the end

-- The haves have the error of the session, or none.
sound_haves : (o : Opening) (f : Option SyncError) (config : Configuration) (haves : Serving) (due : List ℕ) (came : List Came) (written : List ℕ)
    → f ≡ None → ServesFrom o f config haves due came written → fault_of_serving haves ≡ None
sound_haves (FirstLine part) None config haves due came written none h = h.sound
sound_haves (FirstLine part) (Some e) config haves due came written none h = absurd (cc)
sound_haves (Question question) None config haves due came written none h = h.ready
sound_haves (Question question) (Some e) config haves due came written none h = absurd (cc)
sound_haves Plain f config haves due came written none h = sym h.0 ∙ none
sound_haves Answered f config haves due came written none h = sym h.0 ∙ none

pub haves_sound : (s : QuietServing) (config : Configuration) (came : List Came) (written : List ℕ) → fault_of_quiet s ≡ None
    → HasServedQuietly config s came written → fault_of_serving s.haves ≡ None
haves_sound s config came written none h = sound_haves s.opening (fault_of_quiet s) config s.haves (due_marks s) came written none h

-- If nothing was read ahead, it is at its end with the source.
pub none_left : (bytes : List ℕ) (source : Option (List ℕ)) → bytes ≡ [] → IsAtEnd source → IsAtEnd (prepend_known bytes source)
none_left bytes None none over = tt
none_left bytes (Some later) none over = ap (λ (l : List ℕ). l ++ later) none ∙ over

-- The source is at its end, and the session may not end there.
pub stops_at_end : (s : QuietServing) (config : Configuration) (came : List Came) (written : List ℕ) (rest : Option (List ℕ)) (e : SyncError)
    → HasServedQuietly config s came written → due_quiet s ≡ [] → IsAtEnd rest
    → (fault_of_quiet s ≡ Some e) ⊎ ((fault_of_quiet s ≡ None) × (e ≡ Truncated)
    × (fault_of_serving s.haves ≡ None → IsBetween s → ⊥))
    → FindsFault s e ⊎ IsCutShort s rest e
stops_at_end s config came written rest e serves idle over (inl found) = inl (found, idle)
stops_at_end s config came written rest e serves idle over (inr cut) = inr (record {
  sound = cut.0;
  within = cut.2 (haves_sound s config came written cut.0 serves);
  idle = idle;
  all = over;
  is = cut.1;
})

-- ---- how far it is to the end

-- If nothing is due, no answer to a have is.
pub no_give : (due later : List ℕ) → first_due due later ≡ [] → later ≡ []
no_give [] later none = none
no_give (b ∷ due) later none = absurd (cc)

-- Haves take some bytes of those that come.
pub haves_go : (haves then : Serving) (m : Meaning) (piece : List ℕ) (r : Result ℕ SyncError) (x y : ℕ) → y ≤ x
    → (due_give haves ≡ [] → IfOk r (λ used. TakesUpToHave m (piece_run line_limit (kept_have haves) piece) used then)) → due_give haves ≡ []
    → 0 < length piece → IfOk r (λ used. y < x + used)
haves_go haves then m piece (Err e) x y few takes none some = takes none
haves_go haves then m piece (Ok used) x y few takes none some = elim (takes none) [
  | inl goes ↦ let all = goes.all in omega (arith, all, some, few)
  | inr ends ↦ let one = ends.ends.some in omega (arith, one, few)
]

-- A question that has not ended takes all that comes.
pub question_goes : (used size : ℕ) → (used < size → ⊥) → 0 < size → 1 < 1 + used
question_goes zero size all some = absurd (all some)
question_goes (suc used) size all some = omega arith

-- What is written of the answer to the question is no longer owed.
pub marks_owed : (text later : List ℕ) (written count : ℕ) → written < length text → written + count ≤ length text
    → length (drop (written + count) text) + length later + count ≡ length (drop written text) + length later
marks_owed text later written count less within =
    let old = length-drop written text in let new = length-drop (written + count) text in omega (arith, less, within, old, new)

-- Nor is what is written of an answer to a have.
pub haves_owed : (due old new : List ℕ) (count : ℕ) → due ≡ [] → count ≤ length (first_due due old) → new ≡ drop count old
    → length due + length new + count ≡ length due + length old
haves_owed [] old new count none few is =
    let size = ap length is in let left = length-drop count old in omega (arith, few, size, left)
haves_owed (b ∷ due) old new count none few is = absurd (cc)

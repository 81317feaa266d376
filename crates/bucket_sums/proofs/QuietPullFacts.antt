-- A session that asks for sums: what one call does.
use Rattle.std.proofs.Common.{◌≡◌, ◌∙◌, ℕ, zero, suc, ◌+◌, ◌<◌, ◌⊎◌, inl, inr, Bool, List, [], ◌∷◌, ◌++◌, length, take, drop}
use Rattle.std.proofs.Common.{refl, sym, ap, subst, arith, append_assoc, append-nil, drop-drop, length-append, take-append-drop}
use Rattle.std.specs.Prelude.{Option, Some, None, Result, Ok, Err, IfOk, IsErrAnd, MatchResult, flat_map}
use Rattle.std.proofs.lemmas.Grind.{flat_map-append}
use Rattle.fed_config.specs.Configuration.{Configuration}
use Rattle.receipt_core.specs.Acceptance.{Meaning}
use Rattle.replica_core.specs.Session.{HaveMessage, have_of, state_of}
use Rattle.replica_core.specs.declared.error.SyncError.{SyncError}
use Rattle.replica_core.specs.declared.error.SyncError.TheVariants.{NoMemory}
use Rattle.replica_sync.specs.Pieces.{kept_part}
use Rattle.replica_texts.specs.Messages.{any_have_text, as_any_have, have_text}
use Rattle.replica_sync.specs.PulledPieces.{AreAlone, PulledGive, PulledPiece, bytes_pulled, bytes_read, haves_asked, haves_pulled, held_at_end, pieces_of}
use Rattle.replica_sync.specs.Plans.{answered_of, bucket_at}
use Rattle.replica_sync.specs.PullSessions.{HasPulledAbout, IsOverPulling, PullsLines, PullsPieces, TakesLines, count_of_pulling, due_have}
use Rattle.replica_sync.specs.PullSessions.{fault_of_pulling, kept_answer}
use Rattle.replica_sync.specs.declared.answer_lines.AnswerLines.{AnswerLines}
use Rattle.replica_sync.specs.declared.piece_pulling.Pulling.{Pulling}
use Rattle.replica_sync.proofs.PulledPieceFacts.{bytes_more, takes_quiet}
use Rattle.replica_sync.proofs.PullStepFacts.{pulled_still, taken_same}
use Rattle.bucket_sums.specs.Asking.{HasAnswerLines, HasTakenAnswer, IsLineOfMarks, TakesAnswer, fault_of_answer, marks_answered}
use Rattle.bucket_sums.specs.Questions.{StopsAtLine, sums_question}
use Rattle.bucket_sums.specs.QuietPulls.{AsksMarked, EndsHolding, IsAskingSums, PullsFrom, StopsMarks, due_of_stage, due_question}
use Rattle.bucket_sums.specs.Serving.{TakesToLine}
use Rattle.bucket_sums.specs.Sessions.{buckets_asked}
use Rattle.bucket_sums.specs.Sums.{sums_of}
use Rattle.bucket_sums.specs.Inside.QuietPullSteps.{StepsQuietly}
use Rattle.bucket_sums.specs.declared.quiet_pulling.QuietPulling.{QuietPulling}
use Rattle.bucket_sums.specs.declared.quiet_pulling.Stage.{Stage}
use Rattle.bucket_sums.specs.declared.quiet_pulling.Stage.TheVariants.{Asking, Pulling as PullsNow}
use Rattle.bucket_sums.specs.declared.sums_asking.SumsAsking.{SumsAsking}
use Rattle.bucket_sums.specs.Quiet.{fault_in, first_due}
use Rattle.bucket_sums.proofs.QuietFacts.{fault_is, stops_more}
use Rattle.bucket_sums.proofs.QuietStepFacts.{first_none, first_some, later_due, some_left}

-- ---- pieces of which nothing is taken

-- a piece of which nothing is taken
abbrev pub quiet_piece : List ℕ → Meaning → PulledPiece
quiet_piece bytes m = record { bytes = bytes; old = m; new = m }

-- If nothing else changes what is held, the last piece left it so.
last_held : (start m : Meaning) (came : List PulledPiece) (c : PulledPiece) → AreAlone start (came ++ c ∷ []) m → c.new ≡ m
last_held start m [] c h = sym h.1
last_held start m (d ∷ came) c h = last_held d.new m came c h.1

pub ends_alone : (start m held : Meaning) (came : List PulledPiece) → EndsHolding came held → AreAlone start came m → held ≡ m
ends_alone start m held came ends alone =
    sym ends.was ∙ last_held start m ends.before ends.last (subst (λ (l : List PulledPiece). AreAlone start l m) ends.order alone)

-- One piece is the bytes, and leaves what is held.
pub one_piece : (bytes : List ℕ) (m : Meaning) → bytes_pulled (quiet_piece bytes m ∷ []) ≡ bytes
one_piece bytes m = append-nil bytes

-- ---- the beginning

-- There is a piece, so there are some.
some_piece : (front part : List PulledPiece) (c : PulledPiece) (later : List PulledPiece) → [] ≡ front ++ (part ++ c ∷ later) → ⊥
some_piece front part c later e =
    let size : 0 ≡ length (front ++ (part ++ c ∷ later)) = ap length e in
    let both = length-append front (part ++ c ∷ later) in
    let back = length-append part (c ∷ later) in
    omega (arith, size, both, back)

-- Before the first piece there is no error.
no_piece : (plan : Option (List ℕ)) (f : Option SyncError) (answered : ℕ) (lines : AnswerLines) (start : Meaning) (rest output : List ℕ)
    → PullsPieces plan f answered lines start [] rest output → f ≡ None
no_piece plan None answered lines start rest output h = refl
no_piece plan (Some e) answered lines start rest output (inl stops) =
    absurd (some_piece (flat_map pieces_of stops.gives) stops.part stops.last stops.later stops.whole.order)
no_piece plan (Some e) answered lines start rest output (inr stops) =
    absurd (some_piece (flat_map pieces_of stops.gives) stops.part stops.last stops.later stops.whole.order)

pub begun_sound : (plan : Option (List ℕ)) (pulling : Pulling) (start : Meaning) → HasPulledAbout plan pulling start [] []
    → fault_of_pulling pulling ≡ None
begun_sound plan pulling start h =
    no_piece plan (fault_of_pulling pulling) (answered_of pulling.plan) pulling.lines start (kept_answer pulling) ([] ++ due_have pulling) h.pulls

-- Without a piece no answer came.
no_gives : (gives : List PulledGive) (later : List PulledPiece) → [] ≡ flat_map pieces_of gives ++ later → gives ≡ []
no_gives [] later e = refl
no_gives (g ∷ gives) later e =
    absurd (some_piece [] g.before g.last (flat_map pieces_of gives ++ later)
    (e ∙ append_assoc (pieces_of g) (flat_map pieces_of gives) later
    ∙ append_assoc g.before (g.last ∷ []) (flat_map pieces_of gives ++ later)))

-- The have about the first bucket is due then.
first_asked : (start : Meaning) (gives : List PulledGive) (due : List ℕ) → gives ≡ []
    → due ≡ flat_map have_text (haves_asked None start gives) → due ≡ have_text (have_of start 0)
first_asked start gives due none asked =
    asked ∙ ap (λ (gs : List PulledGive). flat_map have_text (haves_asked None start gs)) none ∙ append-nil (have_text (have_of start 0))

first_have : (f : Option SyncError) (answered : ℕ) (lines : AnswerLines) (start : Meaning) (rest due : List ℕ) → f ≡ None
    → PullsPieces None f answered lines start [] rest due → due ≡ have_text (have_of start 0)
first_have None answered lines start rest due sound (inl on) = first_asked start on.gives due (no_gives on.gives on.later on.whole.order) on.asked
first_have None answered lines start rest due sound (inr all) =
    absurd (let many = all.all in let none = ap length (no_gives all.gives all.later all.whole.order) in omega (arith, many, none))
first_have (Some e) answered lines start rest due sound h = absurd (cc)

pub begun_asks : (pulling : Pulling) (start : Meaning) → HasPulledAbout None pulling start [] [] → due_have pulling ≡ have_text (have_of start 0)
begun_asks pulling start h =
    first_have (fault_of_pulling pulling) (answered_of pulling.plan) pulling.lines start (kept_answer pulling) (due_have pulling)
    (begun_sound None pulling start h) h.pulls

-- A session about buckets asks, or is over.
some_text : (haves : List HaveMessage) (have : HaveMessage) → 0 < length (flat_map have_text (haves ++ have ∷ []))
some_text haves have =
    let parts = ap length (flat_map-append have_text haves (have ∷ [])) in
    let both = length-append (flat_map have_text haves) (have_text have ++ []) in
    let one = length-append (have_text have) [] in
    let last = length-append (any_have_text (as_any_have have)) (10 ∷ []) in
    omega (arith, parts, both, one, last)

about_asks : (plan : Option (List ℕ)) (f : Option SyncError) (answered : ℕ) (lines : AnswerLines) (start : Meaning) (rest due : List ℕ) → f ≡ None
    → PullsPieces plan f answered lines start [] rest due → (0 < length due) ⊎ (lines.bucket ≡ 256)
about_asks plan None answered lines start rest due sound (inl on) =
    inl (subst (λ (l : List ℕ). 0 < length l) (sym on.asked)
    (some_text (haves_pulled plan start 0 on.gives) (have_of (held_at_end start on.gives) (bucket_at plan (length on.gives)))))
about_asks plan None answered lines start rest due sound (inr all) = inr all.bucket
about_asks plan (Some e) answered lines start rest due sound h = absurd (cc)

pub begun_due : (plan : Option (List ℕ)) (pulling : Pulling) (start : Meaning) → HasPulledAbout plan pulling start [] []
    → (0 < length (due_have pulling)) ⊎ IsOverPulling pulling
begun_due plan pulling start h =
    about_asks plan (fault_of_pulling pulling) (answered_of pulling.plan) pulling.lines start (kept_answer pulling) (due_have pulling)
    (begun_sound plan pulling start h) h.pulls

-- ---- how many bytes a call takes

-- What is due or over in the haves is due or over in the session.
due_or_over : (due : List ℕ) (pulling : Pulling) → (0 < length (due_have pulling)) ⊎ IsOverPulling pulling
    → (0 < length (first_due due (due_have pulling))) ⊎ IsOverPulling pulling
due_or_over due pulling (inl some) = inl (later_due due (due_have pulling) some)
due_or_over due pulling (inr over) = inr over

pub pulling_taken : (due : List ℕ) (new : Pulling) (piece : List ℕ) (r : Result ℕ SyncError) → IfOk r (TakesLines piece new)
    → IfOk r (TakesToLine ((0 < length (first_due due (due_have new))) ⊎ IsOverPulling new) piece)
pulling_taken due new piece (Err e) taken = taken
pulling_taken due new piece (Ok used) taken = λ less. inr (due_or_over due new (taken.fewer less))

pub begun_taken : (plan : Option (List ℕ)) (due : List ℕ) (new : Pulling) (start : Meaning) (piece : List ℕ) (used : ℕ)
    → HasPulledAbout plan new start [] []
    → TakesToLine ((0 < length (first_due due (due_have new))) ⊎ IsOverPulling new) piece used
begun_taken plan due new start piece used begins less = inr (due_or_over due new (begun_due plan new start begins))

-- What is left of a text is due if nothing else is.
pub first_alone : (due : List ℕ) → first_due due [] ≡ due
first_alone [] = refl
first_alone (b ∷ due) = refl

-- ---- one call

-- One piece is taken, and nothing of it is held.
pub stage_step : (before after : QuietPulling) (old new : Stage) (bytes : List ℕ) (m : Meaning) (f : Option SyncError) → before.stage ≡ old
    → after.stage ≡ new → due_question after ≡ due_question before → ((start : Meaning) (came : List PulledPiece) (written : List ℕ)
    → m.config ≡ start.config → PullsFrom old None (due_question before) start came written
    → PullsFrom new f (due_question before) start (came ++ quiet_piece bytes m ∷ []) written) → StepsQuietly before (quiet_piece bytes m) f after
stage_step before after old new bytes m f was is due step = record {
  pieces = quiet_piece bytes m ∷ [];
  whole = one_piece bytes m;
  alone = (refl, refl);
  pulls = λ start came written own h.
      subst (λ (s : Stage). PullsFrom s f (due_question after) start (came ++ quiet_piece bytes m ∷ []) written) (sym is)
      (subst (λ (d : List ℕ). PullsFrom new f d start (came ++ quiet_piece bytes m ∷ []) written) (sym due)
      (step start came written own (subst (λ (s : Stage). PullsFrom s None (due_question before) start came written) was h)));
}

-- An error is found.
pub failed_step : (before after : QuietPulling) (piece : List ℕ) (m : Meaning) (r : Result ℕ SyncError) (e : SyncError) → IsErrAnd r (λ y. y ≡ e)
    → StepsQuietly before (quiet_piece piece m) (Some e) after → StepsQuietly before (quiet_piece (bytes_read piece r) m) (fault_in r) after
failed_step before after piece m (Ok used) e is step = absurd is
failed_step before after piece m (Err y) e is step = subst (λ (x : SyncError). StepsQuietly before (quiet_piece piece m) (Some x) after) (sym is) step

-- Nothing is taken.
pub waits_step : (before after : QuietPulling) (m : Meaning) → after.stage ≡ before.stage → due_question after ≡ due_question before
    → StepsQuietly before (quiet_piece [] m) None after
waits_step before after m is due = record {
  pieces = [];
  whole = refl;
  alone = refl;
  pulls = λ start came written own h.
      subst (λ (s : Stage). PullsFrom s None (due_question after) start (came ++ []) written) (sym is)
      (subst (λ (d : List ℕ). PullsFrom before.stage None d start (came ++ []) written) (sym due)
      (subst (λ (l : List PulledPiece). PullsFrom before.stage None (due_question before) start l written) (sym (append-nil came)) h));
}

-- ---- haves

-- The answers to haves continue.
pub asks_lines : (before after : Pulling) (piece : PulledPiece) (f : Option SyncError) (due : List ℕ) → (lines : PullsLines before piece after)
    → f ≡ fault_of_pulling after → (start : Meaning) (came : List PulledPiece) (written : List ℕ) → piece.old.config ≡ start.config
    → PullsFrom (PullsNow before) None due start came written → PullsFrom (PullsNow after) f due start (came ++ lines.pieces) written
asks_lines before after piece f due lines fault start came written own h = (
  fault,
  (
    h.1.0,
    elim h.1.1 [
      | inl plain ↦ inl (lines.pulls None start came written own plain)
      | inr marked ↦ inr (record {
        asked = marked.asked;
        later = marked.later ++ lines.pieces;
        order = ap (λ (l : List PulledPiece). l ++ lines.pieces) marked.order ∙ append_assoc marked.asked marked.later lines.pieces;
        quiet = marked.quiet;
        marks = marked.marks;
        all = marked.all;
        bytes = marked.bytes;
        then = marked.then;
        own = marked.own;
        was = marked.was;
        after = marked.after;
        parts = marked.parts;
        pulls = lines.pulls (Some (buckets_asked marked.marks)) marked.then marked.later marked.after (own ∙ sym marked.own) marked.pulls;
      })
    ],
  ),
)

-- Lines of the answers are taken.
pub lines_step : (before after : QuietPulling) (old new : Pulling) (piece : PulledPiece) (r : Result ℕ SyncError) → before.stage ≡ PullsNow old
    → after.stage ≡ PullsNow new → due_question after ≡ due_question before → PullsLines old piece new
    → MatchResult r (λ _. fault_of_pulling new ≡ None) (λ e. fault_of_pulling new ≡ Some e) → StepsQuietly before piece (fault_in r) after
lines_step before after old new piece r was is due lines fault = record {
  pieces = lines.pieces;
  whole = lines.whole;
  alone = lines.alone;
  pulls = λ start came written own h.
      subst (λ (s : Stage). PullsFrom s (fault_in r) (due_question after) start (came ++ lines.pieces) written) (sym is)
      (subst (λ (d : List ℕ). PullsFrom (PullsNow new) (fault_in r) d start (came ++ lines.pieces) written) (sym due)
      (asks_lines old new piece (fault_in r) (due_question before) lines (fault_is r (fault_of_pulling new) fault) start came written own
      (subst (λ (s : Stage). PullsFrom s None (due_question before) start came written) was h)));
}

-- ---- the marks

-- No marks came yet.
pub marks_on : (config : Configuration) (old new : SumsAsking) (due : List ℕ) (m start : Meaning) (came : List PulledPiece) (bytes written : List ℕ)
    → ((l : List ℕ) → HasTakenAnswer config old l → HasTakenAnswer config new (l ++ bytes)) → config ≡ start.config
    → fault_of_answer new ≡ None → marks_answered new ≡ None → IsAskingSums old due start came written
    → IsAskingSums new due start (came ++ quiet_piece bytes m ∷ []) written
marks_on config old new due m start came bytes written on own sound waits asks = record {
  asks = asks.asks;
  takes = subst (HasTakenAnswer start.config new) (sym (bytes_more came (quiet_piece bytes m)))
      (subst (λ (k : Configuration). HasTakenAnswer k new (bytes_pulled came ++ bytes)) own
      (on (bytes_pulled came) (subst (λ (k : Configuration). HasTakenAnswer k old (bytes_pulled came)) (sym own) asks.takes)));
  sound = sound;
  waits = waits;
  quiet = takes_quiet came [] (quiet_piece bytes m) asks.quiet refl;
}

-- A line is not one of the answer.
pub marks_stop : (config : Configuration) (old new : SumsAsking) (due : List ℕ) (m start : Meaning) (came : List PulledPiece) (bytes written : List ℕ)
    (e : SyncError) → ((l : List ℕ) → HasTakenAnswer config old l → HasTakenAnswer config new (l ++ bytes)) → config ≡ start.config
    → fault_of_answer new ≡ Some e → IsAskingSums old due start came written
    → StopsMarks due start (came ++ quiet_piece bytes m ∷ []) written e
marks_stop config old new due m start came bytes written e on own stopped asks = record {
  asks = asks.asks;
  cause = inr (subst (λ (l : List ℕ). StopsAtLine IsLineOfMarks start.config l e) (sym (bytes_more came (quiet_piece bytes m)))
      (subst (λ (k : Configuration). StopsAtLine IsLineOfMarks k (bytes_pulled came ++ bytes) e) own
      (subst (λ (f : Option SyncError). TakesAnswer f config new.answer (kept_part new.part) (bytes_pulled came ++ bytes)) stopped
      (on (bytes_pulled came) (subst (λ (k : Configuration). HasTakenAnswer k old (bytes_pulled came)) (sym own) asks.takes)))));
  quiet = takes_quiet came [] (quiet_piece bytes m) asks.quiet refl;
}

-- Out of memory before the haves.
pub marks_fail : (old : SumsAsking) (due : List ℕ) (m start : Meaning) (came : List PulledPiece) (bytes written : List ℕ) (e : SyncError)
    → e ≡ NoMemory → IsAskingSums old due start came written → StopsMarks due start (came ++ quiet_piece bytes m ∷ []) written e
marks_fail old due m start came bytes written e out asks = record {
  asks = asks.asks;
  cause = inl out;
  quiet = takes_quiet came [] (quiet_piece bytes m) asks.quiet refl;
}

-- All marks came, and the haves begin.
pub marks_end : (config : Configuration) (old new : SumsAsking) (pulling : Pulling) (due : List ℕ) (m start : Meaning) (came : List PulledPiece)
    (bytes written : List ℕ) (marks : List Bool) → ((l : List ℕ) → HasTakenAnswer config old l → HasTakenAnswer config new (l ++ bytes))
    → config ≡ start.config → m.config ≡ start.config → fault_of_answer new ≡ None → marks_answered new ≡ Some marks → due ≡ []
    → HasPulledAbout (Some (buckets_asked marks)) pulling m [] [] → IsAskingSums old due start came written
    → AsksMarked pulling start (came ++ quiet_piece bytes m ∷ []) written
marks_end config old new pulling due m start came bytes written marks on own held sound is idle begins asks =
    let there : HasTakenAnswer start.config new (bytes_pulled came ++ bytes) =
    subst (λ (k : Configuration). HasTakenAnswer k new (bytes_pulled came ++ bytes)) own
    (on (bytes_pulled came) (subst (λ (k : Configuration). HasTakenAnswer k old (bytes_pulled came)) (sym own) asks.takes)) in
    let answer = subst (λ (o : Option (List Bool)). HasAnswerLines o start.config new.answer.is_begun (kept_part new.part) (bytes_pulled came ++ bytes)) is
    (subst (λ (f : Option SyncError). TakesAnswer f start.config new.answer (kept_part new.part) (bytes_pulled came ++ bytes)) sound there) in
    record {
      asked = came ++ quiet_piece bytes m ∷ [];
      later = [];
      order = sym (append-nil (came ++ quiet_piece bytes m ∷ []));
      quiet = takes_quiet came [] (quiet_piece bytes m) asks.quiet refl;
      marks = marks;
      all = answer.all;
      bytes = bytes_more came (quiet_piece bytes m) ∙ answer.bytes;
      then = m;
      own = held;
      was = record { before = came; last = quiet_piece bytes m; order = refl; was = refl };
      after = [];
      parts = sym (append-nil written) ∙ ap (λ (l : List ℕ). written ++ l) (sym idle) ∙ asks.asks
          ∙ sym (append-nil (sums_question start.config (sums_of (state_of start))));
      pulls = begins;
    }

-- They are those of the question, and the buckets are asked about.
pub haves_begin : (config : Configuration) (old new : SumsAsking) (pulling : Pulling) (due : List ℕ) (m start : Meaning) (came : List PulledPiece)
    (bytes written : List ℕ) (marks : List Bool) (buckets : List ℕ) → ((l : List ℕ) → HasTakenAnswer config old l → HasTakenAnswer config new (l ++ bytes))
    → config ≡ m.config → fault_of_answer new ≡ None → marks_answered new ≡ Some marks → buckets ≡ buckets_asked marks → due ≡ []
    → HasPulledAbout (Some buckets) pulling m [] [] → m.config ≡ start.config → IsAskingSums old due start came written
    → PullsFrom (PullsNow pulling) None due start (came ++ quiet_piece bytes m ∷ []) written
haves_begin config old new pulling due m start came bytes written marks buckets on same sound is asked idle begins own asks = (
  sym (begun_sound (Some buckets) pulling m begins),
  (
    idle,
    inr (marks_end config old new pulling due m start came bytes written marks on (same ∙ own) own sound is idle
        (subst (λ (bs : List ℕ). HasPulledAbout (Some bs) pulling m [] []) asked begins) asks),
  ),
)

-- ---- an error

-- After an error haves take nothing more.
about_still : (plan : Option (List ℕ)) (pulling : Pulling) (e : SyncError) (m start : Meaning) (came : List PulledPiece) (bytes written : List ℕ)
    → fault_of_pulling pulling ≡ Some e → HasPulledAbout plan pulling start came written
    → HasPulledAbout plan pulling start (came ++ quiet_piece bytes m ∷ []) written
about_still plan pulling e m start came bytes written stopped h = record {
  plan_is = h.plan_is;
  pulls = pulled_still plan (fault_of_pulling pulling) e (answered_of pulling.plan) pulling.lines start came (kept_answer pulling)
      (written ++ due_have pulling) (quiet_piece bytes m) stopped refl h.pulls;
  taken = taken_same (count_of_pulling pulling) came (quiet_piece bytes m) h.taken refl;
  idle = h.idle;
  ended = h.ended;
}

-- After an error nothing that comes is taken.
pub pull_still : (stage : Stage) (f : Option SyncError) (e : SyncError) (due : List ℕ) (m start : Meaning) (came : List PulledPiece)
    (bytes written : List ℕ) → f ≡ Some e → PullsFrom stage f due start came written
    → PullsFrom stage f due start (came ++ quiet_piece bytes m ∷ []) written
pull_still (Asking asking) None e due m start came bytes written is h = absurd (cc)
pull_still (Asking asking) (Some d) e due m start came bytes written is h = record {
  asks = h.asks;
  cause = elim h.cause [
    | inl memory ↦ inl memory
    | inr line ↦ inr (subst (λ (l : List ℕ). StopsAtLine IsLineOfMarks start.config l d) (sym (bytes_more came (quiet_piece bytes m)))
        (stops_more IsLineOfMarks start.config (bytes_pulled came) bytes d line))
  ];
  quiet = takes_quiet came [] (quiet_piece bytes m) h.quiet refl;
}
pull_still (PullsNow pulling) f e due m start came bytes written is h = (
  h.0,
  (
    h.1.0,
    elim h.1.1 [
      | inl plain ↦ inl (about_still None pulling e m start came bytes written (sym h.0 ∙ is) plain)
      | inr marked ↦ inr (record {
        asked = marked.asked;
        later = marked.later ++ quiet_piece bytes m ∷ [];
        order = ap (λ (l : List PulledPiece). l ++ quiet_piece bytes m ∷ []) marked.order
            ∙ append_assoc marked.asked marked.later (quiet_piece bytes m ∷ []);
        quiet = marked.quiet;
        marks = marked.marks;
        all = marked.all;
        bytes = marked.bytes;
        then = marked.then;
        own = marked.own;
        was = marked.was;
        after = marked.after;
        parts = marked.parts;
        pulls = about_still (Some (buckets_asked marked.marks)) pulling e m marked.then marked.later bytes marked.after (sym h.0 ∙ is) marked.pulls;
      })
    ],
  ),
)

-- ---- what was written

-- No bytes are taken if none came.
take_none : (count : ℕ) → take {A = ℕ} count [] ≡ []
take_none zero = refl
take_none (suc count) = refl

-- What was written of the question is no longer due.
less_due : (written due later all : List ℕ) (count : ℕ) → later ≡ drop count due → written ++ due ≡ all → (written ++ take count due) ++ later ≡ all
less_due written due later all count is whole =
    append_assoc written (take count due) later
    ∙ ap (λ (l : List ℕ). written ++ (take count due ++ l)) is
    ∙ ap (λ (l : List ℕ). written ++ l) (take-append-drop count due) ∙ whole

pub wrote_question : (stage : Stage) (f : Option SyncError) (due later : List ℕ) (start : Meaning) (came : List PulledPiece) (written : List ℕ)
    (count : ℕ) → later ≡ drop count due → (due ≡ [] → ⊥) → PullsFrom stage f due start came written
    → PullsFrom stage f later start came (written ++ take count due)
wrote_question (Asking asking) None due later start came written count is some h = record {
  asks = less_due written due later (sums_question start.config (sums_of (state_of start))) count is h.asks;
  takes = h.takes;
  sound = h.sound;
  waits = h.waits;
  quiet = h.quiet;
}
wrote_question (Asking asking) (Some e) due later start came written count is some h = record {
  asks = less_due written due later (sums_question start.config (sums_of (state_of start))) count is h.asks;
  cause = h.cause;
  quiet = h.quiet;
}
wrote_question (PullsNow pulling) f due later start came written count is some h = absurd (some h.1.0)

-- What was written of a have is no longer due.
pub wrote_haves : (before after : Pulling) (f : Option SyncError) (due bytes : List ℕ) (start : Meaning) (came : List PulledPiece)
    (written : List ℕ) → ((plan : Option (List ℕ)) (from : Meaning) (later : List PulledPiece) (then : List ℕ)
    → HasPulledAbout plan before from later then → HasPulledAbout plan after from later (then ++ bytes))
    → fault_of_pulling after ≡ fault_of_pulling before → PullsFrom (PullsNow before) f due start came written
    → PullsFrom (PullsNow after) f due start came (written ++ bytes)
wrote_haves before after f due bytes start came written on same h = (
  h.0 ∙ sym same,
  (
    h.1.0,
    elim h.1.1 [
      | inl plain ↦ inl (on None start came written plain)
      | inr marked ↦ inr (record {
        asked = marked.asked;
        later = marked.later;
        order = marked.order;
        quiet = marked.quiet;
        marks = marked.marks;
        all = marked.all;
        bytes = marked.bytes;
        then = marked.then;
        own = marked.own;
        was = marked.was;
        after = marked.after ++ bytes;
        parts = ap (λ (l : List ℕ). l ++ bytes) marked.parts
            ∙ append_assoc (sums_question start.config (sums_of (state_of start))) marked.after bytes;
        pulls = on (Some (buckets_asked marked.marks)) marked.then marked.later marked.after marked.pulls;
      })
    ],
  ),
)

-- ---- what is due

-- If nothing of the question is left, what is due is what the stage has.
stage_due : (stage is : Stage) (due : List ℕ) → stage ≡ is → due ≡ [] → first_due due (due_of_stage stage) ≡ due_of_stage is
stage_due stage is due same none = first_none due (due_of_stage stage) none ∙ ap due_of_stage same

pub question_wrote : (stage : Stage) (f : Option SyncError) (text : List ℕ) (from count : ℕ) (start : Meaning) (came : List PulledPiece)
    (written : List ℕ) → from < length text → PullsFrom stage f (drop from text) start came written
    → PullsFrom stage f (drop (from + count) text) start came (written ++ take count (first_due (drop from text) (due_of_stage stage)))
question_wrote stage f text from count start came written less h =
    let some = some_left text from less in
    subst (λ (l : List ℕ). PullsFrom stage f (drop (from + count) text) start came (written ++ take count l))
    (sym (first_some (drop from text) (due_of_stage stage) some))
    (wrote_question stage f (drop from text) (drop (from + count) text) start came written count (sym (drop-drop count from text)) some h)

pub pulling_wrote : (stage : Stage) (before after : Pulling) (f : Option SyncError) (due : List ℕ) (start : Meaning) (came : List PulledPiece)
    (written : List ℕ) (count : ℕ) → stage ≡ PullsNow before → due ≡ []
    → ((plan : Option (List ℕ)) (from : Meaning) (later : List PulledPiece) (then : List ℕ) → HasPulledAbout plan before from later then
    → HasPulledAbout plan after from later (then ++ take count (due_have before)))
    → fault_of_pulling after ≡ fault_of_pulling before → PullsFrom stage f due start came written
    → PullsFrom (PullsNow after) f due start came (written ++ take count (first_due due (due_of_stage stage)))
pulling_wrote stage before after f due start came written count is none on same h =
    subst (λ (l : List ℕ). PullsFrom (PullsNow after) f due start came (written ++ take count l)) (sym (stage_due stage (PullsNow before) due is none))
    (wrote_haves before after f due (take count (due_have before)) start came written on same
    (subst (λ (s : Stage). PullsFrom s f due start came written) is h))

-- A connection that is served: what one call does.
use Rattle.std.proofs.Common.{◌≡◌, ◌∙◌, ℕ, zero, suc, inl, inr, Bool, true, false, not, get_or, List, [], ◌∷◌, ◌++◌, length, take, drop}
use Rattle.std.proofs.Common.{refl, sym, ap, subst, arith, append_assoc, append-nil, take-append-drop}
use Rattle.std.specs.Prelude.{Option, Some, None, Result, Ok, Err, MatchResult}
use Rattle.std.specs.List.{AllByRecursion}
use Rattle.std.proofs.lemmas.Grind.{flat_map-append}
use Rattle.std.proofs.lemmas.List.{take_all}
use Rattle.fed_config.specs.Configuration.{Configuration}
use Rattle.receipt_core.specs.Acceptance.{Meaning}
use Rattle.byte_lines.specs.Lines.{HasNoFeed}
use Rattle.replica_core.specs.Session.{state_of}
use Rattle.replica_core.specs.declared.error.SyncError.{SyncError}
use Rattle.replica_core.specs.declared.error.SyncError.TheVariants.{BadHeader, NoMemory}
use Rattle.replica_core.proofs.RisingListFacts.{all_back}
use Rattle.replica_texts.specs.Snapshots.{ended, text_of_lines}
use Rattle.replica_texts.specs.SoleLines.{RefusesSoleHeader, written_header}
use Rattle.replica_sync.specs.Pieces.{EndsLine, Continues, kept_part, piece_run}
use Rattle.replica_sync.specs.ServedPieces.{Came, HasServedPieces, IsStill, bytes_came, came_taken, due_give, fault_of_serving, kept_have, records_answered}
use Rattle.replica_sync.specs.AnsweredFrom.{answered_from}
use Rattle.replica_sync.specs.declared.line_part.LinePart.{LinePart}
use Rattle.replica_sync.specs.declared.answer_records.AnswerRecords.TheVariants.{All}
use Rattle.replica_sync.specs.declared.piece_serving.Serving.{Serving}
use Rattle.replica_sync.proofs.ServedPieceFacts.{kept_plain, served_nothing, served_still}
use Rattle.bucket_sums.specs.Lines.{IsSumLine, differences, part_count}
use Rattle.bucket_sums.specs.Questions.{IsPlain, StopsAtLine, headed, longest_line, sums_answer}
use Rattle.bucket_sums.specs.Quiet.{AnswersQuestion, EndsFirstLine, IsAnswering, IsAsking, IsOpening, IsServing, OpensPlainly, ServesFrom, StopsOpening}
use Rattle.bucket_sums.specs.RecordsOnce.{has_feed, left_out_if, records_due, shown_at, shown_once}
use Rattle.bucket_sums.specs.Quiet.{fault_in}
use Rattle.bucket_sums.specs.Serving.{HasTakenQuestion, TakesQuestion, fault_of_question, marks_made, own_sums_of}
use Rattle.bucket_sums.specs.Sums.{sums_of}
use Rattle.bucket_sums.specs.Inside.OpeningSteps.{EndsOtherwise}
use Rattle.bucket_sums.specs.declared.quiet_serving.Opening.{Opening}
use Rattle.bucket_sums.specs.declared.quiet_serving.Opening.TheVariants.{FirstLine, Question, Plain, Answered}
use Rattle.bucket_sums.specs.declared.sums_serving.SumsServing.{SumsServing}
use Rattle.bucket_sums.proofs.CompareFacts.{length-differences}
use Rattle.bucket_sums.proofs.OnceFacts.{due_first, shown_more}
use Rattle.bucket_sums.proofs.QuestionFacts.{ended_text, line_feed}

-- ---- what came, and one piece more

-- The bytes of one piece more come last.
pub came_bytes : (came : List Came) (c : Came) → bytes_came (came ++ c ∷ []) ≡ bytes_came came ++ c.bytes
came_bytes came c =
    flat_map-append (λ (d : Came). d.bytes) came (c ∷ []) ∙ ap (λ (l : List ℕ). bytes_came came ++ l) (append-nil c.bytes)

-- With one piece more, the first line ended as before.
ended_on : (came : List Came) (c : Came) (held : Meaning) → EndsFirstLine came held → EndsFirstLine (came ++ c ∷ []) held
ended_on came c held ends = record {
  before = ends.before;
  last = ends.last;
  later = ends.later ++ c ∷ [];
  order = ap (λ (l : List Came). l ++ c ∷ []) ends.order ∙ append_assoc ends.before (ends.last ∷ ends.later) (c ∷ []);
  none = ends.none;
  feed = ends.feed;
  was = ends.was;
}

-- If the same was held while all came, it was held when the first line ended.
pub ended_still : (came : List Came) (held m : Meaning) → EndsFirstLine came held → IsStill m came → held ≡ m
ended_still came held m ends still =
    sym ends.was
    ∙ (all_back (λ (c : Came). c.held ≡ m) ends.before (ends.last ∷ ends.later)
    (subst (AllByRecursion (λ (c : Came). c.held ≡ m)) ends.order still)).0

-- what was held when the bytes of a call came
held_then : (piece : List ℕ) (m : Meaning) (r : Result ℕ SyncError) → (came_taken piece m r).held ≡ m
held_then piece m (Ok used) = refl
held_then piece m (Err e) = refl

-- The error of haves is the one that a call returns.
pub fault_is : (r : Result ℕ SyncError) (f : Option SyncError) → MatchResult r (λ _. f ≡ None) (λ e. f ≡ Some e) → fault_in r ≡ f
fault_is (Ok used) f h = sym h
fault_is (Err e) f h = sym h

-- ---- an error

-- An error in what came is one in all that comes.
pub stops_more : (IsLine : List ℕ → Type 0) (config : Configuration) (came more : List ℕ) (e : SyncError) → StopsAtLine IsLine config came e
    → StopsAtLine IsLine config (came ++ more) e
stops_more IsLine config came more e stops = record {
  begun = stops.begun;
  lines = stops.lines;
  each = stops.each;
  text = stops.text;
  plain = stops.plain;
  rest = stops.rest ++ more;
  bytes = ap (λ (l : List ℕ). l ++ more) stops.bytes
      ∙ append_assoc (text_of_lines (headed config stops.begun stops.lines)) (stops.text ++ stops.rest) more
      ∙ ap (λ (l : List ℕ). text_of_lines (headed config stops.begun stops.lines) ++ l) (append_assoc stops.text stops.rest more);
  cause = elim stops.cause [
    | inl memory ↦ inl memory
    | inr why ↦ inr (elim why [
      | inl long ↦ inl long
      | inr line ↦ inr (record { after = line.0.after ++ more; feed = ap (λ (l : List ℕ). l ++ more) line.0.feed }, line.1)
    ])
  ];
}

-- After an error haves take nothing more.
haves_still : (haves : Serving) (e : SyncError) (came : List Came) (c : Came) (written : List ℕ) → fault_of_serving haves ≡ Some e
    → HasServedPieces haves came written → HasServedPieces haves (came ++ c ∷ []) written
haves_still haves e came c written stopped serves =
    served_still (fault_of_serving haves) e came c (kept_have haves) (written ++ due_give haves) stopped serves

-- After an error before the haves nothing that comes is taken.
opening_still : (config : Configuration) (haves : Serving) (due : List ℕ) (came : List Came) (c : Came) (written : List ℕ) (e : SyncError)
    → StopsOpening config haves due came written e → StopsOpening config haves due (came ++ c ∷ []) written e
opening_still config haves due came c written e stops = record {
  cause = elim stops.cause [
    | inl memory ↦ inl memory
    | inr why ↦ inr (elim why [
      | inl line ↦ inl (subst (λ (l : List ℕ). StopsAtLine IsSumLine config l e) (sym (came_bytes came c))
          (stops_more IsSumLine config (bytes_came came) c.bytes e line))
      | inr have ↦ inr (have.0, haves_still haves e came c written have.0 have.1)
    ])
  ];
  idle = stops.idle;
  none = stops.none;
  none_due = stops.none_due;
}

-- If the first line is another one, it is another one later too.
plainly_on : (config : Configuration) (later : List Came) (c : Came) → OpensPlainly config later → OpensPlainly config (later ++ c ∷ [])
plainly_on config later c opens = record {
  before = opens.before;
  shows = opens.shows;
  others = opens.others ++ c ∷ [];
  order = ap (λ (l : List Came). l ++ c ∷ []) opens.order ∙ append_assoc opens.before (opens.shows ∷ opens.others) (c ∷ []);
  piece = opens.piece;
  used = opens.used;
  bytes = opens.bytes;
  is = opens.is;
}

-- One more piece is given to the haves, of which each answer has all records.
pub serves_on : (config : Configuration) (haves then : Serving) (due : List ℕ) (came : List Came) (c : Came) (written : List ℕ)
    → (HasServedPieces haves came written → HasServedPieces then (came ++ c ∷ []) written) → records_answered then ≡ records_answered haves
    → IsServing config haves due came written → IsServing config then due (came ++ c ∷ []) written
serves_on config haves then due came c written on same serving = record {
  opens = plainly_on config came c serving.opens;
  all = same ∙ serving.all;
  none_due = serving.none_due;
  serves = on serving.serves;
}

-- which records are due after these bytes of haves, while there is no error
abbrev pub HasDue : Serving → Bool → List ℕ → Type 0
HasDue haves differ before = fault_of_serving haves ≡ None → records_answered haves ≡ records_due differ (has_feed before)

-- One more piece is given to the haves after a question.
pub answers_on : (config : Configuration) (haves then : Serving) (due : List ℕ) (came : List Came) (c : Came) (written : List ℕ)
    → ((seen : List Came) (after : List ℕ) (differ : Bool) (before : List ℕ) → HasDue haves differ before → HasServedPieces haves seen after
    → HasServedPieces then (seen ++ shown_at differ before c ∷ []) after)
    → ((differ : Bool) (before : List ℕ) → HasDue haves differ before → HasDue then differ (before ++ c.bytes))
    → IsAnswering config haves due came written → IsAnswering config then due (came ++ c ∷ []) written
answers_on config haves then due came c written on next h = record {
  asked = h.asked;
  later = h.later ++ c ∷ [];
  order = ap (λ (l : List Came). l ++ c ∷ []) h.order ∙ append_assoc h.asked h.later (c ∷ []);
  front = h.front;
  after = h.after;
  parts = h.parts;
  differ = h.differ;
  question = h.question;
  waits = h.waits;
  serves = subst (λ (l : List Came). HasServedPieces then l h.after) (sym (shown_more h.differ [] h.later c))
      (on (shown_once h.differ [] h.later) h.after h.differ (bytes_came h.later) h.records h.serves);
  records = λ sound. next h.differ (bytes_came h.later) h.records sound
      ∙ ap (λ (l : List ℕ). records_due h.differ (has_feed l)) (sym (came_bytes h.later c));
}

-- After an error nothing that comes is taken.
pub quiet_still : (o : Opening) (f : Option SyncError) (why : SyncError) (config : Configuration) (haves : Serving) (due : List ℕ) (came : List Came)
    (c : Came) (written : List ℕ) → f ≡ Some why → ServesFrom o f config haves due came written
    → ServesFrom o f config haves due (came ++ c ∷ []) written
quiet_still (FirstLine part) None why config haves due came c written is h = absurd (cc)
quiet_still (FirstLine part) (Some e) why config haves due came c written is h = opening_still config haves due came c written e h
quiet_still (Question question) None why config haves due came c written is h = absurd (cc)
quiet_still (Question question) (Some e) why config haves due came c written is h = opening_still config haves due came c written e h
quiet_still Plain f why config haves due came c written is h = (
  h.0,
  serves_on config haves haves due came c written (λ serves. haves_still haves why came c written (sym h.0 ∙ is) serves) refl h.1,
)
quiet_still Answered f why config haves due came c written is h = (
  h.0,
  answers_on config haves haves due came c written
      (λ seen after differ before has serves. haves_still haves why seen (shown_at differ before c) after (sym h.0 ∙ is) serves)
      (λ differ before has sound. absurd (let stopped = sym h.0 ∙ is in cc)) h.1,
)

-- ---- nothing is taken

-- Haves of which nothing is taken are as they were.
haves_wait : (haves : Serving) (m : Meaning) (came : List Came) (written : List ℕ) → fault_of_serving haves ≡ None
    → HasServedPieces haves came written → HasServedPieces haves (came ++ record { bytes = []; held = m } ∷ []) written
haves_wait haves m came written sound serves =
    served_nothing (fault_of_serving haves) came (kept_have haves) [] (written ++ due_give haves) m sound refl
    (kept_plain haves.part.has_ended haves.part.line.items haves.part.unbroken) serves

-- If nothing is taken, the session is unchanged.
pub quiet_nothing : (o : Opening) (f : Option SyncError) (config : Configuration) (haves : Serving) (due : List ℕ) (m : Meaning) (came : List Came)
    (written : List ℕ) → f ≡ None → ServesFrom o f config haves due came written
    → ServesFrom o f config haves due (came ++ record { bytes = []; held = m } ∷ []) written
quiet_nothing (FirstLine part) None config haves due m came written sound h = record {
  serves = haves_wait haves m came written h.sound h.serves;
  sound = h.sound;
  idle = h.idle;
  bytes = came_bytes came (record { bytes = []; held = m }) ∙ append-nil (bytes_came came) ∙ h.bytes;
  none = h.none;
  none_due = h.none_due;
  all = h.all;
}
quiet_nothing (FirstLine part) (Some e) config haves due m came written sound h = absurd (cc)
quiet_nothing (Question question) None config haves due m came written sound h = record {
  held = h.held;
  was = ended_on came (record { bytes = []; held = m }) h.held h.was;
  sums = h.sums;
  takes = subst (HasTakenQuestion config question) (sym (came_bytes came (record { bytes = []; held = m }) ∙ append-nil (bytes_came came))) h.takes;
  sound = h.sound;
  serves = h.serves;
  ready = h.ready;
  idle = h.idle;
  none = h.none;
  none_due = h.none_due;
  all = h.all;
}
quiet_nothing (Question question) (Some e) config haves due m came written sound h = absurd (cc)
quiet_nothing Plain f config haves due m came written sound h = (
  h.0,
  serves_on config haves haves due came (record { bytes = []; held = m }) written
      (λ serves. haves_wait haves m came written (sym h.0 ∙ sound) serves) refl h.1,
)
quiet_nothing Answered f config haves due m came written sound h = (
  h.0,
  answers_on config haves haves due came (record { bytes = []; held = m }) written
      (λ seen after differ before has serves.
      haves_wait haves (answered_from (records_due differ (has_feed before)) m) seen after (sym h.0 ∙ sound) serves)
      (λ differ before has calm. has calm ∙ ap (λ (l : List ℕ). records_due differ (has_feed l)) (sym (append-nil before))) h.1,
)

-- ---- the first line

-- the bytes that a call took, as a beginning of its piece
abbrev taken_of : List ℕ → Result ℕ SyncError → ℕ
taken_of piece (Ok used) = used
taken_of piece (Err e) = length piece

taken_is : (piece : List ℕ) (m : Meaning) (r : Result ℕ SyncError) → (came_taken piece m r).bytes ≡ take (taken_of piece r) piece
taken_is piece m (Ok used) = refl
taken_is piece m (Err e) = sym (take_all (length piece) piece (omega arith))

-- A line that ended and is another one is not that of a question.
pub plain_line : (config : Configuration) (old piece text : List ℕ) (used : ℕ) → EndsLine (piece_run longest_line old piece) used text
    → RefusesSoleHeader config text BadHeader → IsPlain config (old ++ piece)
plain_line config old piece text used ends why = record {
  text = text;
  rest = 10 ∷ drop used piece;
  plain = ends.plain;
  parts = ended_text old piece text used ends.parts;
  cause = inr (record { after = drop used piece; feed = refl }, why);
}

-- From here on haves come.
pub opened_haves : (config : Configuration) (then : Serving) (due : List ℕ) (m : Meaning) (came : List Came) (old piece : List ℕ)
    (r : Result ℕ SyncError) (written : List ℕ) → due ≡ [] → bytes_came came ≡ old → IsPlain config (old ++ piece) → records_answered then ≡ All
    → HasServedPieces then (came ++ came_taken piece m r ∷ []) written → IsServing config then due (came ++ came_taken piece m r ∷ []) written
opened_haves config then due m came old piece r written idle bytes plain all serves = record {
  opens = record {
    before = came;
    shows = came_taken piece m r;
    others = [];
    order = refl;
    piece = piece;
    used = taken_of piece r;
    bytes = taken_is piece m r;
    is = subst (λ (l : List ℕ). IsPlain config (l ++ piece)) (sym bytes) plain;
  };
  all = all;
  none_due = idle;
  serves = serves;
}

-- The first line continues.
pub opens_on : (old : List ℕ) (part : LinePart) (then : Serving) (due : List ℕ) (m : Meaning) (came : List Came) (piece : List ℕ) (used : ℕ)
    (written : List ℕ) → Continues (piece_run longest_line old piece) (kept_part part) → used ≡ length piece → bytes_came came ≡ old
    → written ≡ [] → due ≡ [] → fault_of_serving then ≡ None → due_give then ≡ [] → records_answered then ≡ All
    → HasServedPieces then (came ++ record { bytes = take used piece; held = m } ∷ []) written
    → IsOpening part then due (came ++ record { bytes = take used piece; held = m } ∷ []) written
opens_on old part then due m came piece used written goes all bytes none none_due sound idle records serves = record {
  serves = serves;
  sound = sound;
  idle = idle;
  bytes = came_bytes came (record { bytes = take used piece; held = m })
      ∙ ap (λ (l : List ℕ). l ++ take used piece) bytes
      ∙ ap (λ (l : List ℕ). old ++ l) (take_all used piece (let e = all in omega (arith, e)))
      ∙ sym goes.kept;
  none = none;
  none_due = none_due;
  all = records;
}

-- The first line is that of a question.
pub opens_question : (config : Configuration) (question : SumsServing) (then : Serving) (due : List ℕ) (m : Meaning) (came : List Came)
    (old piece : List ℕ) (used : ℕ) (written : List ℕ) → EndsLine (piece_run longest_line old piece) used (written_header config)
    → HasNoFeed old → bytes_came came ≡ old → written ≡ [] → due ≡ [] → HasTakenQuestion config question (ended (written_header config))
    → own_sums_of question ≡ sums_of (state_of m) → fault_of_question question ≡ None → HasServedPieces then [] []
    → fault_of_serving then ≡ None → due_give then ≡ [] → records_answered then ≡ All
    → IsAsking config question then due (came ++ record { bytes = take used piece; held = m } ∷ []) written
opens_question config question then due m came old piece used written ends plain bytes none none_due takes own sound serves ready idle records = record {
  held = m;
  was = record {
    before = came;
    last = record { bytes = take used piece; held = m };
    later = [];
    order = refl;
    none = subst HasNoFeed (sym bytes) plain;
    feed = line_feed old piece (written_header config) used ends;
    was = refl;
  };
  sums = own;
  takes = subst (HasTakenQuestion config question)
      (sym (came_bytes came (record { bytes = take used piece; held = m }) ∙ ap (λ (l : List ℕ). l ++ take used piece) bytes ∙ ends.parts)) takes;
  sound = sound;
  serves = serves;
  ready = ready;
  idle = idle;
  none = none;
  none_due = none_due;
  all = records;
}

-- The first line is that of a question of another configuration, or in another format.
pub opens_otherwise : (config : Configuration) (haves : Serving) (due : List ℕ) (m : Meaning) (came : List Came) (old piece written : List ℕ)
    (e : SyncError) → EndsOtherwise config old piece e → bytes_came came ≡ old → written ≡ [] → due ≡ []
    → due_give haves ≡ [] → StopsOpening config haves due (came ++ record { bytes = piece; held = m } ∷ []) written e
opens_otherwise config haves due m came old piece written e other bytes none none_due idle = record {
  cause = inr (inl (record {
    begun = false;
    lines = [];
    each = tt;
    text = other.text;
    plain = other.ends.plain;
    rest = 10 ∷ drop other.used piece;
    bytes = came_bytes came (record { bytes = piece; held = m }) ∙ ap (λ (l : List ℕ). l ++ piece) bytes
        ∙ ended_text old piece other.text other.used other.ends.parts;
    cause = inr (inr (record { after = drop other.used piece; feed = refl }, other.cause));
  }));
  idle = idle;
  none = none;
  none_due = none_due;
}

-- ---- the question

-- The question continues.
pub asks_on : (config : Configuration) (question then : SumsServing) (haves : Serving) (due : List ℕ) (m : Meaning) (came : List Came)
    (piece : List ℕ) (used : ℕ) (written : List ℕ)
    → ((bytes : List ℕ) → HasTakenQuestion config question bytes → HasTakenQuestion config then (bytes ++ take used piece))
    → own_sums_of then ≡ own_sums_of question → fault_of_question then ≡ None → IsAsking config question haves due came written
    → IsAsking config then haves due (came ++ record { bytes = take used piece; held = m } ∷ []) written
asks_on config question then haves due m came piece used written on own sound asks = record {
  held = asks.held;
  was = ended_on came (record { bytes = take used piece; held = m }) asks.held asks.was;
  sums = own ∙ asks.sums;
  takes = subst (HasTakenQuestion config then) (sym (came_bytes came (record { bytes = take used piece; held = m }))) (on (bytes_came came) asks.takes);
  sound = sound;
  serves = asks.serves;
  ready = asks.ready;
  idle = asks.idle;
  none = asks.none;
  none_due = asks.none_due;
  all = asks.all;
}

-- A line of the question is not one of a sum.
pub asks_stops : (config : Configuration) (question then : SumsServing) (haves : Serving) (due : List ℕ) (m : Meaning) (came : List Came)
    (piece written : List ℕ) (e : SyncError)
    → ((bytes : List ℕ) → HasTakenQuestion config question bytes → HasTakenQuestion config then (bytes ++ piece))
    → fault_of_question then ≡ Some e → IsAsking config question haves due came written
    → StopsOpening config haves due (came ++ record { bytes = piece; held = m } ∷ []) written e
asks_stops config question then haves due m came piece written e on stopped asks = record {
  cause = inr (inl (subst (λ (l : List ℕ). StopsAtLine IsSumLine config l e) (sym (came_bytes came (record { bytes = piece; held = m })))
      (subst (λ (f : Option SyncError). TakesQuestion f config then.question (kept_part then.part) (bytes_came came ++ piece)) stopped
      (on (bytes_came came) asks.takes))));
  idle = asks.idle;
  none = asks.none;
  none_due = asks.none_due;
}

-- A question with a line of a sum has its first line.
asked_begun : (begun : Bool) (lines : List (List ℕ)) → (begun ≡ false → lines ≡ []) → length lines ≡ part_count → begun ≡ true
asked_begun true lines none all = refl
asked_begun false lines none all = absurd (let short = ap length (none refl) in omega (arith, short, all))

-- The question ended, and its answer is to be written.
pub asks_end : (config : Configuration) (question : SumsServing) (haves then : Serving) (due marks : List ℕ) (came : List Came) (written : List ℕ)
    (differ : Bool) → length (marks_made question) ≡ part_count → length (own_sums_of question) ≡ part_count
    → marks ≡ sums_answer config (marks_made question) → differ ≡ get_or (marks_made question) 0 true
    → (HasServedPieces haves [] [] → HasServedPieces then [] []) → records_answered then ≡ left_out_if (not differ) (records_answered haves)
    → IsAsking config question haves due came written → IsAnswering config then marks came written
asks_end config question haves then due marks came written differ all sums is first keeps left asks =
    let part = subst (λ (f : Option SyncError). TakesQuestion f config question.question (kept_part question.part) (bytes_came came)) asks.sound asks.takes in
    let few = part.few in
    let count : length (marks_made question) ≡ length part.lines =
    ap length part.marks ∙ length-differences part.lines (own_sums_of question) (omega (arith, few, sums)) in
    let begun = asked_begun question.question.is_begun part.lines (λ no. part.none no) (omega (arith, count, all)) in
    let marked : marks_made question ≡ differences part.lines (sums_of (state_of asks.held)) =
    part.marks ∙ ap (differences part.lines) asks.sums in
    record {
      asked = came;
      later = [];
      order = sym (append-nil came);
      front = [];
      after = [];
      parts = asks.none;
      differ = differ;
      question = record {
        held = asks.held;
        was = asks.was;
        lines = part.lines;
        each = part.each;
        all = omega (arith, count, all);
        bytes = part.bytes ∙ ap (λ (b : Bool). text_of_lines (headed config b part.lines) ++ kept_part question.part) begun
            ∙ ap (λ (l : List ℕ). text_of_lines (written_header config ∷ part.lines) ++ l) (part.whole all)
            ∙ append-nil (text_of_lines (written_header config ∷ part.lines));
        said_is = is ∙ ap (sums_answer config) marked;
        records = first ∙ ap (λ (ms : List Bool). get_or ms 0 true) marked;
      };
      waits = λ some. refl;
      serves = keeps asks.serves;
      records = λ sound. left ∙ ap (left_out_if (not differ)) asks.all ∙ due_first differ;
    }

-- Out of memory before the haves.
pub opening_fails : (config : Configuration) (haves : Serving) (due : List ℕ) (came : List Came) (c : Came) (written : List ℕ) (e : SyncError)
    → e ≡ NoMemory → written ≡ [] → due ≡ [] → due_give haves ≡ [] → StopsOpening config haves due (came ++ c ∷ []) written e
opening_fails config haves due came c written e out none none_due idle =
    record { cause = inl out; idle = idle; none = none; none_due = none_due }

-- There is an error of haves before the first line ended.
pub opening_have_fails : (config : Configuration) (haves : Serving) (due : List ℕ) (came : List Came) (c : Came) (written : List ℕ) (e : SyncError)
    → fault_of_serving haves ≡ Some e → HasServedPieces haves (came ++ c ∷ []) written → written ≡ [] → due ≡ []
    → due_give haves ≡ [] → StopsOpening config haves due (came ++ c ∷ []) written e
opening_have_fails config haves due came c written e stopped serves none none_due idle = record {
  cause = inr (inr (stopped, serves));
  idle = idle;
  none = none;
  none_due = none_due;
}

-- ---- what was written

-- No bytes are taken if none came.
take_none : (count : ℕ) → take {A = ℕ} count [] ≡ []
take_none zero = refl
take_none (suc count) = refl

drop_none : (count : ℕ) → drop {A = ℕ} count [] ≡ []
drop_none zero = refl
drop_none (suc count) = refl

-- What was written of the marks is no longer due.
marks_wrote : (config : Configuration) (haves : Serving) (due later : List ℕ) (came : List Came) (written : List ℕ) (count : ℕ)
    → later ≡ drop count due → (due ≡ [] → ⊥) → IsAnswering config haves due came written
    → IsAnswering config haves later came (written ++ take count due)
marks_wrote config haves due later came written count is some h =
    let none : h.after ≡ [] = h.waits some in
    let all : (h.front ++ take count due) ++ later ≡ h.front ++ due =
    append_assoc h.front (take count due) later
    ∙ ap (λ (l : List ℕ). h.front ++ (take count due ++ l)) is
    ∙ ap (λ (l : List ℕ). h.front ++ l) (take-append-drop count due) in
    record {
      asked = h.asked;
      later = h.later;
      order = h.order;
      front = h.front ++ take count due;
      after = h.after;
      parts = ap (λ (l : List ℕ). l ++ take count due)
          (h.parts ∙ ap (λ (l : List ℕ). h.front ++ l) none ∙ append-nil h.front)
          ∙ sym (append-nil (h.front ++ take count due))
          ∙ ap (λ (l : List ℕ). (h.front ++ take count due) ++ l) (sym none);
      differ = h.differ;
      question = subst (λ (l : List ℕ). AnswersQuestion config h.asked l h.differ) (sym all) h.question;
      waits = λ more. none;
      serves = h.serves;
      records = h.records;
    }

pub quiet_wrote_marks : (o : Opening) (f : Option SyncError) (config : Configuration) (haves : Serving) (due later : List ℕ) (came : List Came)
    (written : List ℕ) (count : ℕ) → later ≡ drop count due → (due ≡ [] → ⊥) → ServesFrom o f config haves due came written
    → ServesFrom o f config haves later came (written ++ take count due)
quiet_wrote_marks (FirstLine part) None config haves due later came written count is some h = absurd (some h.none_due)
quiet_wrote_marks (FirstLine part) (Some e) config haves due later came written count is some h = absurd (some h.none_due)
quiet_wrote_marks (Question question) None config haves due later came written count is some h = absurd (some h.none_due)
quiet_wrote_marks (Question question) (Some e) config haves due later came written count is some h = absurd (some h.none_due)
quiet_wrote_marks Plain f config haves due later came written count is some h = absurd (some h.1.none_due)
quiet_wrote_marks Answered f config haves due later came written count is some h =
    (h.0, marks_wrote config haves due later came written count is some h.1)

-- What was written of the haves' answers is no longer due.
haves_wrote : (config : Configuration) (haves then : Serving) (due : List ℕ) (came : List Came) (written : List ℕ) (count : ℕ)
    → (HasServedPieces haves came written → HasServedPieces then came (written ++ take count (due_give haves)))
    → records_answered then ≡ records_answered haves → IsServing config haves due came written
    → IsServing config then due came (written ++ take count (due_give haves))
haves_wrote config haves then due came written count on same serving = record {
  opens = serving.opens;
  all = same ∙ serving.all;
  none_due = serving.none_due;
  serves = on serving.serves;
}

-- The same after a question.
answers_wrote : (config : Configuration) (haves then : Serving) (due : List ℕ) (came : List Came) (written : List ℕ) (count : ℕ)
    → due ≡ [] → ((later : List Came) (after : List ℕ) → HasServedPieces haves later after
    → HasServedPieces then later (after ++ take count (due_give haves))) → records_answered then ≡ records_answered haves
    → fault_of_serving then ≡ fault_of_serving haves → IsAnswering config haves due came written
    → IsAnswering config then due came (written ++ take count (due_give haves))
answers_wrote config haves then due came written count none on same fault h = record {
  asked = h.asked;
  later = h.later;
  order = h.order;
  front = h.front;
  after = h.after ++ take count (due_give haves);
  parts = ap (λ (l : List ℕ). l ++ take count (due_give haves)) h.parts
      ∙ append_assoc h.front h.after (take count (due_give haves));
  differ = h.differ;
  question = h.question;
  waits = λ some. absurd (some none);
  serves = on (shown_once h.differ [] h.later) h.after h.serves;
  records = λ sound. same ∙ h.records (sym fault ∙ sound);
}

-- If nothing is due, nothing more is written.
none_written : (written due : List ℕ) (count : ℕ) → due ≡ [] → written ≡ [] → written ++ take count due ≡ []
none_written written due count none is =
    ap (λ (l : List ℕ). l ++ take count due) is ∙ ap (take count) none ∙ take_none count

stops_wrote : (config : Configuration) (haves then : Serving) (due : List ℕ) (came : List Came) (written : List ℕ) (count : ℕ) (e : SyncError)
    → ((later : List Came) (after : List ℕ) → HasServedPieces haves later after
    → HasServedPieces then later (after ++ take count (due_give haves)))
    → fault_of_serving then ≡ fault_of_serving haves → due_give then ≡ [] → StopsOpening config haves due came written e
    → StopsOpening config then due came (written ++ take count (due_give haves)) e
stops_wrote config haves then due came written count e on same idle stops = record {
  cause = elim stops.cause [
    | inl memory ↦ inl memory
    | inr why ↦ inr (elim why [
      | inl line ↦ inl line
      | inr have ↦ inr (same ∙ have.0, on came written have.1)
    ])
  ];
  idle = idle;
  none = none_written written (due_give haves) count stops.idle stops.none;
  none_due = stops.none_due;
}

pub quiet_wrote_haves : (o : Opening) (f : Option SyncError) (config : Configuration) (haves then : Serving) (due : List ℕ) (came : List Came)
    (written : List ℕ) (count : ℕ) → due ≡ [] → ((later : List Came) (after : List ℕ) → HasServedPieces haves later after
    → HasServedPieces then later (after ++ take count (due_give haves)))
    → fault_of_serving then ≡ fault_of_serving haves → records_answered then ≡ records_answered haves
    → due_give then ≡ drop count (due_give haves) → ServesFrom o f config haves due came written
    → ServesFrom o f config then due came (written ++ take count (due_give haves))
quiet_wrote_haves (FirstLine part) None config haves then due came written count none on same records left h = record {
  serves = on came written h.serves;
  sound = same ∙ h.sound;
  idle = left ∙ ap (drop count) h.idle ∙ drop_none count;
  bytes = h.bytes;
  none = none_written written (due_give haves) count h.idle h.none;
  none_due = none;
  all = records ∙ h.all;
}
quiet_wrote_haves (FirstLine part) (Some e) config haves then due came written count none on same records left h =
    stops_wrote config haves then due came written count e on same (left ∙ ap (drop count) h.idle ∙ drop_none count) h
quiet_wrote_haves (Question question) None config haves then due came written count none on same records left h = record {
  held = h.held;
  was = h.was;
  sums = h.sums;
  takes = h.takes;
  sound = h.sound;
  serves = subst (HasServedPieces then []) (ap (take count) h.idle ∙ take_none count) (on [] [] h.serves);
  ready = same ∙ h.ready;
  idle = left ∙ ap (drop count) h.idle ∙ drop_none count;
  none = none_written written (due_give haves) count h.idle h.none;
  none_due = none;
  all = records ∙ h.all;
}
quiet_wrote_haves (Question question) (Some e) config haves then due came written count none on same records left h =
    stops_wrote config haves then due came written count e on same (left ∙ ap (drop count) h.idle ∙ drop_none count) h
quiet_wrote_haves Plain f config haves then due came written count none on same records left h =
    (h.0 ∙ sym same, haves_wrote config haves then due came written count (on came written) records h.1)
quiet_wrote_haves Answered f config haves then due came written count none on same records left h =
    (h.0 ∙ sym same, answers_wrote config haves then due came written count none on records same h.1)

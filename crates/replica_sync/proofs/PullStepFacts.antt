-- What one call does to a session that pulls.
use Rattle.std.proofs.Common.{◌≡◌, ◌≢◌, ℕ, zero, suc, ◌+◌, ◌-◌, ◌<◌, ◌≤◌, ◌⊎◌, inl, inr, Bool, true, false, if◌then◌else◌, List, [], ◌∷◌, ◌++◌}
use Rattle.std.proofs.Common.{length, take, drop}
use Rattle.std.proofs.Common.{Option, None, Some, refl, sym, ap, ◌∙◌, subst, append_assoc, append-nil, length-append, take-append-drop, length-take, arith}
use Rattle.std.specs.List.{flat_map}
use Rattle.std.specs.Prelude.{◌↔◌, MatchOption}
use Rattle.std.proofs.lemmas.Bool.{cases_eq}
use Rattle.std.proofs.lemmas.List.{take_all}
use Rattle.std.proofs.lemmas.List.Elements.{All-append, All-nil}
use Rattle.fed_config.specs.Configuration.{Configuration}
use Rattle.receipt_core.specs.Acceptance.{Meaning}
use Rattle.byte_lines.specs.Limits.{line_limit}
use Rattle.byte_lines.specs.Lines.{HasLine, HasNoFeed}
use Rattle.replica_core.specs.Session.{have_of}
use Rattle.replica_core.specs.State.{State, no_state}
use Rattle.replica_core.specs.declared.error.SyncError.{SyncError}
use Rattle.replica_core.specs.declared.error.SyncError.TheVariants.{BadHeader, ConfigDiffers, VersionDiffers, NotCanonical, NotRising, BadCount, Truncated}
use Rattle.replica_core.specs.declared.error.SyncError.TheVariants.{Refused, Io, NoMemory}
use Rattle.replica_texts.specs.Entries.{PlacedLine, RefusesEntryLine, placed_line}
use Rattle.replica_texts.specs.FirstLines.{Expected, RefusesGiveLine}
use Rattle.replica_sync.specs.Pulling.{IsGiveAbout}
use Rattle.replica_texts.specs.Gives.{GiveBegins, Heads, RefusesHead, RefusesNextEntry, Wants, content_lines, next_entry_number}
use Rattle.replica_texts.specs.Messages.{have_text}
use Rattle.replica_texts.specs.Snapshots.{ended, last_of, text_of_lines}
use Rattle.replica_texts.specs.declared.entry_line.Wanted.{Wanted}
use Rattle.replica_texts.specs.declared.entry_line.Wanted.TheVariants.{Records, Receipts}
use Rattle.replica_sync.proofs.TakingFacts.{wants}
use Rattle.replica_sync.specs.Pieces.{EndsLine, piece_run}
use Rattle.replica_sync.specs.Plans.{answered_of, bucket_at, asked_count, plan_of}
use Rattle.replica_sync.specs.PulledPieces.{IsPulledGive, PulledGive, PulledGives, PulledPiece, bytes_pulled, lines_pulled, receipts_pulled}
use Rattle.replica_sync.specs.PullSessions.{ContinuesPulling, HasLinesOf, HasNoLineOf, HasPartOf, PullsPieces, StopsAnswer}
use Rattle.replica_sync.specs.PullSessions.{EndsInFeed, StopsAsking, StopsAt, StopsInGive, StopsNow, refused_where}
use Rattle.replica_sync.specs.Inside.AnswerSteps.{HasNoLines, HasSameCountsBut}
use Rattle.replica_sync.specs.Inside.AnswerSteps.{Asks, EndsAnswer, FailsPulled, ContinuesAfter, IsNextAt, LineLeft, PassesOn, PullState, RefusesAnswerLine}
use Rattle.replica_sync.specs.Inside.AnswerSteps.{RefusesAsking, RefusesEnded, RefusesLong, RefusesPulled, StaysWithin, TakesAnswerLine, TakesPulled, WaitsOn}
use Rattle.replica_sync.specs.Inside.NextLines.{IsNextOf, RefusesHere}
use Rattle.replica_sync.specs.declared.answer_lines.AnswerLines.{AnswerLines}
use Rattle.replica_sync.proofs.CutFacts.{ended_split}
use Rattle.replica_sync.proofs.FeedSearch.{feed_after, overlong_now}
use Rattle.replica_sync.proofs.PulledPieceFacts.{LinesCame, answer_whole, asked_more, bytes_more, give_with, haves_whole, line_came, lines_then}
use Rattle.replica_sync.proofs.PulledPieceFacts.{part_within, pulled_more, receipts_more, takes_quiet, whole_more}

-- ---- nothing is taken

-- A piece without a byte changes nothing.
none_more : (later : List PulledPiece) (c : PulledPiece) → c.bytes ≡ [] → bytes_pulled later ≡ [] → bytes_pulled (later ++ c ∷ []) ≡ []
none_more later c none before = bytes_more later c ∙ ap (λ (l : List ℕ). l ++ c.bytes) before ∙ none

-- If nothing is taken, the session is as it was.
pub pulled_nothing : (plan : Option (List ℕ)) (f : Option SyncError) (answered : ℕ) (lines : AnswerLines) (start : Meaning) (came : List PulledPiece)
    (rest output : List ℕ) (c : PulledPiece)
    → f ≡ None → c.bytes ≡ [] → c.new ≡ c.old → PullsPieces plan f answered lines start came rest output
    → PullsPieces plan f answered lines start (came ++ c ∷ []) rest output
pulled_nothing plan None answered lines start came rest output c sound none quiet (inl on) = inl (record {
  gives = on.gives;
  later = on.later ++ c ∷ [];
  whole = pulled_more plan start came on.gives on.later c on.whole;
  few = on.few;
  number = on.number;
  bucket = on.bucket;
  below = on.below;
  part = subst (HasPartOf start.config lines (lines_pulled on.gives) (on.later ++ c ∷ [])) (ap (λ (l : List ℕ). rest ++ l) none ∙ append-nil rest)
      (part_within start.config lines (lines_pulled on.gives) on.later rest c quiet on.part);
  asked = on.asked;
})
pulled_nothing plan None answered lines start came rest output c sound none quiet (inr all) = inr (record {
  gives = all.gives;
  later = all.later ++ c ∷ [];
  whole = pulled_more plan start came all.gives all.later c all.whole;
  all = all.all;
  bucket = all.bucket;
  none = none_more all.later c none all.none;
  takes = takes_quiet all.later [] c all.takes quiet;
  asked = all.asked;
})
pulled_nothing plan (Some e) answered lines start came rest output c sound none quiet pulls = absurd (cc)

-- After an error nothing is taken, whatever comes.
pub pulled_still : (plan : Option (List ℕ)) (f : Option SyncError) (why : SyncError) (answered : ℕ) (lines : AnswerLines) (start : Meaning)
    (came : List PulledPiece) (rest output : List ℕ) (c : PulledPiece) → f ≡ Some why → c.new ≡ c.old → PullsPieces plan f answered lines start came rest output
    → PullsPieces plan f answered lines start (came ++ c ∷ []) rest output
pulled_still plan None why answered lines start came rest output c stopped quiet pulls = absurd (cc)
pulled_still plan (Some e) why answered lines start came rest output c stopped quiet (inl stops) = inl (record {
  gives = stops.gives;
  part = stops.part;
  last = stops.last;
  later = stops.later ++ c ∷ [];
  whole = subst (PulledGives plan start (came ++ c ∷ []) stops.gives) (append_assoc stops.part (stops.last ∷ stops.later) (c ∷ []))
      (pulled_more plan start came stops.gives (stops.part ++ stops.last ∷ stops.later) c stops.whole);
  few = stops.few;
  content = stops.content;
  takes = stops.takes;
  quiet = (stops.quiet.0, takes_quiet stops.later [] c stops.quiet.1 quiet);
  cause = stops.cause;
  asked = stops.asked;
})
pulled_still plan (Some e) why answered lines start came rest output c stopped quiet (inr stops) = inr (record {
  gives = stops.gives;
  part = stops.part;
  last = stops.last;
  later = stops.later ++ c ∷ [];
  whole = subst (PulledGives plan start (came ++ c ∷ []) stops.gives) (append_assoc stops.part (stops.last ∷ stops.later) (c ∷ []))
      (pulled_more plan start came stops.gives (stops.part ++ stops.last ∷ stops.later) c stops.whole);
  few = stops.few;
  give = stops.give;
  about = stops.about;
  behind = stops.behind;
  text = stops.text;
  takes = stops.takes;
  quiet = takes_quiet stops.later [] c stops.quiet quiet;
  cause = stops.cause;
  asked = stops.asked;
})

-- ---- a piece is taken

-- the piece that a call took
abbrev pub piece_at : List ℕ → PullState → PullState → PulledPiece
piece_at bytes old new = record { bytes = bytes; old = old.held; new = new.held }

-- No line ended.
stays : (plan : Option (List ℕ)) (start : Meaning) (came : List PulledPiece) (old new : PullState) (piece : List ℕ) (used : ℕ) (due output : List ℕ)
    → StaysWithin old piece used new due → ContinuesPulling plan (answered_of old.asked) old.lines start came old.kept output
    → ContinuesPulling plan (answered_of new.asked) new.lines start (came ++ piece_at (take used piece) old new ∷ []) new.kept output
stays plan start came old new piece used due output within on =
    let c = piece_at (take used piece) old new in
    let all : take used piece ≡ piece = ap (λ (n : ℕ). take n piece) within.all ∙ take_all (length piece) piece (omega arith) in
    let kept : old.kept ++ take used piece ≡ new.kept = ap (λ (l : List ℕ). old.kept ++ l) all ∙ sym within.goes.kept in
    subst (λ (lines : AnswerLines). ContinuesPulling plan (answered_of new.asked) lines start (came ++ c ∷ []) new.kept output) (sym within.lines) (record {
      gives = on.gives;
      later = on.later ++ c ∷ [];
      whole = pulled_more plan start came on.gives on.later c on.whole;
      few = on.few;
      number = ap answered_of within.asked ∙ on.number;
      bucket = on.bucket;
      below = on.below;
      part = subst (HasPartOf start.config old.lines (lines_pulled on.gives) (on.later ++ c ∷ [])) kept
          (part_within start.config old.lines (lines_pulled on.gives) on.later old.kept c within.held on.part);
      asked = on.asked;
    })

-- what is so of the answer that is next after a line of it
abbrev pub CameNow : Meaning → AnswerLines → ℕ → LineLeft → List ℕ → List PulledPiece → Type 0
CameNow start lines before left bytes pieces = LinesCame start.config lines.bucket before left (lines.read + 1) bytes pieces

-- More of the answer is waited for.
waits : (start : Meaning) (lines new : AnswerLines) (before : ℕ) (left : LineLeft) (pieces : List PulledPiece) → CameNow start lines before left
    (bytes_pulled pieces) pieces
    → WaitsOn lines new left → new.read ≡ lines.read + 1 → new.last.items ≡ left.last → HasPartOf start.config new before pieces []
waits start lines new before left pieces came moves read last = inr (record {
  begun = moves.begun;
  count = came.count;
  distrusts = came.distrusts;
  content = came.content;
  begins = subst (λ (b : ℕ). GiveBegins (Some (record { config = start.config; bucket = b })) (Some (bytes_pulled pieces)) came.count
      came.distrusts came.content (Some [])) (sym moves.bucket) came.begins;
  takes = came.takes;
  receipts = ap (λ (n : ℕ). length came.content.held + n) moves.receipts ∙ came.receipts;
  records = ap (λ (n : ℕ). length came.content.records + n) moves.records ∙ came.records;
  last = last ∙ came.last;
  read = read ∙ came.read;
})

-- the answer that came, and the pieces in which it came
abbrev pub give_came : Configuration → ℕ → State → List PulledPiece → PulledPiece → PulledGive
give_came config bucket content before last = record { give = give_with config bucket content; before = before; last = last }

-- One more answer came whole.
record EndsGive (plan : Option (List ℕ)) (start : Meaning) (came : List PulledPiece) (gives : List PulledGive) (output : List ℕ)
    (lines new : AnswerLines) (last : PulledPiece) : Type 0 where
  pub g : PulledGive
  pub is_last : g.last ≡ last
  pub whole : PulledGives plan start came (gives ++ g ∷ []) []
  pub part : HasNoLineOf new (lines_pulled (gives ++ g ∷ [])) [] []

ends_give : (plan : Option (List ℕ)) (start : Meaning) (came : List PulledPiece) (gives : List PulledGive) (later : List PulledPiece) (c : PulledPiece)
    (output : List ℕ) (lines new : AnswerLines) (left : LineLeft) → lines.bucket ≡ bucket_at plan (length gives)
    → PulledGives plan start came gives later → 0 < length c.bytes
    → CameNow start lines (lines_pulled gives) left (bytes_pulled later ++ c.bytes) (later ++ c ∷ []) → EndsAnswer lines new left
    → new.read ≡ lines.read + 1
    → EndsGive plan start (came ++ c ∷ []) gives output lines new c
ends_give plan start came gives later c output lines new left bucket whole some now moves read =
    let g = give_came start.config lines.bucket now.content later c in
    let is = answer_whole start.config lines.bucket (lines_pulled gives) left (lines.read + 1) (bytes_pulled later ++ c.bytes) (later ++ c ∷ []) now
    moves.receipts moves.records in
    let one : IsPulledGive start.config lines.bucket g = record {
      about = is.0;
      text = bytes_more later c ∙ is.1;
      ends = some;
      takes = now.takes;
    } in
    let more = lines_then gives g in
    let number = now.read in
    record {
      g = g;
      is_last = refl;
      whole = whole_more plan start (came ++ c ∷ []) gives g (pulled_more plan start came gives later c whole)
          (subst (λ (b : ℕ). IsPulledGive start.config b g) bucket one);
      part = record { none = moves.none; bytes = refl; takes = tt; read = omega (arith, read, number, more) };
    }

-- A line that ends has a byte in its piece.
some_taken : (used : ℕ) (piece : List ℕ) → 0 < used → used ≤ length piece → 0 < length (take used piece)
some_taken used piece some within = let size = length-take used piece in omega (arith, some, within, size)

-- A line ended, and its answer continues.
line_waits : (plan : Option (List ℕ)) (start : Meaning) (came : List PulledPiece) (old new : PullState) (piece : List ℕ) (used : ℕ) (text output : List ℕ)
    → old.held.config ≡ start.config → EndsLine (piece_run line_limit old.kept piece) used text → new.kept ≡ []
    → TakesAnswerLine old.held old.lines text new.held new.lines false → new.asked ≡ old.asked
    → ContinuesPulling plan (answered_of old.asked) old.lines start came old.kept output
    → ContinuesPulling plan (answered_of new.asked) new.lines start (came ++ piece_at (take used piece) old new ∷ []) new.kept output
line_waits plan start came old new piece used text output own ends kept takes asked on =
    let c = piece_at (take used piece) old new in
    let left = takes.left in
    let moves = takes.moves in
    let now = line_came start.config old.held old.lines (lines_pulled on.gives) on.later old.kept (take used piece) text new.held left c own on.part
    takes.steps refl refl ends.parts in
    let there = subst (λ (l : List ℕ). CameNow start old.lines (lines_pulled on.gives) left l (on.later ++ c ∷ [])) (sym (bytes_more on.later c)) now in
    record {
      gives = on.gives;
      later = on.later ++ c ∷ [];
      whole = pulled_more plan start came on.gives on.later c on.whole;
      few = on.few;
      number = ap answered_of asked ∙ on.number;
      bucket = moves.bucket ∙ on.bucket;
      below = subst (λ (b : ℕ). b < 256) (sym moves.bucket) on.below;
      part = subst (HasPartOf start.config new.lines (lines_pulled on.gives) (on.later ++ c ∷ [])) (sym kept)
          (waits start old.lines new.lines (lines_pulled on.gives) left (on.later ++ c ∷ []) there moves takes.read takes.last);
      asked = on.asked;
    }

-- A line ended, and an answer with it.
line_ends : (plan : Option (List ℕ)) (start : Meaning) (came : List PulledPiece) (old new : PullState) (lines : AnswerLines) (piece : List ℕ) (used : ℕ)
    (text output : List ℕ) → old.held.config ≡ start.config → EndsLine (piece_run line_limit old.kept piece) used text
    → TakesAnswerLine old.held old.lines text new.held lines true
    → (on : ContinuesPulling plan (answered_of old.asked) old.lines start came old.kept output)
    → EndsGive plan start (came ++ piece_at (take used piece) old new ∷ []) on.gives output old.lines lines (piece_at (take used piece) old new)
line_ends plan start came old new lines piece used text output own ends takes on =
    let c = piece_at (take used piece) old new in
    let now = line_came start.config old.held old.lines (lines_pulled on.gives) on.later old.kept (take used piece) text new.held takes.left c own on.part
    takes.steps refl refl ends.parts in
    ends_give plan start came on.gives on.later c output old.lines lines takes.left on.bucket on.whole (some_taken used piece ends.some ends.within) now
    takes.moves takes.read

-- After an answer the next one of the plan is waited for.
record NextPlace (plan : Option (List ℕ)) (gives : List PulledGive) (new : PullState) : Type 0 where
  pub few : length gives + 1 < asked_count plan
  pub answered : answered_of new.asked ≡ length gives + 1
  pub bucket : new.lines.bucket ≡ bucket_at plan (length gives + 1)

-- After an answer one more is counted.
one_more_place : (plan : Option (List ℕ)) (start : Meaning) (came : List PulledPiece) (old new : PullState) (lines : AnswerLines) (output : List ℕ)
    → plan_of old.asked ≡ plan → (on : ContinuesPulling plan (answered_of old.asked) old.lines start came old.kept output) → PassesOn old lines new
    → answered_of new.asked ≡ length on.gives + 1
one_more_place plan start came old new lines output is_plan on passes =
    let few : answered_of old.asked < asked_count (plan_of old.asked) =
    subst (λ (p : Option (List ℕ)). answered_of old.asked < asked_count p) (sym is_plan)
    (subst (λ (n : ℕ). n < asked_count plan) (sym on.number) on.few) in
    passes.more few ∙ ap (λ (n : ℕ). n + 1) on.number

-- which answer is next, by the plan
plan_next : (plan : Option (List ℕ)) (old : PullState) (lines : AnswerLines) (new : PullState) (place : ℕ) → plan_of old.asked ≡ plan
    → answered_of new.asked ≡ place → PassesOn old lines new → IsNextAt plan place new.lines
plan_next plan old lines new place is_plan at passes =
    subst (λ (n : ℕ). IsNextAt plan n new.lines) at
    (subst (λ (p : Option (List ℕ)). IsNextAt p (answered_of new.asked) new.lines) (passes.plan ∙ is_plan) passes.next)

next_place : (plan : Option (List ℕ)) (start : Meaning) (came : List PulledPiece) (old new : PullState) (lines : AnswerLines) (output : List ℕ)
    → plan_of old.asked ≡ plan → (on : ContinuesPulling plan (answered_of old.asked) old.lines start came old.kept output) → PassesOn old lines new
    → new.lines.bucket < 256 → NextPlace plan on.gives new
next_place plan start came old new lines output is_plan on passes below =
    let at = one_more_place plan start came old new lines output is_plan on passes in
    elim (plan_next plan old lines new (length on.gives + 1) is_plan at passes) [
      | inl over ↦ absurd (let none = over.1 in omega (arith, none, below))
      | inr more ↦ record { few = more.0; answered = at; bucket = more.1.1 }
    ]

past_last : (plan : Option (List ℕ)) (start : Meaning) (came : List PulledPiece) (old new : PullState) (lines : AnswerLines) (output : List ℕ)
    → plan_of old.asked ≡ plan → (on : ContinuesPulling plan (answered_of old.asked) old.lines start came old.kept output) → PassesOn old lines new
    → new.lines.bucket ≡ 256 → asked_count plan ≤ length on.gives + 1
past_last plan start came old new lines output is_plan on passes none =
    let at = one_more_place plan start came old new lines output is_plan on passes in
    elim (plan_next plan old lines new (length on.gives + 1) is_plan at passes) [
      | inl over ↦ over.0
      | inr more ↦ absurd (let below = more.1.0 in omega (arith, none, below))
    ]

-- After an answer the next one is asked for, or all came.
asks_next : (plan : Option (List ℕ)) (start : Meaning) (came : List PulledPiece) (old new : PullState) (lines : AnswerLines) (piece : List ℕ) (used : ℕ)
    (due output : List ℕ) → plan_of old.asked ≡ plan → (on : ContinuesPulling plan (answered_of old.asked) old.lines start came old.kept output)
    → new.kept ≡ []
    → EndsGive plan start (came ++ piece_at (take used piece) old new ∷ []) on.gives output old.lines lines (piece_at (take used piece) old new)
    → PassesOn old lines new → Asks new.held new.lines true due
    → PullsPieces plan None (answered_of new.asked) new.lines start (came ++ piece_at (take used piece) old new ∷ []) new.kept (output ++ due)
asks_next plan start came old new lines piece used due output is_plan on kept one passes (inl over) =
    let longer = length-append on.gives (one.g ∷ []) in
    let few = on.few in
    let last = past_last plan start came old new lines output is_plan on passes over.0 in
    inr (record {
      gives = on.gives ++ one.g ∷ [];
      later = [];
      whole = one.whole;
      all = omega (arith, longer, few, last);
      bucket = over.0;
      none = refl;
      takes = tt;
      asked = ap (λ (l : List ℕ). output ++ l) over.1 ∙ append-nil output ∙ on.asked
          ∙ ap (flat_map have_text) (sym (haves_whole plan start on.gives one.g));
    })
asks_next plan start came old new lines piece used due output is_plan on kept one passes (inr more) =
    let c = piece_at (take used piece) old new in
    let longer = length-append on.gives (one.g ∷ []) in
    let next = next_place plan start came old new lines output is_plan on passes more.0 in
    let few = next.few in
    let answered = next.answered in
    inl (record {
      gives = on.gives ++ one.g ∷ [];
      later = [];
      whole = one.whole;
      few = subst (λ (n : ℕ). n < asked_count plan) (sym longer) few;
      number = omega (arith, longer, answered);
      bucket = next.bucket ∙ ap (bucket_at plan) (sym longer);
      below = more.0;
      part = inl (record {
        none = passes.counts.begun ∙ one.part.none;
        bytes = sym kept;
        takes = tt;
        read = passes.counts.read ∙ one.part.read;
      });
      asked = ap (λ (l : List ℕ). output ++ l) more.1
          ∙ ap (λ (d : PulledPiece). output ++ have_text (have_of d.new new.lines.bucket)) (sym one.is_last)
          ∙ asked_more plan start on.gives one.g output new.lines.bucket on.asked next.bucket;
    })

-- A line ended, and is taken.
line_pulled : (plan : Option (List ℕ)) (start : Meaning) (came : List PulledPiece) (old new : PullState) (lines : AnswerLines) (piece : List ℕ)
    (used : ℕ) (text due output : List ℕ) (whole : Bool) → plan_of old.asked ≡ plan → old.held.config ≡ start.config
    → EndsLine (piece_run line_limit old.kept piece) used text → new.kept ≡ []
    → TakesAnswerLine old.held old.lines text new.held lines whole → ContinuesAfter whole old lines new → Asks new.held new.lines whole due
    → ContinuesPulling plan (answered_of old.asked) old.lines start came old.kept output
    → PullsPieces plan None (answered_of new.asked) new.lines start (came ++ piece_at (take used piece) old new ∷ []) new.kept (output ++ due)
line_pulled plan start came old new lines piece used text due output false is_plan own ends kept takes passes asks on =
    let c = piece_at (take used piece) old new in
    let same : output ≡ output ++ due = sym (append-nil output) ∙ ap (λ (l : List ℕ). output ++ l) (sym asks) in
    let there = subst (λ (ls : AnswerLines). TakesAnswerLine old.held old.lines text new.held ls false) (sym passes.0) takes in
    inl (subst (ContinuesPulling plan (answered_of new.asked) new.lines start (came ++ c ∷ []) new.kept) same
    (line_waits plan start came old new piece used text output own ends kept there passes.1 on))
line_pulled plan start came old new lines piece used text due output true is_plan own ends kept takes passes asks on =
    asks_next plan start came old new lines piece used due output is_plan on kept
    (line_ends plan start came old new lines piece used text output own ends takes on) passes asks

-- A piece is taken by a session that continues.
pub pulled_piece : (plan : Option (List ℕ)) (start : Meaning) (came : List PulledPiece) (old new : PullState) (piece : List ℕ) (used : ℕ)
    (due output : List ℕ) → plan_of old.asked ≡ plan → old.held.config ≡ start.config → TakesPulled old piece used new due
    → ContinuesPulling plan (answered_of old.asked) old.lines start came old.kept output
    → PullsPieces plan None (answered_of new.asked) new.lines start (came ++ piece_at (take used piece) old new ∷ []) new.kept (output ++ due)
pulled_piece plan start came old new piece used due output is_plan own (inl within) on =
    let c = piece_at (take used piece) old new in
    let same : output ≡ output ++ due = sym (append-nil output) ∙ ap (λ (l : List ℕ). output ++ l) (sym within.none) in
    inl (subst (ContinuesPulling plan (answered_of new.asked) new.lines start (came ++ c ∷ []) new.kept) same
    (stays plan start came old new piece used due output within on))
pulled_piece plan start came old new piece used due output is_plan own (inr line) on =
    line_pulled plan start came old new line.lines piece used line.text due output line.whole is_plan own line.ends line.kept line.takes line.passes
    line.asks on

-- ---- an error

-- what a session wants of an answer
abbrev pub wish_of : Meaning → ℕ → Option Expected
wish_of m bucket = Some (record { config = m.config; bucket = bucket })

-- An error of the first line is why the answer is not read.
pub first_fault : (m : Meaning) (bucket : ℕ) (stream after : Option (List ℕ)) (text : List ℕ) (e : SyncError) → HasLine stream after text
    → length text ≤ line_limit → RefusesGiveLine (wish_of m bucket) text e → RefusesHead (wish_of m bucket) stream after e
first_fault m bucket stream after text BadHeader is short why = record { text = text; is = is; cause = inr (short, why) }
first_fault m bucket stream after text ConfigDiffers is short why = record { text = text; is = is; cause = inr (short, why) }
first_fault m bucket stream after text VersionDiffers is short why = record { text = text; is = is; cause = inr (short, why) }
first_fault m bucket stream after text (NotCanonical n) is short why = absurd why
first_fault m bucket stream after text (NotRising n) is short why = absurd why
first_fault m bucket stream after text BadCount is short why = absurd why
first_fault m bucket stream after text Truncated is short why = absurd why
first_fault m bucket stream after text (Refused n cause) is short why = absurd why
first_fault m bucket stream after text Io is short why = absurd why
first_fault m bucket stream after text NoMemory is short why = tt

-- what is wrong with a line of an answer of which this content was taken
abbrev pub RefusesAt : Meaning → ℕ → State → Wanted → List ℕ → SyncError → Type 0
RefusesAt m first content wanted text e = refused_where m first content wanted (last_of (content_lines content)) text e

-- An error of a later line is why the answer is not read further.
later_fault : (m : Meaning) (first count distrusts : ℕ) (content : State) (wanted : Wanted) (further after : Option (List ℕ)) (text : List ℕ) (e : SyncError)
    → Wants count distrusts content wanted → HasLine further after text → RefusesAt m first content wanted text e
    → RefusesNextEntry (refused_where m first content) count distrusts content further after e
later_fault m first count distrusts content wanted further after text BadHeader w is h = absurd h
later_fault m first count distrusts content wanted further after text ConfigDiffers w is h = absurd h
later_fault m first count distrusts content wanted further after text VersionDiffers w is h = absurd h
later_fault m first count distrusts content wanted further after text (NotCanonical n) w is h =
    record { wanted = wanted; wants = w; text = text; is = is; cause = h }
later_fault m first count distrusts content wanted further after text (NotRising n) w is h =
    record { wanted = wanted; wants = w; text = text; is = is; cause = h }
later_fault m first count distrusts content wanted further after text BadCount w is h = absurd h
later_fault m first count distrusts content wanted further after text Truncated w is h = absurd h
later_fault m first count distrusts content wanted further after text (Refused n why) w is h =
    record { wanted = wanted; wants = w; text = text; is = is; cause = h }
later_fault m first count distrusts content wanted further after text Io w is h = absurd h
later_fault m first count distrusts content wanted further after text NoMemory w is h = tt

-- The same if memory may also have run out.
pub here_fault : (m : Meaning) (first count distrusts : ℕ) (content : State) (wanted : Wanted) (further after : Option (List ℕ)) (last text : List ℕ)
    (number : ℕ) (e : SyncError) → Wants count distrusts content wanted → HasLine further after text → last ≡ last_of (content_lines content)
    → number ≡ next_entry_number first content → RefusesHere wanted m last number text e
    → RefusesNextEntry (refused_where m first content) count distrusts content further after e
here_fault m first count distrusts content wanted further after last text number e w is l n (inl none) =
    subst (RefusesNextEntry (refused_where m first content) count distrusts content further after) (sym none) tt
here_fault m first count distrusts content wanted further after last text number e w is l n (inr why) =
    later_fault m first count distrusts content wanted further after text e w is
    (subst (λ (k : List ℕ). RefusesEntryLine m (placed_line wanted k (next_entry_number first content) text) e) l
    (subst (λ (k : ℕ). RefusesEntryLine m (placed_line wanted last k text) e) n why))

-- which line comes next, if this many are still to come
pub record NextLine (receipts records : ℕ) : Type 0 where
  pub wanted : Wanted
  pub receipts_then : ℕ
  pub records_then : ℕ
  pub order : IsNextOf receipts records wanted receipts_then records_then

pub next_line : (receipts records : ℕ) → 0 < receipts + records → NextLine receipts records
next_line receipts zero some = record {
  wanted = Receipts;
  receipts_then = receipts - 1;
  records_then = 0;
  order = (refl, refl, omega (arith, some));
}
next_line receipts (suc records) some = record { wanted = Records; receipts_then = receipts; records_then = records; order = (omega arith, refl) }

-- the stream from the kept bytes on
abbrev pub stream_at : List ℕ → List ℕ → List ℕ → List ℕ
stream_at kept piece tail = (kept ++ piece) ++ tail

-- A beginning of an answer is one of a longer stream.
begins_on : (m : Meaning) (config : Configuration) (lines : AnswerLines) (before : ℕ) (later : List PulledPiece) (kept piece tail : List ℕ)
    → m.config ≡ config → (some : HasLinesOf config lines before later kept)
    → GiveBegins (wish_of m lines.bucket) (Some (stream_at (bytes_pulled later) piece tail)) some.count some.distrusts some.content
    (Some (stream_at kept piece tail))
begins_on m config lines before later kept piece tail own some =
    let first = some.begins.first in
    let body = ended first ++ text_of_lines (content_lines some.content) in
    record {
      first = first;
      heads = subst (λ (k : Configuration). Heads (Some (record { config = k; bucket = lines.bucket })) first some.count some.distrusts) (sym own)
          some.begins.heads;
      begun = some.begins.begun;
      text = ap (λ (l : List ℕ). (l ++ piece) ++ tail) some.begins.text
          ∙ ap (λ (l : List ℕ). l ++ tail) (append_assoc body kept piece)
          ∙ append_assoc body (kept ++ piece) tail;
    }

-- Out of memory stops an answer anywhere.
memory_stops : (m : Meaning) (config : Configuration) (lines : AnswerLines) (before : ℕ) (later : List PulledPiece) (kept piece tail : List ℕ)
    → m.config ≡ config → (some : HasLinesOf config lines before later kept)
    → StopsAnswer m lines.bucket (before + 1) some.content (Some (stream_at (bytes_pulled later) piece tail)) NoMemory
memory_stops m config lines before later kept piece tail own some = inr (record {
  count = some.count;
  distrusts = some.distrusts;
  further = Some (stream_at kept piece tail);
  after = None;
  begins = begins_on m config lines before later kept piece tail own some;
  cause = tt;
})

-- why a line is not taken, of a session that has this much of an answer
abbrev pub RefusesLine : PullState → List ℕ → SyncError → Type 0
RefusesLine old piece e = (e ≡ NoMemory) ⊎ (RefusesLong old piece e ⊎ RefusesEnded old piece e)

-- The first line of an answer is not taken.
none_stops : (old : PullState) (config : Configuration) (before : ℕ) (later : List PulledPiece) (piece tail : List ℕ) (e : SyncError)
    → HasNoLineOf old.lines before later old.kept → (HasNoFeed (piece ++ tail) → ⊥) → RefusesLine old piece e
    → StopsAnswer old.held old.lines.bucket (before + 1) no_state (Some (stream_at (bytes_pulled later) piece tail)) e
none_stops old config before later piece tail e none feed (inl out) = inl (record {
  after = None;
  cause = subst (RefusesHead (wish_of old.held old.lines.bucket) (Some (stream_at (bytes_pulled later) piece tail)) None) (sym out) tt;
  none = refl;
})
none_stops old config before later piece tail e none feed (inr (inl long)) =
    elim long.cause [
      | inl header ↦
          let line = overlong_now old.kept piece tail long.over feed in
          let parts : stream_at (bytes_pulled later) piece tail ≡ (line.text ++ (10 ∷ [])) ++ line.rest =
          ap (λ (l : List ℕ). stream_at l piece tail) none.bytes ∙ line.parts in
          inl (record {
            after = Some line.rest;
            cause = subst (RefusesHead (wish_of old.held old.lines.bucket) (Some (stream_at (bytes_pulled later) piece tail)) (Some line.rest))
                (sym header.1) (record { text = line.text; is = (line.plain, parts); cause = inl (refl, line.long) });
            none = refl;
          })
      | inr begun ↦ absurd (let a = none.none in let b = begun.0 in cc)
    ]
none_stops old config before later piece tail e none feed (inr (inr ended)) =
    elim ended.cause [
      | inl first ↦
          let rest = drop ended.used piece ++ tail in
          let parts : stream_at (bytes_pulled later) piece tail ≡ (ended.text ++ (10 ∷ [])) ++ rest =
          ap (λ (l : List ℕ). stream_at l piece tail) none.bytes
          ∙ ended_split ended.used old.kept piece tail ended.text ended.ends.parts in
          inl (record {
            after = Some rest;
            cause = first_fault old.held old.lines.bucket (Some (stream_at (bytes_pulled later) piece tail)) (Some rest) ended.text e
                (ended.ends.plain, parts) ended.ends.short first.cause;
            none = refl;
          })
      | inr begun ↦ absurd (let a = none.none in let b = begun.begun in cc)
    ]

-- A later line of an answer is not taken.
some_stops : (old : PullState) (config : Configuration) (before : ℕ) (later : List PulledPiece) (piece tail : List ℕ) (e : SyncError)
    → old.held.config ≡ config → 0 < old.lines.due.receipts + old.lines.due.records
    → (some : HasLinesOf config old.lines before later old.kept) → (HasNoFeed (piece ++ tail) → ⊥) → RefusesLine old piece e
    → StopsAnswer old.held old.lines.bucket (before + 1) some.content (Some (stream_at (bytes_pulled later) piece tail)) e
some_stops old config before later piece tail e own due some feed (inl out) =
    subst (StopsAnswer old.held old.lines.bucket (before + 1) some.content (Some (stream_at (bytes_pulled later) piece tail))) (sym out)
    (memory_stops old.held config old.lines before later old.kept piece tail own some)
some_stops old config before later piece tail e own due some feed (inr (inl long)) =
    elim long.cause [
      | inl header ↦ absurd (let a = some.begun in let b = header.0 in cc)
      | inr begun ↦ elim begun.1 [
        | inl number ↦
            let line = overlong_now old.kept piece tail long.over feed in
            let next = next_line old.lines.due.receipts old.lines.due.records due in
            let w = wants next.wanted some.count some.distrusts some.content old.lines.due.receipts old.lines.due.records next.receipts_then
            next.records_then next.order some.receipts some.records in
            let read = some.read in
            let at : old.lines.read + 1 ≡ next_entry_number (before + 1) some.content = omega (arith, read) in
            inr (record {
              count = some.count;
              distrusts = some.distrusts;
              further = Some (stream_at old.kept piece tail);
              after = Some line.rest;
              begins = begins_on old.held config old.lines before later old.kept piece tail own some;
              cause = subst (RefusesNextEntry (refused_where old.held (before + 1) some.content) some.count some.distrusts some.content
                  (Some (stream_at old.kept piece tail)) (Some line.rest)) (sym number)
                  (record { wanted = next.wanted; wants = w; text = line.text; is = (line.plain, line.parts); cause = (at, inl line.long) });
            })
        | inr out ↦
            subst (StopsAnswer old.held old.lines.bucket (before + 1) some.content (Some (stream_at (bytes_pulled later) piece tail))) (sym out)
            (memory_stops old.held config old.lines before later old.kept piece tail own some)
      ]
    ]
some_stops old config before later piece tail e own due some feed (inr (inr ended)) =
    elim ended.cause [
      | inl first ↦ absurd (let a = some.begun in let b = first.none in cc)
      | inr entry ↦
          let rest = drop ended.used piece ++ tail in
          let w = wants entry.wanted some.count some.distrusts some.content old.lines.due.receipts old.lines.due.records entry.receipts
          entry.records entry.order some.receipts some.records in
          let read = some.read in
          let at : old.lines.read + 1 ≡ next_entry_number (before + 1) some.content = omega (arith, read) in
          inr (record {
            count = some.count;
            distrusts = some.distrusts;
            further = Some (stream_at old.kept piece tail);
            after = Some rest;
            begins = begins_on old.held config old.lines before later old.kept piece tail own some;
            cause = here_fault old.held (before + 1) some.count some.distrusts some.content entry.wanted (Some (stream_at old.kept piece tail))
                (Some rest) old.lines.last.items ended.text (old.lines.read + 1) e w
                (ended.ends.plain, ended_split ended.used old.kept piece tail ended.text ended.ends.parts) some.last at entry.cause;
          })
    ]

-- ---- or the stream is cut

-- Without a line feed no line comes after what is kept.
none_after : (kept piece tail : List ℕ) → HasNoFeed kept → HasNoFeed (piece ++ tail) → HasNoFeed (stream_at kept piece tail)
none_after kept piece tail plain none =
    subst HasNoFeed (sym (append_assoc kept piece tail)) (All-append (λ (b : ℕ). b ≢ 10) kept (piece ++ tail) plain none)

-- The stream ends before the first line of an answer does.
none_cuts : (old : PullState) (before : ℕ) (later : List PulledPiece) (piece tail : List ℕ)
    → HasNoLineOf old.lines before later old.kept → HasNoFeed old.kept → HasNoFeed (piece ++ tail)
    → StopsAnswer old.held old.lines.bucket (before + 1) no_state (Some (stream_at (bytes_pulled later) piece tail)) Truncated
none_cuts old before later piece tail none plain ends = inl (record {
  after = None;
  cause = subst HasNoFeed (ap (λ (l : List ℕ). stream_at l piece tail) (sym none.bytes)) (none_after old.kept piece tail plain ends);
  none = refl;
})

-- It ends before a later line does.
some_cuts : (old : PullState) (config : Configuration) (before : ℕ) (later : List PulledPiece) (piece tail : List ℕ)
    → old.held.config ≡ config → 0 < old.lines.due.receipts + old.lines.due.records
    → (some : HasLinesOf config old.lines before later old.kept) → HasNoFeed old.kept → HasNoFeed (piece ++ tail)
    → StopsAnswer old.held old.lines.bucket (before + 1) some.content (Some (stream_at (bytes_pulled later) piece tail)) Truncated
some_cuts old config before later piece tail own due some plain ends =
    let next = next_line old.lines.due.receipts old.lines.due.records due in
    inr (record {
      count = some.count;
      distrusts = some.distrusts;
      further = Some (stream_at old.kept piece tail);
      after = None;
      begins = begins_on old.held config old.lines before later old.kept piece tail own some;
      cause = record {
        wanted = next.wanted;
        wants = wants next.wanted some.count some.distrusts some.content old.lines.due.receipts old.lines.due.records next.receipts_then
            next.records_then next.order some.receipts some.records;
        ends = none_after old.kept piece tail plain ends;
      };
    })

-- what is kept of a line: it has no line feed, and is not too long
pub record IsShortPart (kept : List ℕ) : Type 0 where
  pub plain : HasNoFeed kept
  pub short : length kept ≤ line_limit

-- A piece that has an error has a byte, unless memory ran out.
refused_some : (old : PullState) (piece : List ℕ) (e : SyncError) → IsShortPart old.kept → RefusesLine old piece e
    → (e ≡ NoMemory) ⊎ (0 < length piece)
refused_some old piece e part (inl out) = inl out
refused_some old piece e part (inr (inl long)) =
    let short = part.short in
    let over = long.over.long in
    let size = ap length long.over.parts in
    let left = length-append old.kept piece in
    let right = length-append long.over.text long.over.rest in
    inr (omega (arith, short, over, size, left, right))
refused_some old piece e part (inr (inr ended)) =
    let within = ended.ends.within in
    let some = ended.ends.some in
    inr (omega (arith, within, some))

-- If memory ran out or a line has an error, no device failed.
line_own : (m : Meaning) (line : PlacedLine) (e : SyncError) → RefusesEntryLine m line e → e ≢ Io
line_own m line e why same = absurd (subst (RefusesEntryLine m line) same why)

head_own : (expected : Option Expected) (text : List ℕ) (e : SyncError) → RefusesGiveLine expected text e → e ≢ Io
head_own expected text e why same = absurd (subst (RefusesGiveLine expected text) same why)

refused_own : (old : PullState) (piece : List ℕ) (e : SyncError) → RefusesLine old piece e → e ≢ Io
refused_own old piece e (inl out) same = absurd (cc)
refused_own old piece e (inr (inl long)) same = elim long.cause [
  | inl header ↦ absurd (let a = header.1 in cc)
  | inr begun ↦ elim begun.1 [ inl number ↦ absurd (cc) | inr out ↦ absurd (cc) ]
]
refused_own old piece e (inr (inr ended)) same = elim ended.cause [
  | inl first ↦ head_own _ ended.text e first.cause same
  | inr entry ↦ elim entry.cause [ inl out ↦ absurd (cc) | inr why ↦ line_own old.held _ e why same ]
]

-- what a buffer of a line keeps
pub short_part : (ended : Bool) (line : List ℕ) (most : ℕ) → most ≡ line_limit → length line ≤ most → HasNoFeed line
    → IsShortPart (if ended then [] else line)
short_part true line most is within plain = record { plain = All-nil (λ (b : ℕ). b ≢ 10); short = omega arith }
short_part false line most is within plain = record { plain = plain; short = omega (arith, is, within) }

-- A line is not taken.
pub refused_at : (plan : Option (List ℕ)) (start : Meaning) (came : List PulledPiece) (old new : PullState) (piece output : List ℕ) (e : SyncError)
    → old.held.config ≡ start.config → (old.lines.is_begun ≡ true → 0 < old.lines.due.receipts + old.lines.due.records)
    → IsShortPart old.kept → RefusesPulled old piece new e → ContinuesPulling plan (answered_of old.asked) old.lines start came old.kept output
    → StopsAt plan start came (piece_at piece old new) output e
refused_at plan start came old new piece output e own due kept refused on =
    elim on.part [
      | inl none ↦ record {
        gives = on.gives;
        part = on.later;
        whole = on.whole;
        few = on.few;
        content = no_state;
        takes = none.takes;
        quiet = refused.same;
        some = refused_some old piece e kept refused.cause;
        cause = λ tail feed.
            subst (λ (b : ℕ). StopsAnswer old.held b (lines_pulled on.gives + 1) no_state (Some (stream_at (bytes_pulled on.later) piece tail)) e)
            on.bucket (none_stops old start.config (lines_pulled on.gives) on.later piece tail e none feed refused.cause);
        cut = λ tail ends.
            subst (λ (b : ℕ). StopsAnswer old.held b (lines_pulled on.gives + 1) no_state (Some (stream_at (bytes_pulled on.later) piece tail)) Truncated)
            on.bucket (none_cuts old (lines_pulled on.gives) on.later piece tail none kept.plain ends);
        own = refused_own old piece e refused.cause;
        asked = on.asked;
      }
      | inr some ↦ record {
        gives = on.gives;
        part = on.later;
        whole = on.whole;
        few = on.few;
        content = some.content;
        takes = some.takes;
        quiet = refused.same;
        some = refused_some old piece e kept refused.cause;
        cause = λ tail feed.
            subst (λ (b : ℕ). StopsAnswer old.held b (lines_pulled on.gives + 1) some.content (Some (stream_at (bytes_pulled on.later) piece tail)) e)
            on.bucket (some_stops old start.config (lines_pulled on.gives) on.later piece tail e own (due some.begun) some feed refused.cause);
        cut = λ tail ends.
            subst (λ (b : ℕ). StopsAnswer old.held b (lines_pulled on.gives + 1) some.content (Some (stream_at (bytes_pulled on.later) piece tail)) Truncated)
            on.bucket (some_cuts old start.config (lines_pulled on.gives) on.later piece tail own (due some.begun) some kept.plain ends);
        own = refused_own old piece e refused.cause;
        asked = on.asked;
      }
    ]

-- So the session ends at a line feed that comes.
unfoldable pub at_feed : (plan : Option (List ℕ)) (start : Meaning) (came : List PulledPiece) (c : PulledPiece) (output : List ℕ) (e : SyncError)
    → StopsAt plan start came c output e → StopsInGive plan start (came ++ c ∷ []) output e
at_feed plan start came c output e stops = record {
  gives = stops.gives;
  part = stops.part;
  last = c;
  later = [];
  whole = pulled_more plan start came stops.gives stops.part c stops.whole;
  few = stops.few;
  content = stops.content;
  takes = stops.takes;
  quiet = (stops.quiet, tt);
  cause = λ more after. stops.cause (more ++ (10 ∷ after)) (λ none. feed_after c.bytes more after none);
  asked = stops.asked;
}

-- An answer is taken whole, and the next have is not made.
refused_asking : (plan : Option (List ℕ)) (start : Meaning) (came : List PulledPiece) (old new : PullState) (piece output : List ℕ) (e : SyncError)
    → plan_of old.asked ≡ plan → old.held.config ≡ start.config → RefusesAsking old piece new e
    → ContinuesPulling plan (answered_of old.asked) old.lines start came old.kept output
    → StopsAsking plan start (came ++ piece_at piece old new ∷ []) output e
refused_asking plan start came old new piece output e is_plan own refused on =
    let c = piece_at piece old new in
    let used = refused.used in
    let takes = refused.takes in
    let left = takes.left in
    let now = line_came start.config old.held old.lines (lines_pulled on.gives) on.later old.kept (take used piece) refused.text new.held left c own on.part
    takes.steps refl refl refused.ends.parts in
    let is = answer_whole start.config old.lines.bucket (lines_pulled on.gives) left (old.lines.read + 1) (bytes_pulled on.later ++ take used piece)
    (on.later ++ c ∷ []) now takes.moves.receipts takes.moves.records in
    let give = give_with start.config old.lines.bucket now.content in
    record {
      gives = on.gives;
      part = on.later;
      last = c;
      later = [];
      whole = pulled_more plan start came on.gives on.later c on.whole;
      few = (next_place plan start came old new refused.lines output is_plan on refused.passes refused.few).few;
      give = give;
      about = subst (λ (b : ℕ). IsGiveAbout start.config b give) on.bucket is.0;
      behind = drop used piece;
      text = ap (λ (l : List ℕ). bytes_pulled on.later ++ l) (sym (take-append-drop used piece))
          ∙ sym (append_assoc (bytes_pulled on.later) (take used piece) (drop used piece))
          ∙ ap (λ (l : List ℕ). l ++ drop used piece) is.1;
      takes = now.takes;
      quiet = tt;
      cause = refused.cause;
      asked = on.asked;
    }

-- What a call finds that fails.
pub stops_now : (plan : Option (List ℕ)) (start : Meaning) (came : List PulledPiece) (old new : PullState) (piece output : List ℕ) (e : SyncError)
    → plan_of old.asked ≡ plan → old.held.config ≡ start.config → (old.lines.is_begun ≡ true → 0 < old.lines.due.receipts + old.lines.due.records)
    → IsShortPart old.kept → FailsPulled old piece new e → ContinuesPulling plan (answered_of old.asked) old.lines start came old.kept output
    → StopsNow plan start came (piece_at piece old new) output e
stops_now plan start came old new piece output e is_plan own due kept (inl refused) on =
    inl (refused_at plan start came old new piece output e own due kept refused on)
stops_now plan start came old new piece output e is_plan own due kept (inr refused) on =
    inr (refused_asking plan start came old new piece output e is_plan own refused on)

-- An error ends the session.
pub pulled_stops : (plan : Option (List ℕ)) (start : Meaning) (came : List PulledPiece) (c : PulledPiece) (answered : ℕ) (lines : AnswerLines)
    (rest output : List ℕ) (e : SyncError)
    → StopsNow plan start came c output e → PullsPieces plan (Some e) answered lines start (came ++ c ∷ []) rest output
pulled_stops plan start came c answered lines rest output e (inl stops) = inl (at_feed plan start came c output e stops)
pulled_stops plan start came c answered lines rest output e (inr stops) = inr stops

-- ---- how many receipts were new

-- One piece more counts what it brought.
pub taken_more : (count later : ℕ) (came : List PulledPiece) (c : PulledPiece) → count ≡ receipts_pulled came
    → later ≡ count + (length c.new.held - length c.old.held) → later ≡ receipts_pulled (came ++ c ∷ [])
taken_more count later came c is brought = brought ∙ ap (λ (n : ℕ). n + (length c.new.held - length c.old.held)) is ∙ sym (receipts_more came c)

-- A piece that changes nothing brings nothing.
pub taken_same : (count : ℕ) (came : List PulledPiece) (c : PulledPiece) → count ≡ receipts_pulled came → c.new ≡ c.old
    → count ≡ receipts_pulled (came ++ c ∷ [])
taken_same count came c is quiet =
    let same = ap (λ (m : Meaning). length m.held) quiet in
    let more = receipts_more came c in
    omega (arith, is, same, more)

-- ---- what was written

-- What was written is no longer due.
pub wrote_have : (plan : Option (List ℕ)) (f : Option SyncError) (answered : ℕ) (lines : AnswerLines) (start : Meaning) (came : List PulledPiece)
    (rest written due later : List ℕ) (count : ℕ)
    → later ≡ drop count due → PullsPieces plan f answered lines start came rest (written ++ due)
    → PullsPieces plan f answered lines start came rest ((written ++ take count due) ++ later)
wrote_have plan f answered lines start came rest written due later count is pulls =
    subst (PullsPieces plan f answered lines start came rest)
    (ap (λ (l : List ℕ). written ++ l) (sym (take-append-drop count due)) ∙ sym (append_assoc written (take count due) (drop count due))
    ∙ ap (λ (l : List ℕ). (written ++ take count due) ++ l) (sym is)) pulls

-- Nothing is left of nothing.
drop_none : (count : ℕ) → drop {A = ℕ} count [] ≡ []
drop_none zero = refl
drop_none (suc count) = refl

pub none_left : (due later : List ℕ) (count : ℕ) → later ≡ drop count due → due ≡ [] → later ≡ []
none_left due later count is none = is ∙ ap (drop count) none ∙ drop_none count

-- ---- a call

-- Nothing is asked after the last answer.
pub over_asks : (whole : Bool) (m : Meaning) (lines : AnswerLines) (due : List ℕ) → Asks m lines whole due → lines.bucket ≡ 256 → due ≡ []
over_asks false m lines due none over = none
over_asks true m lines due (inl none) over = none.1
over_asks true m lines due (inr next) over = absurd (let below = next.0 in omega (arith, below, over))

-- A call that takes a piece keeps the promise.
pub read_took : (plan : Option (List ℕ)) (f g : Option SyncError) (start : Meaning) (came : List PulledPiece) (old new : PullState) (piece : List ℕ) (used : ℕ)
    (due later written : List ℕ) → plan_of old.asked ≡ plan → f ≡ None → g ≡ f → due ≡ [] → old.lines.bucket < 256
    → old.held.config ≡ start.config
    → TakesPulled old piece used new later → PullsPieces plan f (answered_of old.asked) old.lines start came old.kept (written ++ due)
    → PullsPieces plan g (answered_of new.asked) new.lines start (came ++ piece_at (take used piece) old new ∷ []) new.kept (written ++ later)
read_took plan None None start came old new piece used due later written is_plan sound same idle more own takes (inl on) =
    pulled_piece plan start came old new piece used later written is_plan own takes
    (subst (ContinuesPulling plan (answered_of old.asked) old.lines start came old.kept) (ap (λ (l : List ℕ). written ++ l) idle ∙ append-nil written) on)
read_took plan None None start came old new piece used due later written is_plan sound same idle more own takes (inr all) =
    absurd (let bucket = all.bucket in omega (arith, bucket, more))
read_took plan None (Some e) start came old new piece used due later written is_plan sound same idle more own takes pulls = absurd (cc)
read_took plan (Some e) g start came old new piece used due later written is_plan sound same idle more own takes pulls = absurd (cc)

-- After the last answer nothing is to be written.
pub over_idle : (old new : PullState) (piece : List ℕ) (used : ℕ) (due : List ℕ) → TakesPulled old piece used new due
    → new.lines.bucket ≡ 256 → due ≡ []
over_idle old new piece used due (inl stays) over = stays.none
over_idle old new piece used due (inr ends) over = over_asks ends.whole new.held new.lines due ends.asks over

-- A piece with a byte loses one at least.
pub takes_some : (old new : PullState) (piece due : List ℕ) (used : ℕ) → TakesPulled old piece used new due → 0 < length piece → 0 < used
takes_some old new piece due used (inl stays) some = let all = stays.all in omega (arith, all, some)
takes_some old new piece due used (inr ends) some = ends.ends.some

-- What a call finds that returns an error.
pub read_finds : (plan : Option (List ℕ)) (f : Option SyncError) (e : SyncError) (start : Meaning) (came : List PulledPiece) (old new : PullState)
    (piece due written : List ℕ) → plan_of old.asked ≡ plan → f ≡ None → due ≡ [] → old.lines.bucket < 256
    → old.held.config ≡ start.config → (old.lines.is_begun ≡ true → 0 < old.lines.due.receipts + old.lines.due.records)
    → IsShortPart old.kept → FailsPulled old piece new e
    → PullsPieces plan f (answered_of old.asked) old.lines start came old.kept (written ++ due)
    → StopsNow plan start came (piece_at piece old new) written e
read_finds plan None e start came old new piece due written is_plan sound idle more own some kept fails (inl on) =
    stops_now plan start came old new piece written e is_plan own some kept fails
    (subst (ContinuesPulling plan (answered_of old.asked) old.lines start came old.kept) (ap (λ (l : List ℕ). written ++ l) idle ∙ append-nil written) on)
read_finds plan None e start came old new piece due written is_plan sound idle more own some kept fails (inr all) =
    absurd (let bucket = all.bucket in omega (arith, bucket, more))
read_finds plan (Some d) e start came old new piece due written is_plan sound idle more own some kept fails pulls = absurd (cc)

-- A call that returns an error keeps it.
pub read_stopped : (plan : Option (List ℕ)) (start : Meaning) (came : List PulledPiece) (c : PulledPiece) (answered : ℕ) (lines : AnswerLines)
    (rest later written : List ℕ) (e : SyncError) → later ≡ []
    → StopsNow plan start came c written e → PullsPieces plan (Some e) answered lines start (came ++ c ∷ []) rest (written ++ later)
read_stopped plan start came c answered lines rest later written e quiet stops =
    subst (PullsPieces plan (Some e) answered lines start (came ++ c ∷ []) rest)
    (sym (append-nil written) ∙ ap (λ (l : List ℕ). written ++ l) (sym quiet))
    (pulled_stops plan start came c answered lines rest written e stops)

-- A session that is not over waits for an answer.
pub below_last : (over : Bool) (bucket : ℕ) → ((over ≡ true) ↔ (bucket ≡ 256)) → over ≡ false → bucket ≤ 256 → bucket < 256
below_last over bucket is differs few =
    elim (cases_eq bucket 256) [
      | inl last ↦ absurd (let yes = is.1 last in cc)
      | inr more ↦ omega (arith, more, few)
    ]

-- ---- a line without a number

-- Out of memory refuses any line, before or after the first one of an answer.
memory_refuses : (begun : Bool) (m : Meaning) (lines : AnswerLines) (text : List ℕ) → lines.is_begun ≡ begun
    → (lines.is_begun ≡ true → 0 < lines.due.receipts + lines.due.records) → RefusesAnswerLine m lines text NoMemory
memory_refuses false m lines text is some = inl (record { none = is; cause = tt })
memory_refuses true m lines text is some =
    let next = next_line lines.due.receipts lines.due.records (some is) in
    inr (record { begun = is; wanted = next.wanted; receipts = next.receipts_then; records = next.records_then; order = next.order; cause = inl refl })

pub no_number : (m : Meaning) (lines : AnswerLines) (text : List ℕ)
    → (lines.is_begun ≡ true → 0 < lines.due.receipts + lines.due.records) → RefusesAnswerLine m lines text NoMemory
no_number m lines text some = memory_refuses lines.is_begun m lines text refl some

-- ---- which bytes are taken

-- A beginning and then these bytes end in a line feed, so these do.
pub feed_last : (old bytes text : List ℕ) → 0 < length bytes → old ++ bytes ≡ text ++ (10 ∷ []) → EndsInFeed bytes
feed_last [] bytes text some is = (text, is)
feed_last (b ∷ old) [] text some is = absurd (omega (arith, some))
feed_last (b ∷ old) (c ∷ bytes) [] some is = absurd (let none = length-append old (c ∷ bytes) in let all = ap length is in omega (arith, none, all))
feed_last (b ∷ old) (c ∷ bytes) (t ∷ text) some is = feed_last old (c ∷ bytes) text some (cc)

-- all bytes that are taken, or those up to the end of a line
pub record TakesUpToFeed (piece : List ℕ) (used : ℕ) : Type 0 where
  pub within : used ≤ length piece
  pub fewer : used < length piece → EndsInFeed (take used piece)

-- A step takes such bytes.
pub takes_up_to_feed : (old new : PullState) (piece due : List ℕ) (used : ℕ) → TakesPulled old piece used new due → TakesUpToFeed piece used
takes_up_to_feed old new piece due used (inl stays) =
    let all = stays.all in
    record { within = omega (arith, all); fewer = λ few. absurd (omega (arith, all, few)) }
takes_up_to_feed old new piece due used (inr ended) =
    let within = ended.ends.within in
    let some = ended.ends.some in
    record {
      within = within;
      fewer = λ few. feed_last old.kept (take used piece) ended.text (some_taken used piece some within) ended.ends.parts;
    }

-- ---- which bucket is next

-- The answer that is waited for is the next one of the plan.
pub next_at : (o : Option ℕ) (plan : Option (List ℕ)) (place : ℕ) (lines : AnswerLines)
    → MatchOption o (asked_count plan ≤ place) (λ b. (place < asked_count plan) × (b ≡ bucket_at plan place))
    → MatchOption o (lines.bucket ≡ 256) (λ b. (lines.bucket < 256) × (lines.bucket ≡ b)) → IsNextAt plan place lines
next_at None plan place lines over none = inl (over, none)
next_at (Some b) plan place lines more at = inr (more.0, (at.0, at.1 ∙ more.1))

-- If no answer came yet, the first of the plan is asked for, or the plan is empty.
pub begun_pieces : (plan : Option (List ℕ)) (answered : ℕ) (old lines : AnswerLines) (m : Meaning) (rest have : List ℕ) → answered ≡ 0 → rest ≡ []
    → HasNoLines old → HasSameCountsBut old lines → IsNextAt plan answered lines → Asks m lines true have
    → PullsPieces plan None answered lines m [] rest have
begun_pieces plan answered old lines m rest have none kept lines_none counts (inl over) (inl ends) =
    let few = over.0 in
    inr (record {
      gives = [];
      later = [];
      whole = record { order = refl; each = tt };
      all = omega (arith, none, few);
      bucket = ends.0;
      none = refl;
      takes = tt;
      asked = ends.1;
    })
begun_pieces plan answered old lines m rest have none kept lines_none counts (inl over) (inr more) =
    absurd (let last = over.1 in let below = more.0 in omega (arith, last, below))
begun_pieces plan answered old lines m rest have none kept lines_none counts (inr next) (inl ends) =
    absurd (let last = ends.0 in let below = next.1.0 in omega (arith, last, below))
begun_pieces plan answered old lines m rest have none kept lines_none counts (inr next) (inr more) =
    let few = next.0 in
    let at : lines.bucket ≡ bucket_at plan 0 = next.1.1 ∙ ap (bucket_at plan) none in
    inl (record {
      gives = [];
      later = [];
      whole = record { order = refl; each = tt };
      few = subst (λ (n : ℕ). n < asked_count plan) none few;
      number = none;
      bucket = at;
      below = more.0;
      part = inl (record { none = counts.begun ∙ lines_none.none; bytes = sym kept; takes = tt; read = counts.read ∙ lines_none.read });
      asked = more.1 ∙ ap (λ (b : ℕ). have_text (have_of m b)) at ∙ sym (append-nil (have_text (have_of m (bucket_at plan 0))));
    })

-- A session that is driven over a source and a sink does what a pull does.
use Rattle.std.proofs.Common.{◌≡◌, ◌≢◌, ℕ, ◌+◌, ◌<◌, ◌≤◌, ◌⊎◌, inl, inr, List, [], ◌∷◌, ◌++◌, length, take, drop}
use Rattle.std.proofs.Common.{Option, None, Some, Ok, Err, refl, sym, ap, ◌∙◌, subst, append_assoc, append-nil, length-take, take-append-drop}
use Rattle.std.proofs.Common.{true, arith}
use Rattle.std.specs.List.{flat_map}
use Rattle.std.specs.Prelude.{Result, IfErr, ⊤}
use Rattle.std.specs.Io.KnownBytes.{Appends, Consumes, IsAtEnd, Keeps, prepend_known}
use Rattle.std.proofs.KnownBytes.{Appends-nil, Appends-trans, Consumes-nil, Consumes-trans}
use Rattle.std.proofs.lemmas.List.Elements.{All-append}
use Rattle.std.proofs.lemmas.Grind.{flat_map-append}
use Rattle.std.proofs.lemmas.List.{drop_all, take-take, take_all}
use Rattle.receipt_core.specs.Acceptance.{Meaning}
use Rattle.byte_lines.specs.Device.{AppendsBeginning}
use Rattle.byte_lines.specs.Lines.{HasLine, HasNoFeed}
use Rattle.replica_core.specs.State.{State, no_state}
use Rattle.fed_config.specs.Configuration.{Configuration}
use Rattle.replica_core.specs.declared.error.SyncError.{SyncError}
use Rattle.replica_core.specs.declared.error.SyncError.TheVariants.{BadHeader, ConfigDiffers, VersionDiffers, NotCanonical, NotRising, BadCount, Truncated}
use Rattle.replica_core.specs.declared.error.SyncError.TheVariants.{Refused, Io, NoMemory}
use Rattle.replica_texts.specs.Messages.{give_text}
use Rattle.replica_texts.specs.FirstLines.{Expected}
use Rattle.replica_texts.specs.Gives.{HasBadNext, RefusesHead, RefusesNextEntry}
use Rattle.replica_texts.specs.declared.entry_line.Wanted.{Wanted}
use Rattle.replica_texts.proofs.WrittenPieceFacts.{begins-second}
use Rattle.replica_sync.specs.SessionRun.{IsWritten, SessionRun, known_run, session_run}
use Rattle.replica_sync.specs.Pulling.{HasGained, PullsAll, PullsUpTo, RefusesGiveAbout}
use Rattle.replica_sync.specs.PulledPieces.{AreAlone, JournalsAll, PulledPiece, bytes_pulled, lines_pulled, receipts_pulled}
use Rattle.replica_sync.specs.PullSessions.{EndsInFeed, IsOverPulling, PullsLines, PullsPieces, StopsAnswer}
use Rattle.replica_sync.specs.PullSessions.{StopsAt, StopsNow, count_of_pulling, due_have, fault_of_pulling, kept_answer}
use Rattle.replica_sync.specs.Inside.Driving.{Driven, StopsDriven}
use Rattle.replica_sync.specs.Inside.LineErrors.{IsLineError}
use Rattle.replica_sync.specs.declared.answer_lines.AnswerLines.{AnswerLines}
use Rattle.replica_sync.specs.declared.piece_pulling.Pulling.{Pulling}
use Rattle.replica_sync.proofs.DrivenServing.{within_have}
use Rattle.replica_sync.proofs.FeedSearch.{feed_in_last, find_feed, found_feed, plain_back, plain_front}
use Rattle.replica_sync.proofs.PullLawFacts.{IsCutAt, broken_pulled, over_pulls, stopped_there, unasked_pulled}
use Rattle.replica_sync.proofs.PullingFacts.{written_all}
use Rattle.replica_sync.proofs.PullLinesFacts.{config_then}
use Rattle.replica_sync.proofs.PullStepFacts.{at_feed}
use Rattle.replica_sync.proofs.ServedPieceFacts.{kept_plain}

-- ---- devices that cannot report their bytes

-- Why a head is not read says that also if the stream does not report its bytes.
head_unknown : (expected : Option Expected) (old new : Option (List ℕ)) (e : SyncError) → RefusesHead expected old new e → RefusesHead expected None None e
head_unknown expected old new BadHeader h = record { text = h.text; is = (h.is.0, tt); cause = h.cause }
head_unknown expected old new ConfigDiffers h = record { text = h.text; is = (h.is.0, tt); cause = h.cause }
head_unknown expected old new VersionDiffers h = record { text = h.text; is = (h.is.0, tt); cause = h.cause }
head_unknown expected old new (NotCanonical n) h = absurd h
head_unknown expected old new (NotRising n) h = absurd h
head_unknown expected old new BadCount h = absurd h
head_unknown expected old new Truncated h = tt
head_unknown expected old new (Refused n why) h = absurd h
head_unknown expected old new Io h = tt
head_unknown expected old new NoMemory h = tt

bad_unknown : (refuses : Wanted → List ℕ → List ℕ → SyncError → Type 0) (count distrusts : ℕ) (content : State) (old new : Option (List ℕ)) (e : SyncError)
    → HasBadNext refuses count distrusts content old new e → HasBadNext refuses count distrusts content None None e
bad_unknown refuses count distrusts content old new e h =
    record { wanted = h.wanted; wants = h.wants; text = h.text; is = (h.is.0, tt); cause = h.cause }

-- So does why a later line is not.
next_unknown : (refuses : Wanted → List ℕ → List ℕ → SyncError → Type 0) (count distrusts : ℕ) (content : State) (old new : Option (List ℕ)) (e : SyncError)
    → RefusesNextEntry refuses count distrusts content old new e → RefusesNextEntry refuses count distrusts content None None e
next_unknown refuses count distrusts content old new BadHeader h = absurd h
next_unknown refuses count distrusts content old new ConfigDiffers h = absurd h
next_unknown refuses count distrusts content old new VersionDiffers h = absurd h
next_unknown refuses count distrusts content old new (NotCanonical n) h = bad_unknown refuses count distrusts content old new (NotCanonical n) h
next_unknown refuses count distrusts content old new (NotRising n) h = bad_unknown refuses count distrusts content old new (NotRising n) h
next_unknown refuses count distrusts content old new BadCount h = absurd h
next_unknown refuses count distrusts content old new Truncated h = record { wanted = h.wanted; wants = h.wants; ends = tt }
next_unknown refuses count distrusts content old new (Refused n why) h = bad_unknown refuses count distrusts content old new (Refused n why) h
next_unknown refuses count distrusts content old new Io h = tt
next_unknown refuses count distrusts content old new NoMemory h = tt

cause_unknown : (config : Configuration) (state : State) (bucket first : ℕ) (content : State) (left : Option (List ℕ)) (e : SyncError)
    → RefusesGiveAbout config state bucket first content left e → RefusesGiveAbout config state bucket first content None e
cause_unknown config state bucket first content left e (inl head) =
    inl (record { after = None; cause = head_unknown _ left head.after e head.cause; none = head.none })
cause_unknown config state bucket first content left e (inr within) = inr (record {
  count = within.count;
  distrusts = within.distrusts;
  further = None;
  after = None;
  begins = record { first = within.begins.first; heads = within.begins.heads; begun = within.begins.begun; text = tt };
  cause = next_unknown _ within.count within.distrusts content within.further within.after e within.cause;
})

-- What is said of an empty sink is said of one that took the same bytes.
written_on : (e : SyncError) (before after : Option (List ℕ)) (written text : List ℕ) → Appends before after written
    → IsWritten e (Some []) (Some written) text → IsWritten e before after text
written_on BadHeader before after written text p h = subst (Appends before after) h p
written_on ConfigDiffers before after written text p h = subst (Appends before after) h p
written_on VersionDiffers before after written text p h = subst (Appends before after) h p
written_on (NotCanonical n) before after written text p h = subst (Appends before after) h p
written_on (NotRising n) before after written text p h = subst (Appends before after) h p
written_on BadCount before after written text p h = subst (Appends before after) h p
written_on Truncated before after written text p h = subst (Appends before after) h p
written_on (Refused n why) before after written text p h = subst (Appends before after) h p
written_on Io before after written text p h = (h.0, subst (Appends before after) h.1 p)
written_on NoMemory before after written text p h = (h.0, subst (Appends before after) h.1 p)

-- the bytes of the stream, if it reports them
abbrev pub Fits : Option (List ℕ) → List ℕ → Type 0
Fits None bytes = ⊤
Fits (Some xs) bytes = xs ≡ bytes

-- What is left of the stream, and the bytes before that.
fits_both : (stream left : Option (List ℕ)) (bytes tail : List ℕ) → Consumes stream left bytes → Fits left tail → Fits stream (bytes ++ tail)
fits_both None left bytes tail p q = tt
fits_both (Some xs) None bytes tail p q = absurd p
fits_both (Some xs) (Some ys) bytes tail p q = p ∙ ap (λ (l : List ℕ). bytes ++ l) q

-- the bytes of a stream, or none if it does not report them
abbrev known_bytes : Option (List ℕ) → List ℕ
known_bytes None = []
known_bytes (Some xs) = xs

fits_known : (stream : Option (List ℕ)) → Fits stream (known_bytes stream)
fits_known None = tt
fits_known (Some xs) = refl

-- A session over devices, as one over known bytes.
upto_on : (stream before after : Option (List ℕ)) (bytes written : List ℕ) (start held : Meaning) (e : SyncError)
    → Fits stream bytes → Appends before after written → PullsUpTo (known_run bytes written) start held e
    → PullsUpTo (session_run stream before after) start held e
upto_on None before after bytes written start held e fits out did = record {
  gives = did.gives;
  left = None;
  session = record { each = did.session.each; text = tt };
  few = did.few;
  content = did.content;
  cause = cause_unknown start.config _ _ _ did.content did.left e did.cause;
  meaning = did.meaning;
  asked = written_on e before after written _ out did.asked;
}
upto_on (Some xs) before after bytes written start held e fits out did = record {
  gives = did.gives;
  left = did.left;
  session = record {
    each = did.session.each;
    text = subst (λ (l : List ℕ). Consumes (Some l) did.left (flat_map give_text did.gives)) (sym fits) did.session.text;
  };
  few = did.few;
  content = did.content;
  cause = did.cause;
  meaning = did.meaning;
  asked = written_on e before after written _ out did.asked;
}

-- What follows the bytes is left.
tail_text : (bytes : List ℕ) (left : Option (List ℕ)) (texts tail : List ℕ) → Consumes (Some bytes) left texts
    → Consumes (Some (bytes ++ tail)) (Some (known_bytes left ++ tail)) texts
tail_text bytes None texts tail p = absurd p
tail_text bytes (Some ys) texts tail p = ap (λ (l : List ℕ). l ++ tail) p ∙ append_assoc texts ys tail

all_on : (stream before after : Option (List ℕ)) (bytes tail written : List ℕ) (start held : Meaning)
    → Fits stream (bytes ++ tail) → Appends before after written → PullsAll (known_run bytes written) start held
    → PullsAll (session_run stream before after) start held
all_on None before after bytes tail written start held fits out did = record {
  gives = did.gives;
  left = None;
  session = record { each = did.session.each; text = tt };
  all = did.all;
  meaning = did.meaning;
  asked = subst (Appends before after) did.asked out;
}
all_on (Some xs) before after bytes tail written start held fits out did = record {
  gives = did.gives;
  left = Some (known_bytes did.left ++ tail);
  session = record {
    each = did.session.each;
    text = subst (λ (l : List ℕ). Consumes (Some l) (Some (known_bytes did.left ++ tail)) (flat_map give_text did.gives)) (sym fits)
        (tail_text bytes did.left (flat_map give_text did.gives) tail did.session.text);
  };
  all = did.all;
  meaning = did.meaning;
  asked = subst (Appends before after) did.asked out;
}

-- ---- the session continues

-- What one part of the pieces takes, and then the other.
alone_both : (before mid after : Meaning) (first second : List PulledPiece) → AreAlone before first mid → AreAlone mid second after
    → AreAlone before (first ++ second) after
alone_both before mid after [] second h k = subst (λ (m : Meaning). AreAlone m second after) h k
alone_both before mid after (c ∷ first) second h k = (h.0, alone_both c.new mid after first second h.1 k)

-- The bytes that are read come from those that are held ahead.
pub read_from : (front back : List ℕ) (source : Option (List ℕ)) → Consumes (prepend_known (front ++ back) source) (prepend_known back source) front
read_from front back None = tt
read_from front back (Some xs) = append_assoc front back xs

-- Some lines more were given to it.
pub driven_on : (start : Meaning) (run : SessionRun) (p q : Pulling) (old new : Meaning) (left right : Option (List ℕ)) (bytes before after : List ℕ)
    → PullsLines p (record { bytes = bytes; old = old; new = new }) q → JournalsAll old new before after → fault_of_pulling q ≡ None
    → Consumes left right bytes → Driven start run p old left → Driven start run q new right
driven_on start run p q old new left right bytes before after lines journals sound text d = record {
  came = d.came ++ lines.pieces;
  written = d.written;
  sound = sound;
  own = config_then old new before after journals ∙ d.own;
  pulls = lines.pulls None start d.came d.written d.own d.pulls;
  alone = alone_both start old new d.came lines.pieces d.alone lines.alone;
  text = subst (Consumes run.source right)
      (ap (λ (l : List ℕ). bytes_pulled d.came ++ l) (sym lines.whole) ∙ sym (flat_map-append (λ (c : PulledPiece). c.bytes) d.came lines.pieces))
      (Consumes-trans run.source left right (bytes_pulled d.came) bytes d.text text);
  output = d.output;
}

-- What is left may be read in another way.
pub driven_keeps : (start : Meaning) (run : SessionRun) (p : Pulling) (held : Meaning) (left right : Option (List ℕ)) → Keeps left right
    → Driven start run p held left → Driven start run p held right
driven_keeps start run p held left right same d = record {
  came = d.came;
  written = d.written;
  sound = d.sound;
  own = d.own;
  pulls = d.pulls;
  alone = d.alone;
  text = consumes_kept run.source left right (bytes_pulled d.came) d.text same;
  output = d.output;
}
  where
    consumes_kept : (a b c : Option (List ℕ)) (bs : List ℕ) → Consumes a b bs → Keeps b c → Consumes a c bs
    consumes_kept None b c bs h k = tt
    consumes_kept (Some x) None c bs h k = absurd h
    consumes_kept (Some x) (Some y) None bs h k = absurd k
    consumes_kept (Some x) (Some y) (Some z) bs h k = h ∙ ap (λ (l : List ℕ). bs ++ l) (sym k)

-- ---- it ends

-- All came.
pub driven_over : (start held : Meaning) (source before after left : Option (List ℕ)) (p : Pulling) → IsOverPulling p → due_have p ≡ []
    → Driven start (session_run source before after) p held left
    → PullsAll (session_run source before after) start held × HasGained start held (count_of_pulling p)
driven_over start held source before after left p over idle d =
    let did = over_pulls p.fault p.plan.answered p.lines start held d.came (kept_answer p) d.written (due_have p) (count_of_pulling p)
    d.sound over idle d.pulls.taken d.pulls.pulls d.alone in
    let fits = fits_both source left (bytes_pulled d.came) (known_bytes left) d.text (fits_known left) in
    (all_on source before after (bytes_pulled d.came) (known_bytes left) d.written start held fits d.output did.0, did.1)

-- What a session did that ends before that, without an error of its own.
broken_pulls : (f : Option SyncError) (answered : ℕ) (lines : AnswerLines) (start held : Meaning) (came : List PulledPiece)
    (rest output written tail : List ℕ) (count : ℕ) (d : SyncError) → f ≡ None → (lines.bucket ≡ 256 → ⊥) → count ≡ receipts_pulled came
    → (lines.is_begun ≡ true → 0 < lines.due.receipts + lines.due.records) → IsCutAt (rest ++ tail) d
    → IsWritten d (Some []) (Some written) output → PullsPieces None f answered lines start came rest output → AreAlone start came held
    → PullsUpTo (known_run (bytes_pulled came ++ tail) written) start held d × HasGained start held count
broken_pulls None answered lines start held came rest output written tail count d sound more taken some cut wrote (inl on) alone =
    let did = broken_pulled answered lines start came held rest output written tail d some cut wrote on alone in
    (did.0, subst (HasGained start held) (sym taken) did.1)
broken_pulls None answered lines start held came rest output written tail count d sound more taken some cut wrote (inr all) alone =
    absurd (more all.bucket)
broken_pulls (Some e) answered lines start held came rest output written tail count d sound more taken some cut wrote pulls alone = absurd (cc)

driven_breaks : (start held : Meaning) (source before mid after left : Option (List ℕ)) (p : Pulling) (written tail : List ℕ) (d : SyncError)
    → (is : Driven start (session_run source before mid) p held left) → (IsOverPulling p → ⊥) → Fits left tail → IsCutAt (kept_answer p ++ tail) d
    → Appends before after written → IsWritten d (Some []) (Some written) (is.written ++ due_have p)
    → StopsDriven (session_run source before after) start held p d
driven_breaks start held source before mid after left p written tail d is more fits cut out wrote =
    let did = broken_pulls p.fault p.plan.answered p.lines start held is.came (kept_answer p) (is.written ++ due_have p) written tail (count_of_pulling p) d
    is.sound more is.pulls.taken p.lines.some cut wrote is.pulls.pulls is.alone in (
      upto_on source before after (bytes_pulled is.came ++ tail) written start held d
          (fits_both source left (bytes_pulled is.came) tail is.text fits) out did.0,
      did.1,
    )

-- A device failed, or memory ran out, while nothing was to be written.
pub driven_halts : (start held : Meaning) (source before after left : Option (List ℕ)) (p : Pulling) (d : SyncError)
    → (IsOverPulling p → ⊥) → due_have p ≡ [] → (d ≡ Io) ⊎ (d ≡ NoMemory)
    → Driven start (session_run source before after) p held left → StopsDriven (session_run source before after) start held p d
driven_halts start held source before after left p d more idle why is =
    driven_breaks start held source before after after left p is.written (known_bytes left) d is more (fits_known left) (inl why) is.output
    (written_all d (Some []) (Some is.written) (is.written ++ due_have p)
    (sym (append-nil is.written) ∙ ap (λ (l : List ℕ). is.written ++ l) (sym idle)))

-- The stream ends.
pub driven_ends : (start held : Meaning) (source before after left : Option (List ℕ)) (p : Pulling)
    → (IsOverPulling p → ⊥) → due_have p ≡ [] → IsAtEnd left
    → Driven start (session_run source before after) p held left → StopsDriven (session_run source before after) start held p Truncated
driven_ends start held source before after left p more idle ends is =
    driven_breaks start held source before after after left p is.written [] Truncated is more (at_end left ends)
    (inr (refl, subst HasNoFeed (sym (append-nil (kept_answer p))) (kept_plain p.part.has_ended p.part.line.items p.part.unbroken))) is.output
    (sym (append-nil is.written) ∙ ap (λ (l : List ℕ). is.written ++ l) (sym idle))
  where
    at_end : (stream : Option (List ℕ)) → IsAtEnd stream → Fits stream []
    at_end None h = tt
    at_end (Some xs) h = h

-- The sink failed.
pub driven_unsent : (start held : Meaning) (source before old new left : Option (List ℕ)) (p : Pulling)
    → (due_have p ≡ [] → ⊥) → AppendsBeginning old new (due_have p)
    → Driven start (session_run source before old) p held left → StopsDriven (session_run source before new) start held p Io
driven_unsent start held source before old new left p some begun is =
    driven_breaks start held source before old new left p (is.written ++ take begun.0 (due_have p)) (known_bytes left) Io is
    (λ over. some (is.pulls.ended over)) (fits_known left) (inl (inl refl))
    (Appends-trans before old new is.written (take begun.0 (due_have p)) is.output begun.1)
    (begins-second (Some []) (Some is.written) (Some (is.written ++ take begun.0 (due_have p))) is.written (due_have p) refl (begun.0, refl))

-- ---- a line has an error

-- A device or memory may stop it at the place of an error.
to_device : (m : Meaning) (bucket first : ℕ) (content : State) (stream : Option (List ℕ)) (e d : SyncError) → (d ≡ Io) ⊎ (d ≡ NoMemory)
    → StopsAnswer m bucket first content stream e → StopsAnswer m bucket first content stream d
to_device m bucket first content stream e d (inl io) (inl head) =
    inl (record { after = None; cause = subst (RefusesHead _ stream None) (sym io) tt; none = head.none })
to_device m bucket first content stream e d (inr out) (inl head) =
    inl (record { after = None; cause = subst (RefusesHead _ stream None) (sym out) tt; none = head.none })
to_device m bucket first content stream e d (inl io) (inr among) = inr (record {
  count = among.count;
  distrusts = among.distrusts;
  further = among.further;
  after = None;
  begins = among.begins;
  cause = subst (RefusesNextEntry _ among.count among.distrusts content among.further None) (sym io) tt;
})
to_device m bucket first content stream e d (inr out) (inr among) = inr (record {
  count = among.count;
  distrusts = among.distrusts;
  further = among.further;
  after = None;
  begins = among.begins;
  cause = subst (RefusesNextEntry _ among.count among.distrusts content among.further None) (sym out) tt;
})

-- which error ends a session that found this one in the bytes, if these follow
abbrev pub EndsLater : List ℕ → List ℕ → SyncError → SyncError → Type 0
EndsLater bytes tail why d = (d ≡ Io)
    ⊎ (((d ≡ why) × (EndsInFeed bytes ⊎ (HasNoFeed tail → ⊥))) ⊎ ((d ≡ Truncated) × HasNoFeed (bytes ++ tail)))

abbrev pub EndsSo : List ℕ → List ℕ → SyncError → SyncError → Type 0
EndsSo bytes tail why d = ((why ≡ NoMemory) × (d ≡ NoMemory)) ⊎ ((why ≢ NoMemory) × EndsLater bytes tail why d)

-- the answer stops so
abbrev StopsTail : (start : Meaning) (came : List PulledPiece) (last : PulledPiece) (output : List ℕ) (e : SyncError)
    → StopsAt None start came last output e → List ℕ → SyncError → Type 0
StopsTail start came last output e stops tail d = StopsAnswer last.old (length stops.gives) (lines_pulled stops.gives + 1) stops.content
    (Some ((bytes_pulled stops.part ++ last.bytes) ++ tail)) d

device_stops : (start : Meaning) (came : List PulledPiece) (last : PulledPiece) (output tail : List ℕ) (e d : SyncError)
    → (stops : StopsAt None start came last output e) → (d ≡ Io) ⊎ (d ≡ NoMemory) → StopsTail start came last output e stops tail d
device_stops start came last output tail e d stops why =
    elim (find_feed (last.bytes ++ tail)) [
      | inl none ↦ to_device _ _ _ stops.content _ Truncated d why (stops.cut tail none)
      | inr first ↦ to_device _ _ _ stops.content _ e d why (stops.cause tail (found_feed (last.bytes ++ tail) first.text first.rest first.parts))
    ]

some_last : (last : PulledPiece) (e : SyncError) → e ≢ NoMemory → (e ≡ NoMemory) ⊎ (0 < length last.bytes) → 0 < length last.bytes
some_last last e ample (inl out) = absurd (ample out)
some_last last e ample (inr some) = some

later_stops : (start : Meaning) (came : List PulledPiece) (front bytes : List ℕ) (last : PulledPiece) (output tail : List ℕ) (e d : SyncError)
    → (stops : StopsAt None start came last output e) → front ++ last.bytes ≡ bytes → e ≢ NoMemory → EndsLater bytes tail e d
    → StopsTail start came last output e stops tail d
later_stops start came front bytes last output tail e d stops parts ample (inl io) = device_stops start came last output tail e d stops (inl io)
later_stops start came front bytes last output tail e d stops parts ample (inr (inl same)) =
    subst (StopsTail start came last output e stops tail) (sym same.0)
    (stops.cause tail (λ none. elim same.1 [
      | inl ends ↦ feed_in_last front last.bytes ends.0 (some_last last e ample stops.some) (parts ∙ ends.1) (plain_front last.bytes tail none)
      | inr feed ↦ feed (plain_back last.bytes tail none)
    ]))
later_stops start came front bytes last output tail e d stops parts ample (inr (inr cut)) =
    subst (StopsTail start came last output e stops tail) (sym cut.0)
    (stops.cut tail (plain_back front (last.bytes ++ tail)
    (subst HasNoFeed (ap (λ (l : List ℕ). l ++ tail) (sym parts) ∙ append_assoc front last.bytes tail) cut.1)))

now_stops : (start held : Meaning) (came : List PulledPiece) (front bytes : List ℕ) (last : PulledPiece) (output tail : List ℕ) (e d : SyncError)
    → StopsNow None start came last output e → front ++ last.bytes ≡ bytes → EndsSo bytes tail e d → AreAlone start (came ++ last ∷ []) held
    → PullsUpTo (known_run (bytes_pulled (came ++ last ∷ []) ++ tail) output) start held d
    × HasGained start held (receipts_pulled (came ++ last ∷ []))
unfolding at_feed
now_stops start held came front bytes last output tail e d (inl stops) parts (inl out) alone =
    stopped_there start (came ++ last ∷ []) held output e d tail (at_feed None start came last output e stops) alone
    (device_stops start came last output tail e d stops (inr out.1))
now_stops start held came front bytes last output tail e d (inl stops) parts (inr later) alone =
    stopped_there start (came ++ last ∷ []) held output e d tail (at_feed None start came last output e stops) alone
    (later_stops start came front bytes last output tail e d stops parts later.0 later.1)
now_stops start held came front bytes last output tail e d (inr asking) parts (inl out) alone =
    subst (λ (b : SyncError). PullsUpTo (known_run (bytes_pulled (came ++ last ∷ []) ++ tail) output) start held b
    × HasGained start held (receipts_pulled (came ++ last ∷ []))) (out.0 ∙ sym out.1)
    (unasked_pulled start (came ++ last ∷ []) held output e tail asking alone)
now_stops start held came front bytes last output tail e d (inr asking) parts (inr later) alone = absurd (later.0 asking.cause)

-- The session ends with such an error.
pub driven_stops : (start held : Meaning) (run : SessionRun) (left right : Option (List ℕ)) (p q : Pulling) (old : Meaning) (bytes tail : List ℕ)
    (e d : SyncError) → PullsLines p (record { bytes = bytes; old = old; new = held }) q → fault_of_pulling q ≡ Some e → Consumes left right bytes
    → Fits right tail → EndsSo bytes tail e d → Driven start run p old left → StopsDriven run start held q d
driven_stops start held run left right p q old bytes tail e d lines stopped text fits so is =
    let among = lines.stops e is.sound stopped in
    let whole : is.came ++ lines.pieces ≡ (is.came ++ among.front) ++ among.last ∷ [] =
    ap (λ (l : List PulledPiece). is.came ++ l) among.order ∙ sym (append_assoc is.came among.front (among.last ∷ [])) in
    let alone = alone_both start old held is.came lines.pieces is.alone lines.alone in
    let parts : bytes_pulled among.front ++ among.last.bytes ≡ bytes =
    sym (flat_map-append (λ (c : PulledPiece). c.bytes) among.front (among.last ∷ [])
    ∙ ap (λ (l : List ℕ). bytes_pulled among.front ++ l) (append-nil among.last.bytes))
    ∙ ap bytes_pulled (sym among.order) ∙ lines.whole in
    let did = now_stops start held (is.came ++ among.front) (bytes_pulled among.front) bytes among.last is.written tail e d
    (among.stops None start is.came is.written is.own is.pulls) parts so (subst (λ (l : List PulledPiece). AreAlone start l held) whole alone) in
    let pulls = lines.pulls None start is.came is.written is.own is.pulls in
    let all : bytes_pulled (is.came ++ lines.pieces) ≡ bytes_pulled is.came ++ bytes =
    flat_map-append (λ (c : PulledPiece). c.bytes) is.came lines.pieces ∙ ap (λ (l : List ℕ). bytes_pulled is.came ++ l) lines.whole in
    let stream : Fits run.source (bytes_pulled (is.came ++ lines.pieces) ++ tail) =
    fits_both run.source right (bytes_pulled (is.came ++ lines.pieces)) tail
    (subst (Consumes run.source right) (sym all) (Consumes-trans run.source left right (bytes_pulled is.came) bytes is.text text)) fits in
    let there = subst (λ (l : List PulledPiece). PullsUpTo (known_run (bytes_pulled l ++ tail) is.written) start held d
    × HasGained start held (receipts_pulled l)) (sym whole) did in (
      upto_on run.source run.before run.after (bytes_pulled (is.came ++ lines.pieces) ++ tail) is.written start held d stream is.output there.0,
      subst (HasGained start held) (sym pulls.taken) there.1,
    )

-- An error of a line is not a device's.
pub driven_own : (start : Meaning) (run : SessionRun) (left : Option (List ℕ)) (p q : Pulling) (old new : Meaning) (bytes : List ℕ) (e : SyncError)
    → PullsLines p (record { bytes = bytes; old = old; new = new }) q → fault_of_pulling q ≡ Some e → Driven start run p old left → e ≢ Io
driven_own start run left p q old new bytes e lines stopped is same =
    let among = lines.stops e is.sound stopped in
    elim (among.stops None start is.came is.written is.own is.pulls) [
      | inl stops ↦ stops.own same
      | inr asking ↦ absurd (let a = asking.cause in cc)
    ]

-- ---- it begins

-- Memory ran out before anything was asked.
pub unbegun : (start : Meaning) (stream before : Option (List ℕ)) (e : SyncError) → e ≡ NoMemory
    → PullsUpTo (session_run stream before before) start start e × HasGained start start 0
unbegun start stream before e out = (
  subst (PullsUpTo (session_run stream before before) start start) (sym out) (record {
    gives = [];
    left = stream;
    session = record { each = tt; text = Consumes-nil stream };
    few = omega arith;
    content = no_state;
    cause = inl (record { after = None; cause = tt; none = refl });
    meaning = refl;
    asked = (0, Appends-nil before);
  }),
  omega arith,
)

-- The stream is at its end if nothing is held ahead and the source is at its end.
pub ends_there : (ahead : List ℕ) (source : Option (List ℕ)) → ahead ≡ [] → IsAtEnd source → IsAtEnd (prepend_known ahead source)
ends_there ahead None none ends = tt
ends_there ahead (Some xs) none ends = ap (λ (l : List ℕ). l ++ xs) none ∙ ends

-- What is held ahead was filled.
pub driven_filled : (start : Meaning) (run : SessionRun) (p : Pulling) (held : Meaning) (old kept new : List ℕ) (source after : Option (List ℕ))
    → kept ≡ old → Keeps (prepend_known kept source) (prepend_known new after)
    → Driven start run p held (prepend_known old source) → Driven start run p held (prepend_known new after)
driven_filled start run p held old kept new source after same keeps d =
    driven_keeps start run p held (prepend_known old source) (prepend_known new after)
    (subst (λ (l : List ℕ). Keeps (prepend_known l source) (prepend_known new after)) same keeps) d

-- A session without an error ends within an answer.
pub ended_within : {T : Type 0} (r : Result T SyncError) (f : Option SyncError) (K : Type 0) (Q : SyncError → Type 0) → f ≡ None
    → IfErr r (λ e. (f ≡ Some e) ⊎ ((f ≡ None) × (e ≡ Truncated) × K)) → Q Truncated → IfErr r Q
ended_within (Ok value) f K Q sound why q = tt
ended_within (Err e) f K Q sound why q = subst Q (sym (within_have f e K sound why).0) q

-- ---- what was read is given to it

-- What comes of a source that was not read ahead.
unread : (stream : Option (List ℕ)) → prepend_known [] stream ≡ stream
unread None = refl
unread (Some xs) = refl

-- The first bytes of those that are held ahead.
read_first : (count : ℕ) (ahead : List ℕ) (source : Option (List ℕ))
    → Consumes (prepend_known ahead source) (prepend_known (drop count ahead) source) (take count ahead)
read_first count ahead source =
    subst (λ (l : List ℕ). Consumes (prepend_known l source) (prepend_known (drop count ahead) source) (take count ahead)) (take-append-drop count ahead)
    (read_from (take count ahead) (drop count ahead) source)

-- A beginning of the bytes was taken.
pub went_on : (start : Meaning) (run : SessionRun) (p q : Pulling) (old new : Meaning) (ahead before after : List ℕ) (count used : ℕ) (source : Option (List ℕ))
    → used ≤ length (take count ahead) → PullsLines p (record { bytes = take used (take count ahead); old = old; new = new }) q
    → JournalsAll old new before after → fault_of_pulling q ≡ None
    → Driven start run p old (prepend_known ahead source) → Driven start run q new (prepend_known (drop used ahead) source)
went_on start run p q old new ahead before after count used source within lines journals sound is =
    let size = length-take count ahead in
    driven_on start run p q old new (prepend_known ahead source) (prepend_known (drop used ahead) source) (take used (take count ahead)) before after
    lines journals sound
    (subst (Consumes (prepend_known ahead source) (prepend_known (drop used ahead) source)) (sym (take-take used count ahead (omega (arith, within, size))))
    (read_first used ahead source)) is

-- Memory ran out, or not.
is_memory : (e : SyncError) → (e ≡ NoMemory) ⊎ (e ≢ NoMemory)
is_memory BadHeader = inr (λ same. absurd (cc))
is_memory ConfigDiffers = inr (λ same. absurd (cc))
is_memory VersionDiffers = inr (λ same. absurd (cc))
is_memory (NotCanonical n) = inr (λ same. absurd (cc))
is_memory (NotRising n) = inr (λ same. absurd (cc))
is_memory BadCount = inr (λ same. absurd (cc))
is_memory Truncated = inr (λ same. absurd (cc))
is_memory (Refused n why) = inr (λ same. absurd (cc))
is_memory Io = inr (λ same. absurd (cc))
is_memory NoMemory = inl refl

-- An error is immediately that of the session if its line ended, or if memory ran out.
ends_here : (bytes tail : List ℕ) (e : SyncError) → EndsInFeed bytes ⊎ (e ≡ NoMemory) → EndsSo bytes tail e e
ends_here bytes tail e (inl ends) = elim (is_memory e) [ inl out ↦ inl (out, out) | inr ample ↦ inr (ample, inr (inl (refl, inl ends))) ]
ends_here bytes tail e (inr out) = inl (out, out)

-- The line that has the error ended, or memory ran out.
pub stops_here : (start held : Meaning) (run : SessionRun) (p q : Pulling) (old : Meaning) (ahead : List ℕ) (count : ℕ) (source : Option (List ℕ))
    (e : SyncError) → PullsLines p (record { bytes = take count ahead; old = old; new = held }) q → fault_of_pulling q ≡ Some e
    → EndsInFeed (take count ahead) ⊎ (e ≡ NoMemory) → Driven start run p old (prepend_known ahead source) → StopsDriven run start held q e
stops_here start held run p q old ahead count source e lines stopped ends is =
    let right = prepend_known (drop count ahead) source in
    driven_stops start held run (prepend_known ahead source) right p q old (take count ahead) (known_bytes right) e e lines stopped
    (read_first count ahead source) (fits_known right) (ends_here (take count ahead) (known_bytes right) e ends) is

-- what follows the bytes, and how the session ends then
record EndsWithTail (bytes : List ℕ) (source : Option (List ℕ)) (e d : SyncError) : Type 0 where
  pub tail : List ℕ
  pub fits : Fits source tail
  pub so : EndsLater bytes tail e d

feed_comes : (xs text : List ℕ) (after : Option (List ℕ)) → HasLine (Some xs) after text → HasNoFeed xs → ⊥
feed_comes xs text None is = absurd is.1
feed_comes xs text (Some ys) is = found_feed xs text ys (is.1 ∙ append_assoc text (10 ∷ []) ys)

tail_of_error : (bytes : List ℕ) (source : Option (List ℕ)) (e d : SyncError) → HasNoFeed bytes → (d ≡ Io) ⊎ IsLineError e (prepend_known bytes source) d
    → EndsWithTail bytes source e d
tail_of_error bytes source e d plain (inl io) = record { tail = known_bytes source; fits = fits_known source; so = inl io }
tail_of_error bytes None e d plain (inr (inl same)) = record {
  tail = 10 ∷ [];
  fits = tt;
  so = inr (inl (same.0, inr (λ none. found_feed (10 ∷ []) [] [] refl none)));
}
tail_of_error bytes (Some xs) e d plain (inr (inl same)) = record {
  tail = xs;
  fits = refl;
  so = inr (inl (
    same.0,
    inr (λ none. feed_comes (bytes ++ xs) same.1.0 same.1.1 same.1.2 (All-append (λ (b : ℕ). b ≢ 10) bytes xs plain none)),
  ));
}
tail_of_error bytes None e d plain (inr (inr cut)) = record {
  tail = [];
  fits = tt;
  so = inr (inr (cut.0, subst HasNoFeed (sym (append-nil bytes)) plain));
}
tail_of_error bytes (Some xs) e d plain (inr (inr cut)) = record { tail = xs; fits = refl; so = inr (inr cut) }

-- It has not.
pub stops_within : (start held : Meaning) (run : SessionRun) (p q : Pulling) (old : Meaning) (ahead : List ℕ) (count : ℕ) (source : Option (List ℕ))
    (e d : SyncError) → count ≡ length ahead → PullsLines p (record { bytes = take count ahead; old = old; new = held }) q → fault_of_pulling q ≡ Some e
    → HasNoFeed ahead → e ≢ NoMemory → (d ≡ Io) ⊎ IsLineError e (prepend_known ahead source) d → Driven start run p old (prepend_known ahead source)
    → StopsDriven run start held q d
stops_within start held run p q old ahead count source e d all lines stopped plain ample why is =
    let whole : take count ahead ≡ ahead = take_all count ahead (omega (arith, all)) in
    let tail = tail_of_error ahead source e d plain why in
    let none : drop count ahead ≡ [] = drop_all count ahead (omega (arith, all)) in
    driven_stops start held run (prepend_known ahead source) source p q old (take count ahead) tail.tail e d lines stopped
    (subst (λ (s : Option (List ℕ)). Consumes (prepend_known ahead source) s (take count ahead))
    (ap (λ (l : List ℕ). prepend_known l source) none ∙ unread source) (read_first count ahead source)) tail.fits
    (inr (ample, subst (λ (l : List ℕ). EndsLater l tail.tail e d) (sym whole) tail.so)) is

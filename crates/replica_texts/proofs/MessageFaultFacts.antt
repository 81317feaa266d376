-- A stream has one error at most, except for a source that fails and for lack of memory: haves and
-- answers.
use Rattle.std.proofs.Common.{◌≡◌, ◌≢◌, ℕ, ◌<◌, ◌⊎◌, inl, inr, List, ◌++◌, length, Option}
use Rattle.std.proofs.Common.{None, Some, refl, ap, sym, ◌∙◌, subst, arith, append_assoc}
use Rattle.std.proofs.lemmas.Bool.{cases_lt}
use Rattle.std.proofs.lemmas.List.{append_cancel_left}
use Rattle.fed_config.specs.Configuration.{Configuration}
use Rattle.byte_lines.specs.Lines.{lines_of, HasLine, HasNoFeed, HasNoLine}
use Rattle.replica_core.specs.State.{State}
use Rattle.replica_texts.specs.Entries.{IsEntry, IsNoLineOf, RefusesEntryText, placed_line}
use Rattle.replica_core.specs.declared.entry.Entry.{Entry}
use Rattle.replica_texts.specs.Snapshots.{ended, last_of, text_of_lines}
use Rattle.replica_texts.specs.declared.entry_line.Wanted.{Wanted}
use Rattle.replica_texts.specs.declared.entry_line.Wanted.TheVariants.{Records, Receipts, Either}
use Rattle.replica_core.specs.declared.error.SyncError.{SyncError}
use Rattle.replica_core.specs.declared.error.SyncError.TheVariants.{BadHeader, ConfigDiffers, VersionDiffers, NotCanonical, NotRising, Truncated}
use Rattle.replica_core.specs.declared.error.SyncError.TheVariants.{Refused, Io, NoMemory}
use Rattle.replica_texts.specs.Messages.{AnyHave, GiveHeader}
use Rattle.replica_texts.specs.FirstLines.{HasBadFirstLine, RefusesHaveLine, RefusesFirstLine, RefusesGiveLine}
use Rattle.replica_texts.specs.Haves.{RefusesHave}
use Rattle.replica_texts.specs.Gives.{GiveBegins, GiveFailsAfter, HasBadNext, HasNoNext, IsBegun, RefusesGive, RefusesHead, RefusesNextEntry, Wants}
use Rattle.replica_texts.specs.Gives.{content_lines, next_entry_number, refused_text}
use Rattle.replica_texts.proofs.OneHaveFacts.{no-other}
use Rattle.replica_texts.proofs.FeedlessFacts.{no-first, plain-give-header, same-line}
use Rattle.replica_texts.proofs.FirstLineFacts.{one-asked, one-give-header}
use Rattle.replica_texts.proofs.GatherFacts.{short-entry}
use Rattle.replica_texts.proofs.GiveFacts.{no-bad-head, no-next-fault, no-text-fault, same-front, same-lines, some-once}
use Rattle.replica_texts.proofs.OneFacts.{held_back}

-- ---- the first line of a stream

-- A stream of known bytes has one first line at most.
pub one-first-line : (bytes text other : List ℕ) (new since : Option (List ℕ)) → HasLine (Some bytes) new text → HasLine (Some bytes) since other
    → text ≡ other
one-first-line bytes text other None since is valid = absurd is.1
one-first-line bytes text other (Some after) None is valid = absurd valid.1
one-first-line bytes text other (Some after) (Some rest) is valid = (same-line bytes text other after rest is.0 valid.0 is.1 valid.1).line

-- A stream with a first line is not without one.
pub line-or-none : (bytes text : List ℕ) (new : Option (List ℕ)) → HasLine (Some bytes) new text → HasNoLine (Some bytes) → ⊥
line-or-none bytes text None is none = is.1
line-or-none bytes text (Some after) is none = no-first bytes text after is.0 is.1 none

-- One line has one error, if a line that is not too long has one.
one-line-fault : (refuses : List ℕ → SyncError → Type 0) (text : List ℕ) (d e : SyncError) → (refuses text d → refuses text e → d ≡ e)
    → RefusesFirstLine refuses text d → RefusesFirstLine refuses text e → d ≡ e
one-line-fault refuses text d e one (inl long) (inl other) = long.0 ∙ sym other.0
one-line-fault refuses text d e one (inl long) (inr short) = absurd (omega (arith, long.1, short.0))
one-line-fault refuses text d e one (inr short) (inl long) = absurd (omega (arith, long.1, short.0))
one-line-fault refuses text d e one (inr p) (inr q) = one p.1 q.1

-- The stream's first line has the error, or there is no line.
abbrev FailsAtFirst : (List ℕ → SyncError → Type 0) → List ℕ → Option (List ℕ) → SyncError → Type 0
FailsAtFirst refuses bytes new e = HasBadFirstLine refuses (Some bytes) new e ⊎ ((e ≡ Truncated) × HasNoLine (Some bytes))

-- If a first line has one error at most, so has the stream there.
one-first-fault : (refuses : List ℕ → SyncError → Type 0) (bytes : List ℕ) (new since : Option (List ℕ)) (d e : SyncError)
    → ((text : List ℕ) → refuses text d → refuses text e → d ≡ e) → FailsAtFirst refuses bytes new d → FailsAtFirst refuses bytes since e → d ≡ e
one-first-fault refuses bytes new since d e one (inl h) (inl k) =
    let same = one-first-line bytes k.text h.text since new k.is h.is in
    one-line-fault refuses h.text d e (one h.text) h.cause (subst (λ (t : List ℕ). RefusesFirstLine refuses t e) same k.cause)
one-first-fault refuses bytes new since d e one (inl h) (inr k) = absurd (line-or-none bytes h.text new h.is k.1)
one-first-fault refuses bytes new since d e one (inr h) (inl k) = absurd (line-or-none bytes k.text since k.is h.1)
one-first-fault refuses bytes new since d e one (inr h) (inr k) = h.0 ∙ sym k.0

-- ---- haves

-- A line of a have has one error at most.
one-asked-fault : (config : Option Configuration) (text : List ℕ) (d e : SyncError) → d ≢ NoMemory → e ≢ NoMemory
    → RefusesHaveLine config text d → RefusesHaveLine config text e → d ≡ e
one-asked-fault config text BadHeader BadHeader m n p q = refl
one-asked-fault config text BadHeader ConfigDiffers m n p q = absurd (p q.asked q.line)
one-asked-fault config text BadHeader VersionDiffers m n p q = absurd (p q.asked q.line)
one-asked-fault config text ConfigDiffers BadHeader m n p q = absurd (q p.asked p.line)
one-asked-fault config text ConfigDiffers ConfigDiffers m n p q = refl
one-asked-fault config text ConfigDiffers VersionDiffers m n p q =
    let same = one-asked text p.asked q.asked p.line q.line in
    absurd (no-other config q.asked.have.config p.asked.have.config q.own (ap (λ (a : AnyHave). a.have.config) same) p.other)
one-asked-fault config text VersionDiffers BadHeader m n p q = absurd (q p.asked p.line)
one-asked-fault config text VersionDiffers ConfigDiffers m n p q =
    let same = one-asked text q.asked p.asked q.line p.line in
    absurd (no-other config p.asked.have.config q.asked.have.config p.own (ap (λ (a : AnyHave). a.have.config) same) q.other)
one-asked-fault config text VersionDiffers VersionDiffers m n p q = refl
one-asked-fault config text d NoMemory m n p q = absurd (n refl)
one-asked-fault config text NoMemory e m n p q = absurd (m refl)
one-asked-fault config text BadHeader e m n p q = absurd q
one-asked-fault config text ConfigDiffers e m n p q = absurd q
one-asked-fault config text VersionDiffers e m n p q = absurd q
one-asked-fault config text d e m n p q = absurd p

-- Why no have is read, in two cases.
at-have : (config : Option Configuration) (bytes : List ℕ) (new : Option (List ℕ)) (e : SyncError) → e ≢ Io → e ≢ NoMemory
    → RefusesHave config (Some bytes) new e → FailsAtFirst (RefusesHaveLine config) bytes new e
at-have config bytes new BadHeader calm ample h = inl h
at-have config bytes new ConfigDiffers calm ample h = inl h
at-have config bytes new VersionDiffers calm ample h = inl h
at-have config bytes new Truncated calm ample h = inr (refl, h)
at-have config bytes new Io calm ample h = absurd (calm refl)
at-have config bytes new NoMemory calm ample h = absurd (ample refl)
at-have config bytes new e calm ample h = absurd h

-- The clause `one_cause` of the law on haves.
pub one-have-cause : (config : Option Configuration) (bytes : List ℕ) (new since : Option (List ℕ)) (d e : SyncError)
    → d ≢ Io → d ≢ NoMemory → e ≢ Io → e ≢ NoMemory
    → RefusesHave config (Some bytes) new d → RefusesHave config (Some bytes) since e → d ≡ e
one-have-cause config bytes new since d e c m k n p q =
    one-first-fault (RefusesHaveLine config) bytes new since d e (λ text. one-asked-fault config text d e m n)
    (at-have config bytes new d c m p) (at-have config bytes since e k n q)

-- ---- the first line of an answer

-- The first line of an answer has one error at most.
one-give-header-fault : (text : List ℕ) (d e : SyncError) → d ≢ NoMemory → e ≢ NoMemory → RefusesGiveLine None text d → RefusesGiveLine None text e → d ≡ e
one-give-header-fault text BadHeader BadHeader m n p q = refl
one-give-header-fault text BadHeader ConfigDiffers m n p q = absurd (p q.header q.wanted)
one-give-header-fault text BadHeader VersionDiffers m n p q = absurd (p q.header q.wanted)
one-give-header-fault text ConfigDiffers e m n p q = absurd p.other
one-give-header-fault text VersionDiffers BadHeader m n p q = absurd (q p.header p.wanted)
one-give-header-fault text VersionDiffers ConfigDiffers m n p q = absurd q.other
one-give-header-fault text VersionDiffers VersionDiffers m n p q = refl
one-give-header-fault text d NoMemory m n p q = absurd (n refl)
one-give-header-fault text NoMemory e m n p q = absurd (m refl)
one-give-header-fault text BadHeader e m n p q = absurd q
one-give-header-fault text VersionDiffers e m n p q = absurd q
one-give-header-fault text d e m n p q = absurd p

-- Why no first line of an answer is read, in two cases.
at-head : (bytes : List ℕ) (new : Option (List ℕ)) (e : SyncError) → e ≢ Io → e ≢ NoMemory
    → RefusesHead None (Some bytes) new e → FailsAtFirst (RefusesGiveLine None) bytes new e
at-head bytes new BadHeader calm ample h = inl h
at-head bytes new ConfigDiffers calm ample h = inl h
at-head bytes new VersionDiffers calm ample h = inl h
at-head bytes new Truncated calm ample h = inr (refl, h)
at-head bytes new Io calm ample h = absurd (calm refl)
at-head bytes new NoMemory calm ample h = absurd (ample refl)
at-head bytes new e calm ample h = absurd h

-- the stream begins with this first line, and what follows it
begun-line : (bytes : List ℕ) (count distrusts : ℕ) (content : State) (left : List ℕ)
    → (b : GiveBegins None (Some bytes) count distrusts content (Some left))
    → HasLine (Some bytes) (Some (text_of_lines (content_lines content) ++ left)) b.first
begun-line bytes count distrusts content left b =
    let header = b.heads.wanted.line in (
      subst (λ (t : List ℕ). HasNoFeed t) (sym header.spelt) (plain-give-header b.heads.header header.is),
      b.text ∙ append_assoc (ended b.first) (text_of_lines (content_lines content)) left,
    )

-- After a first line that is read there is no error of the first line.
no-head-cause : (bytes : List ℕ) (new : Option (List ℕ)) (e : SyncError) (count distrusts : ℕ) (content : State) (left : List ℕ)
    → e ≢ NoMemory → GiveBegins None (Some bytes) count distrusts content (Some left) → FailsAtFirst (RefusesGiveLine None) bytes new e → ⊥
no-head-cause bytes new e count distrusts content left ample b (inl h) =
    let same = one-first-line bytes h.text b.first new (Some (text_of_lines (content_lines content) ++ left)) h.is
    (begun-line bytes count distrusts content left b) in
    no-bad-head None b.first count distrusts e b.heads ample (subst (λ (t : List ℕ). RefusesFirstLine (RefusesGiveLine None) t e) same h.cause)
no-head-cause bytes new e count distrusts content left ample b (inr h) =
    line-or-none bytes b.first (Some (text_of_lines (content_lines content) ++ left)) (begun-line bytes count distrusts content left b) h.1

-- ---- the next line of an answer

-- One kind of line is wanted at a place.
one-wanted : (count distrusts : ℕ) (content : State) (v w : Wanted) → Wants count distrusts content v → Wants count distrusts content w → v ≡ w
one-wanted count distrusts content Records Records p q = refl
one-wanted count distrusts content Records Receipts p q = absurd (omega (arith, p, q.0))
one-wanted count distrusts content Receipts Records p q = absurd (omega (arith, q, p.0))
one-wanted count distrusts content Receipts Receipts p q = refl
one-wanted count distrusts content Either w p q = absurd p
one-wanted count distrusts content v Either p q = absurd q

-- What says something is a line that may be there.
pub no-entry-here : (wanted : Wanted) (text : List ℕ) → IsNoLineOf wanted text → (entry : Entry) → IsEntry wanted text entry → ⊥
no-entry-here wanted text (inl long) entry is = let short = short-entry wanted text entry is in omega (arith, long, short)
no-entry-here wanted text (inr none) entry is = none entry is

-- A text has one error at most if a line of this kind is wanted.
one-text-fault : (wanted : Wanted) (last : List ℕ) (number : ℕ) (text : List ℕ) (d e : SyncError) → d ≢ NoMemory → e ≢ NoMemory
    → RefusesEntryText (placed_line wanted last number text) d → RefusesEntryText (placed_line wanted last number text) e → d ≡ e
one-text-fault wanted last number text (NotCanonical n) (NotCanonical k) l m p q = ap NotCanonical (p.0 ∙ sym q.0)
one-text-fault wanted last number text (NotCanonical n) (NotRising k) l m p q = absurd (no-entry-here wanted text p.1 q.1.entry q.1.is)
one-text-fault wanted last number text (NotRising n) (NotCanonical k) l m p q = absurd (no-entry-here wanted text q.1 p.1.entry p.1.is)
one-text-fault wanted last number text (NotRising n) (NotRising k) l m p q = ap NotRising (p.0 ∙ sym q.0)
one-text-fault wanted last number text d NoMemory l m p q = absurd (m refl)
one-text-fault wanted last number text NoMemory e l m p q = absurd (l refl)
one-text-fault wanted last number text (NotCanonical n) e l m p q = absurd q
one-text-fault wanted last number text (NotRising n) e l m p q = absurd q
one-text-fault wanted last number text d e l m p q = absurd p

-- The next line has the error, or is wanted and missing.
abbrev FailsAtNext : ℕ → ℕ → State → List ℕ → Option (List ℕ) → SyncError → Type 0
FailsAtNext count distrusts content left new e = HasBadNext (refused_text content) count distrusts content (Some left) new e
    ⊎ ((e ≡ Truncated) × HasNoNext count distrusts content (Some left))

-- Why the next line is not read, in two cases.
at-next : (count distrusts : ℕ) (content : State) (left : List ℕ) (new : Option (List ℕ)) (e : SyncError) → e ≢ Io → e ≢ NoMemory
    → RefusesNextEntry (refused_text content) count distrusts content (Some left) new e → FailsAtNext count distrusts content left new e
at-next count distrusts content left new (NotCanonical n) calm ample h = inl h
at-next count distrusts content left new (NotRising n) calm ample h = inl h
at-next count distrusts content left new (Refused n why) calm ample h = inl h
at-next count distrusts content left new Truncated calm ample h = inr (refl, h)
at-next count distrusts content left new Io calm ample h = absurd (calm refl)
at-next count distrusts content left new NoMemory calm ample h = absurd (ample refl)
at-next count distrusts content left new e calm ample h = absurd h

-- After one beginning of an answer there is one error at most.
one-next-fault : (count distrusts : ℕ) (content : State) (left : List ℕ) (new since : Option (List ℕ)) (d e : SyncError) → d ≢ NoMemory → e ≢ NoMemory
    → FailsAtNext count distrusts content left new d → FailsAtNext count distrusts content left since e → d ≡ e
one-next-fault count distrusts content left new since d e m n (inl h) (inl k) =
    let text = one-first-line left k.text h.text since new k.is h.is in
    let wanted = one-wanted count distrusts content k.wanted h.wanted k.wants h.wants in
    one-text-fault h.wanted (last_of (content_lines content)) (next_entry_number 1 content) h.text d e m n h.cause
    (subst (λ (w : Wanted). refused_text content w (last_of (content_lines content)) h.text e) wanted
    (subst (λ (t : List ℕ). refused_text content k.wanted (last_of (content_lines content)) t e) text k.cause))
one-next-fault count distrusts content left new since d e m n (inl h) (inr k) = absurd (line-or-none left h.text new h.is k.1.ends)
one-next-fault count distrusts content left new since d e m n (inr h) (inl k) = absurd (line-or-none left k.text since k.is h.1.ends)
one-next-fault count distrusts content left new since d e m n (inr h) (inr k) = h.0 ∙ sym k.0

-- ---- two beginnings of one answer

-- Both are beginnings of one answer with this many receipts and records, and the same lines follow
-- the first line.
record AreOfOne (count distrusts : ℕ) (content other : State) (left rest : List ℕ) : Type 0 where
  pub begun : IsBegun count distrusts content
  pub second : IsBegun count distrusts other
  pub follows : text_of_lines (content_lines content) ++ left ≡ text_of_lines (content_lines other) ++ rest
  pub lines : content_lines content ++ (lines_of left).whole ≡ content_lines other ++ (lines_of rest).whole

-- Both readings may change places.
turned-round : (count distrusts : ℕ) (content other : State) (left rest : List ℕ) → AreOfOne count distrusts content other left rest
    → AreOfOne count distrusts other content rest left
turned-round count distrusts content other left rest one =
    record { begun = one.second; second = one.begun; follows = sym one.follows; lines = sym one.lines }

-- After the shorter of the two there is no error.
shorter-fine : (count distrusts : ℕ) (content other : State) (left rest : List ℕ) (new : Option (List ℕ)) (e : SyncError)
    → AreOfOne count distrusts content other left rest → length (content_lines content) < length (content_lines other)
    → e ≢ Io → e ≢ NoMemory → RefusesNextEntry (refused_text content) count distrusts content (Some left) new e → ⊥
shorter-fine count distrusts content other left rest new e one less calm ample cause =
    no-next-fault other content count distrusts left rest
    (record { begun = one.begun; larger = one.second; lines = one.lines; more = λ wanted wants. less }) (refused_text content) new e
    (λ wanted text. no-text-fault other content wanted text e ample) calm ample cause

-- Two of one length are one, and what follows them is one.
record AreAlike (content other : State) (left rest : List ℕ) : Type 0 where
  pub same : content ≡ other
  pub follows : left ≡ rest

-- Readings with the same number of lines have the same content and the same rest.
alike : (count distrusts : ℕ) (content other : State) (left rest : List ℕ) → AreOfOne count distrusts content other left rest
    → length (content_lines content) ≡ length (content_lines other) → AreAlike content other left rest
alike count distrusts content other left rest one size =
    let lines = same-front (content_lines content) (content_lines other) _ _ size one.lines in
    let sets = held_back content.records other.records content.held other.held one.begun.valid.records one.second.valid.records
    one.begun.valid.receipts one.second.valid.receipts lines.0 in
    record {
      same = λ i. record { held = sets.receipts i; records = sets.records i };
      follows = append_cancel_left (text_of_lines (content_lines other)) left rest
          (ap (λ (ls : List (List ℕ)). text_of_lines ls ++ left) (sym lines.0) ∙ one.follows);
    }

-- After two beginnings of one answer there is one error at most.
one-after : (count distrusts : ℕ) (content other : State) (left rest : List ℕ) (new since : Option (List ℕ)) (d e : SyncError)
    → AreOfOne count distrusts content other left rest → d ≢ Io → d ≢ NoMemory → e ≢ Io → e ≢ NoMemory
    → RefusesNextEntry (refused_text content) count distrusts content (Some left) new d
    → RefusesNextEntry (refused_text other) count distrusts other (Some rest) since e → d ≡ e
one-after count distrusts content other left rest new since d e one c m k n p q =
    elim (cases_lt (length (content_lines content)) (length (content_lines other))) [
      | inl less ↦ absurd (shorter-fine count distrusts content other left rest new d one less c m p)
      | inr not_less ↦ elim (cases_lt (length (content_lines other)) (length (content_lines content))) [
        | inl less ↦ absurd
            (shorter-fine count distrusts other content rest left since e (turned-round count distrusts content other left rest one) less k n q)
        | inr not_more ↦
            let both = alike count distrusts content other left rest one (omega (arith, not_less, not_more)) in
            one-next-fault count distrusts other rest new since d e m n
            (at-next count distrusts other rest new d c m
            (subst (λ (l : List ℕ). RefusesNextEntry (refused_text other) count distrusts other (Some l) new d) both.follows
            (subst (λ (s : State). RefusesNextEntry (refused_text s) count distrusts s (Some left) new d) both.same p)))
            (at-next count distrusts other rest since e k n q)
      ]
    ]

-- Two beginnings of one stream are of one answer.
record IsBoth (count distrusts count_too distrusts_too : ℕ) (content other : State) (left rest : List ℕ) : Type 0 where
  pub receipts : count ≡ count_too
  pub records : distrusts ≡ distrusts_too
  pub one : AreOfOne count_too distrusts_too content other left rest

-- Two beginnings of one answer are readings of one text.
of-one : (bytes : List ℕ) (count distrusts count_too distrusts_too : ℕ) (content other : State) (left rest : List ℕ)
    → GiveBegins None (Some bytes) count distrusts content (Some left) → GiveBegins None (Some bytes) count_too distrusts_too other (Some rest)
    → IsBoth count distrusts count_too distrusts_too content other left rest
of-one bytes count distrusts count_too distrusts_too content other left rest b k =
    let p = begun-line bytes count distrusts content left b in
    let q = begun-line bytes count_too distrusts_too other rest k in
    let first = same-line bytes b.first k.first _ _ p.0 q.0 p.1 q.1 in
    let header : b.heads.header ≡ k.heads.header =
    one-give-header b.first b.heads.header k.heads.header b.heads.wanted.line
    (record { is = k.heads.wanted.line.is; spelt = first.line ∙ k.heads.wanted.line.spelt }) in
    let receipts : count ≡ count_too = b.heads.receipts ∙ ap (λ (t : GiveHeader). t.count) header ∙ sym k.heads.receipts in
    let records : distrusts ≡ distrusts_too =
    some-once distrusts distrusts_too (b.heads.records ∙ ap (λ (t : GiveHeader). t.distrusts) header ∙ sym k.heads.records) in
    record {
      receipts = receipts;
      records = records;
      one = record {
        begun = subst (λ (n : ℕ). IsBegun n distrusts_too content) receipts (subst (λ (n : ℕ). IsBegun count n content) records b.begun);
        second = k.begun;
        follows = first.rest;
        lines = same-lines content other left rest b.begun.valid k.begun.valid first.rest;
      };
    }

-- ---- an answer

-- The first line has the error, or a line after it.
two-after : (bytes : List ℕ) (new since : Option (List ℕ)) (d e : SyncError) → d ≢ Io → d ≢ NoMemory → e ≢ Io → e ≢ NoMemory
    → (h : GiveFailsAfter (Some bytes) new d) (k : GiveFailsAfter (Some bytes) since e) → d ≡ e
two-after bytes new since d e c m n o h k = by-rests h.left k.left h.begins k.begins h.cause k.cause
  where
    by-rests : (left rest : Option (List ℕ)) → GiveBegins None (Some bytes) h.count h.distrusts h.content left
        → GiveBegins None (Some bytes) k.count k.distrusts k.content rest
        → RefusesNextEntry (refused_text h.content) h.count h.distrusts h.content left new d
        → RefusesNextEntry (refused_text k.content) k.count k.distrusts k.content rest since e → d ≡ e
    by-rests None rest b j p q = absurd b.text
    by-rests (Some left) None b j p q = absurd j.text
    by-rests (Some left) (Some rest) b j p q =
        let both = of-one bytes h.count h.distrusts k.count k.distrusts h.content k.content left rest b j in
        one-after k.count k.distrusts h.content k.content left rest new since d e both.one c m n o
        (subst (λ (x : ℕ). RefusesNextEntry (refused_text h.content) x k.distrusts h.content (Some left) new d) both.receipts
        (subst (λ (x : ℕ). RefusesNextEntry (refused_text h.content) h.count x h.content (Some left) new d) both.records p))
        q

-- No stream has an error of its first line and one after it.
first-or-after : (bytes : List ℕ) (new since : Option (List ℕ)) (d e : SyncError) → d ≢ Io → d ≢ NoMemory
    → RefusesHead None (Some bytes) new d → GiveFailsAfter (Some bytes) since e → ⊥
first-or-after bytes new since d e calm ample head h = by-rest h.left h.begins
  where
    by-rest : (left : Option (List ℕ)) → GiveBegins None (Some bytes) h.count h.distrusts h.content left → ⊥
    by-rest None b = b.text
    by-rest (Some left) b = no-head-cause bytes new d h.count h.distrusts h.content left ample b (at-head bytes new d calm ample head)

-- The clause `one_cause` of the law on answers.
pub one-give-cause : (bytes : List ℕ) (new since : Option (List ℕ)) (d e : SyncError) → d ≢ Io → d ≢ NoMemory → e ≢ Io → e ≢ NoMemory
    → RefusesGive (Some bytes) new d → RefusesGive (Some bytes) since e → d ≡ e
one-give-cause bytes new since d e c m k n (inl p) (inl q) =
    one-first-fault (RefusesGiveLine None) bytes new since d e (λ text. one-give-header-fault text d e m n) (at-head bytes new d c m p)
    (at-head bytes since e k n q)
one-give-cause bytes new since d e c m k n (inl p) (inr q) = absurd (first-or-after bytes new since d e c m p q)
one-give-cause bytes new since d e c m k n (inr p) (inl q) = absurd (first-or-after bytes since new e d k n q p)
one-give-cause bytes new since d e c m k n (inr p) (inr q) = two-after bytes new since d e c m k n p q

-- A stream that is not a snapshot has one error at most, except for a source that fails and for
-- lack of memory.
use Rattle.std.proofs.Common.{◌≡◌, ◌≢◌, ℕ, ◌+◌, ◌<◌, ◌⊎◌, inl, inr, List, [], ◌∷◌, ◌++◌, length}
use Rattle.std.proofs.Common.{Option, None, Some, refl, ap, sym, ◌∙◌, subst, arith}
use Rattle.std.proofs.lemmas.Bool.{cases_lt}
use Rattle.std.proofs.lemmas.List.{append_cancel_left}
use Rattle.fed_config.specs.Configuration.{Configuration, IsConfiguration}
use Rattle.byte_lines.specs.Lines.{Lines, lines_of, HasLine, HasNoLine}
use Rattle.byte_lines.proofs.StreamFacts.{lines_of-line, lines_of-rest}
use Rattle.receipt_core.specs.Acceptance.{Meaning, IsMeaning}
use Rattle.closure_core.specs.declared.error.TakeError.{TakeError}
use Rattle.closure_core.specs.declared.error.TakeError.TheVariants.{UnknownDomain, WrongEndpoint, BelowFloor, Full, NoMemory as NoTakeMemory}
use Rattle.closure_core.specs.declared.error.TakeError.TheVariants.{ConfigDiffers as OtherConfig}
use Rattle.replica_core.specs.Absorbing.{RefusesEntry}
use Rattle.replica_core.specs.declared.entry.Entry.{Entry}
use Rattle.replica_core.specs.declared.entry.Entry.TheVariants.{Record, Receipt as AReceipt}
use Rattle.replica_core.specs.declared.error.SyncError.{SyncError}
use Rattle.replica_core.specs.declared.error.SyncError.TheVariants.{BadHeader, ConfigDiffers, VersionDiffers, NotCanonical, NotRising, BadCount, Truncated}
use Rattle.replica_core.specs.declared.error.SyncError.TheVariants.{Refused, Io, NoMemory}
use Rattle.closure_core.proofs.FitFacts.{fits_right, fits_above, low_right}
use Rattle.replica_texts.specs.Entries.{RefusesEntryLine, placed_line}
use Rattle.replica_texts.specs.Snapshots.{Begins, HasBadFirst, HasBadLine, HasFaultAfter, HasMoreAfter, FitsFormat, RefusesFirst, RefusesHeader, RefusesNext}
use Rattle.replica_texts.specs.Snapshots.{RefusesPlace, RefusesSnapshot, count_line, digits_of, ended, header_line, held_lines, last_line, next_number}
use Rattle.replica_texts.specs.Snapshots.{text_of_lines, wanted_of}
use Rattle.replica_texts.specs.declared.format.Format.{Format}
use Rattle.replica_texts.proofs.ApartFacts.{begun_front, count_apart, one_format, plain_count, refused_first}
use Rattle.replica_texts.proofs.CountFacts.{no_fault_of_count}
use Rattle.replica_texts.proofs.DigestFacts.{short_header}
use Rattle.replica_texts.proofs.MessageFaultFacts.{line-or-none, no-entry-here, one-first-line}
use Rattle.replica_texts.proofs.GiveFacts.{HasFurther, further, same-front}
use Rattle.replica_texts.proofs.HeaderFacts.{one_header}
use Rattle.replica_texts.proofs.NextFacts.{no_fault_of_held, one_entry}
use Rattle.replica_texts.proofs.OneFacts.{feedless_held, held_back, lines_back}

-- ---- the first line

-- A first line has one error at most.
one-header-fault : (config : Configuration) (text : List ℕ) (d e : SyncError) → RefusesHeader config text d → RefusesHeader config text e → d ≡ e
one-header-fault config text BadHeader BadHeader p q = refl
one-header-fault config text BadHeader ConfigDiffers p q = absurd (p q.digits q.version q.is)
one-header-fault config text BadHeader VersionDiffers p q = absurd (p (digits_of config) q.version q.is)
one-header-fault config text ConfigDiffers BadHeader p q = absurd (q p.digits p.version p.is)
one-header-fault config text ConfigDiffers ConfigDiffers p q = refl
one-header-fault config text ConfigDiffers VersionDiffers p q =
    absurd (p.other (one_header text p.digits (digits_of config) p.version q.version p.is q.is).0)
one-header-fault config text VersionDiffers BadHeader p q = absurd (q (digits_of config) p.version p.is)
one-header-fault config text VersionDiffers ConfigDiffers p q =
    absurd (q.other (one_header text q.digits (digits_of config) q.version p.version q.is p.is).0)
one-header-fault config text VersionDiffers VersionDiffers p q = refl
one-header-fault config text BadHeader e p q = absurd q
one-header-fault config text ConfigDiffers e p q = absurd q
one-header-fault config text VersionDiffers e p q = absurd q
one-header-fault config text d e p q = absurd p

-- A line that is too long has no other error of a first line.
long-header : (config : Configuration) (text : List ℕ) (e : SyncError) → 8388608 < length text → RefusesHeader config text e → BadHeader ≡ e
long-header config text BadHeader long h = refl
long-header config text ConfigDiffers long h = let short = short_header text h.digits h.version h.is in absurd (omega (arith, long, short))
long-header config text VersionDiffers long h = let short = short_header text (digits_of config) h.version h.is in absurd (omega (arith, long, short))
long-header config text e long h = absurd h

-- the line is too long, or has this error
abbrev HeaderCause : Configuration → List ℕ → SyncError → Type 0
HeaderCause config text e = ((e ≡ BadHeader) × (8388608 < length text)) ⊎ RefusesHeader config text e

-- A first line has one cause of refusal.
one-header-cause : (config : Configuration) (text : List ℕ) (d e : SyncError) → HeaderCause config text d → HeaderCause config text e → d ≡ e
one-header-cause config text d e (inl p) (inl q) = p.0 ∙ sym q.0
one-header-cause config text d e (inl p) (inr q) = p.0 ∙ long-header config text e p.1 q
one-header-cause config text d e (inr p) (inl q) = sym (q.0 ∙ long-header config text d q.1 p)
one-header-cause config text d e (inr p) (inr q) = one-header-fault config text d e p q

-- The first line has the error, or there is no line.
abbrev FailsFirstly : Configuration → List ℕ → SyncError → Type 0
FailsFirstly config bytes e = HasBadFirst config (Some bytes) e ⊎ ((e ≡ Truncated) × HasNoLine (Some bytes))

-- Why the first line is not read, in two cases.
at-first : (config : Configuration) (bytes : List ℕ) (e : SyncError) → e ≢ Io → e ≢ NoMemory → RefusesFirst config (Some bytes) e → FailsFirstly config bytes e
at-first config bytes BadHeader calm ample h = inl h
at-first config bytes ConfigDiffers calm ample h = inl h
at-first config bytes VersionDiffers calm ample h = inl h
at-first config bytes Truncated calm ample h = inr (refl, h)
at-first config bytes Io calm ample h = absurd (calm refl)
at-first config bytes NoMemory calm ample h = absurd (ample refl)
at-first config bytes e calm ample h = absurd h

-- A stream has one error of its first line at most.
one-first-cause : (config : Configuration) (bytes : List ℕ) (d e : SyncError) → FailsFirstly config bytes d → FailsFirstly config bytes e → d ≡ e
one-first-cause config bytes d e (inl h) (inl k) =
    let same = one-first-line bytes k.text h.text k.after h.after k.is h.is in
    one-header-cause config h.text d e h.cause (subst (λ (t : List ℕ). HeaderCause config t e) same k.cause)
one-first-cause config bytes d e (inl h) (inr k) = absurd (line-or-none bytes h.text h.after h.is k.1)
one-first-cause config bytes d e (inr h) (inl k) = absurd (line-or-none bytes k.text k.after k.is h.1)
one-first-cause config bytes d e (inr h) (inr k) = h.0 ∙ sym k.0

-- ---- one line more

-- A receipt or a record is refused for one cause at most, except for memory.
one-refusal : (m : Meaning) (entry : Entry) (v w : TakeError) → IsConfiguration m.config → v ≢ NoTakeMemory → w ≢ NoTakeMemory
    → RefusesEntry m entry v → RefusesEntry m entry w → v ≡ w
one-refusal m entry v NoTakeMemory is l k p q = absurd (k refl)
one-refusal m entry NoTakeMemory w is l k p q = absurd (l refl)
one-refusal m (Record x) UnknownDomain UnknownDomain is l k p q = refl
one-refusal m (Record x) UnknownDomain Full is l k p q = absurd (p q.domain)
one-refusal m (Record x) Full UnknownDomain is l k p q = absurd (q p.domain)
one-refusal m (Record x) Full Full is l k p q = refl
one-refusal m (Record x) UnknownDomain w is l k p q = absurd q
one-refusal m (Record x) Full w is l k p q = absurd q
one-refusal m (Record x) v w is l k p q = absurd p
one-refusal m (AReceipt r) UnknownDomain UnknownDomain is l k p q = refl
one-refusal m (AReceipt r) UnknownDomain WrongEndpoint is l k p q = absurd (p q.relationship q.has q.domain)
one-refusal m (AReceipt r) UnknownDomain BelowFloor is l k p q = absurd (p q.relationship q.has q.domain)
one-refusal m (AReceipt r) UnknownDomain Full is l k p q = absurd (p q.fits.relationship q.fits.has q.fits.domain)
one-refusal m (AReceipt r) WrongEndpoint UnknownDomain is l k p q = absurd (q p.relationship p.has p.domain)
one-refusal m (AReceipt r) WrongEndpoint WrongEndpoint is l k p q = refl
one-refusal m (AReceipt r) WrongEndpoint BelowFloor is l k p q = absurd (low_right m.config r is q p)
one-refusal m (AReceipt r) WrongEndpoint Full is l k p q = absurd (fits_right m.config r is q.fits p)
one-refusal m (AReceipt r) BelowFloor UnknownDomain is l k p q = absurd (q p.relationship p.has p.domain)
one-refusal m (AReceipt r) BelowFloor WrongEndpoint is l k p q = absurd (low_right m.config r is p q)
one-refusal m (AReceipt r) BelowFloor BelowFloor is l k p q = refl
one-refusal m (AReceipt r) BelowFloor Full is l k p q = absurd (fits_above m.config r q.fits p)
one-refusal m (AReceipt r) Full UnknownDomain is l k p q = absurd (q p.fits.relationship p.fits.has p.fits.domain)
one-refusal m (AReceipt r) Full WrongEndpoint is l k p q = absurd (fits_right m.config r is p.fits q)
one-refusal m (AReceipt r) Full BelowFloor is l k p q = absurd (fits_above m.config r p.fits q)
one-refusal m (AReceipt r) Full Full is l k p q = refl
one-refusal m (AReceipt r) v OtherConfig is l k p q = absurd q
one-refusal m (AReceipt r) OtherConfig w is l k p q = absurd p

module _ (format : Format) (m : Meaning) (is : IsConfiguration m.config) (text : List ℕ) where
  -- what is wrong with the line, if it does not begin as the last one
  abbrev LineCause : SyncError → Type 0
  LineCause e = RefusesEntryLine m (placed_line (wanted_of format) (last_line m) (next_number m) text) e

  -- A line has one such error at most.
  one-line-cause : (d e : SyncError) → d ≢ NoMemory → e ≢ NoMemory → LineCause d → LineCause e → d ≡ e
  one-line-cause (NotCanonical n) (NotCanonical k) l j p q = ap NotCanonical (p.0 ∙ sym q.0)
  one-line-cause (NotCanonical n) (NotRising k) l j p q = absurd (no-entry-here (wanted_of format) text p.1 q.1.entry q.1.is)
  one-line-cause (NotCanonical n) (Refused k w) l j p q = absurd (no-entry-here (wanted_of format) text p.1 q.2.entry q.2.next.is)
  one-line-cause (NotRising n) (NotCanonical k) l j p q = absurd (no-entry-here (wanted_of format) text q.1 p.1.entry p.1.is)
  one-line-cause (NotRising n) (NotRising k) l j p q = ap NotRising (p.0 ∙ sym q.0)
  one-line-cause (NotRising n) (Refused k w) l j p q = absurd (p.1.below q.2.next.above)
  one-line-cause (Refused n v) (NotCanonical k) l j p q = absurd (no-entry-here (wanted_of format) text q.1 p.2.entry p.2.next.is)
  one-line-cause (Refused n v) (NotRising k) l j p q = absurd (q.1.below p.2.next.above)
  one-line-cause (Refused n v) (Refused k w) l j p q =
      let entry = one_entry format text q.2.entry p.2.entry q.2.next.is p.2.next.is in
      let why = one-refusal m p.2.entry v w is p.1 q.1 p.2.cause (subst (λ (x : Entry). RefusesEntry m x w) entry q.2.cause) in
      let number : n ≡ k = p.0 ∙ sym q.0 in
      (λ i. Refused (number i) (why i))
  one-line-cause d NoMemory l j p q = absurd (j refl)
  one-line-cause NoMemory e l j p q = absurd (l refl)
  one-line-cause (NotCanonical n) e l j p q = absurd q
  one-line-cause (NotRising n) e l j p q = absurd q
  one-line-cause (Refused n v) e l j p q = absurd q
  one-line-cause d e l j p q = absurd p

  -- So has a line at its place, also one that begins as the last one.
  one-place-cause : (d e : SyncError) → d ≢ NoMemory → e ≢ NoMemory → RefusesPlace format m text d → RefusesPlace format m text e → d ≡ e
  one-place-cause BadCount BadCount l j p q = refl
  one-place-cause BadCount (NotCanonical k) l j p q = absurd (q.further p.count)
  one-place-cause BadCount (NotRising k) l j p q = absurd (q.further p.count)
  one-place-cause BadCount (Refused k w) l j p q = absurd (q.further p.count)
  one-place-cause (NotCanonical n) BadCount l j p q = absurd (p.further q.count)
  one-place-cause (NotRising n) BadCount l j p q = absurd (p.further q.count)
  one-place-cause (Refused n v) BadCount l j p q = absurd (p.further q.count)
  one-place-cause (NotCanonical n) (NotCanonical k) l j p q = one-line-cause (NotCanonical n) (NotCanonical k) l j p.cause q.cause
  one-place-cause (NotCanonical n) (NotRising k) l j p q = one-line-cause (NotCanonical n) (NotRising k) l j p.cause q.cause
  one-place-cause (NotCanonical n) (Refused k w) l j p q = one-line-cause (NotCanonical n) (Refused k w) l j p.cause q.cause
  one-place-cause (NotRising n) (NotCanonical k) l j p q = one-line-cause (NotRising n) (NotCanonical k) l j p.cause q.cause
  one-place-cause (NotRising n) (NotRising k) l j p q = one-line-cause (NotRising n) (NotRising k) l j p.cause q.cause
  one-place-cause (NotRising n) (Refused k w) l j p q = one-line-cause (NotRising n) (Refused k w) l j p.cause q.cause
  one-place-cause (Refused n v) (NotCanonical k) l j p q = one-line-cause (Refused n v) (NotCanonical k) l j p.cause q.cause
  one-place-cause (Refused n v) (NotRising k) l j p q = one-line-cause (Refused n v) (NotRising k) l j p.cause q.cause
  one-place-cause (Refused n v) (Refused k w) l j p q = one-line-cause (Refused n v) (Refused k w) l j p.cause q.cause
  one-place-cause d NoMemory l j p q = absurd (j refl)
  one-place-cause NoMemory e l j p q = absurd (l refl)
  one-place-cause BadCount e l j p q = absurd q
  one-place-cause (NotCanonical n) e l j p q = absurd q
  one-place-cause (NotRising n) e l j p q = absurd q
  one-place-cause (Refused n v) e l j p q = absurd q
  one-place-cause d e l j p q = absurd p

-- ---- what follows a good beginning

-- The next line has the error, more follows a right last line, or there is no line.
data NextCause (format : Format) (m : Meaning) (left : List ℕ) (e : SyncError) : Type 0 where
  bad : HasBadLine format m (Some left) e → NextCause format m left e
  more : e ≡ NotCanonical (next_number m + 1) → HasMoreAfter format m (Some left) → NextCause format m left e
  none : e ≡ Truncated → HasNoLine (Some left) → NextCause format m left e

-- Why nothing is read after a good beginning, in three cases.
at-next : (format : Format) (m : Meaning) (left : List ℕ) (e : SyncError) → e ≢ Io → e ≢ NoMemory → RefusesNext format m (Some left) e
    → NextCause format m left e
at-next format m left (NotCanonical n) calm ample (inl h) = bad h
at-next format m left (NotCanonical n) calm ample (inr h) = more (ap NotCanonical h.0) h.1
at-next format m left (NotRising n) calm ample h = bad h
at-next format m left BadCount calm ample h = bad h
at-next format m left (Refused n why) calm ample h = bad h
at-next format m left Truncated calm ample h = none refl h
at-next format m left Io calm ample h = absurd (calm refl)
at-next format m left NoMemory calm ample h = absurd (ample refl)
at-next format m left e calm ample h = absurd h

-- The right last line is the first line of what follows.
count-line-next : (format : Format) (m : Meaning) (left : List ℕ) → IsMeaning m → (h : HasMoreAfter format m (Some left))
    → HasLine (Some left) h.after (count_line format m)
count-line-next format m left valid h = (plain_count format m valid, h.is)

-- Nothing is wrong with a line at the place of a right last one.
right-count : (format : Format) (m : Meaning) (left : List ℕ) (e : SyncError) → IsMeaning m → e ≢ NoMemory
    → HasBadLine format m (Some left) e → HasMoreAfter format m (Some left) → ⊥
right-count format m left e valid ample h k =
    no_fault_of_count format m h.text e valid
    (one-first-line left h.text (count_line format m) h.after k.after h.is (count-line-next format m left valid k)) ample h.cause

-- After one good beginning there is one error at most.
one-next-cause : (format : Format) (m : Meaning) (left : List ℕ) (d e : SyncError) → IsConfiguration m.config → IsMeaning m
    → d ≢ NoMemory → e ≢ NoMemory → NextCause format m left d → NextCause format m left e → d ≡ e
one-next-cause format m left d e is valid l j (bad h) (bad k) =
    let same = one-first-line left k.text h.text k.after h.after k.is h.is in
    one-place-cause format m is h.text d e l j h.cause (subst (λ (t : List ℕ). RefusesPlace format m t e) same k.cause)
one-next-cause format m left d e is valid l j (bad h) (more q k) = absurd (right-count format m left d valid l h k)
one-next-cause format m left d e is valid l j (bad h) (none q k) = absurd (line-or-none left h.text h.after h.is k)
one-next-cause format m left d e is valid l j (more p h) (bad k) = absurd (right-count format m left e valid j k h)
one-next-cause format m left d e is valid l j (more p h) (more q k) = p ∙ sym q
one-next-cause format m left d e is valid l j (more p h) (none q k) =
    absurd (line-or-none left (count_line format m) h.after (count-line-next format m left valid h) k)
one-next-cause format m left d e is valid l j (none p h) (bad k) = absurd (line-or-none left k.text k.after k.is h)
one-next-cause format m left d e is valid l j (none p h) (more q k) =
    absurd (line-or-none left (count_line format m) k.after (count-line-next format m left valid k) h)
one-next-cause format m left d e is valid l j (none p h) (none q k) = p ∙ sym q

-- ---- two good beginnings

-- Both are good beginnings of one stream, in one format.
record AreOfOne (format : Format) (m k : Meaning) (left rest : List ℕ) : Type 0 where
  pub fits : FitsFormat format m
  pub fits_too : FitsFormat format k
  pub valid : IsMeaning m
  pub other : IsMeaning k
  pub same : m.config ≡ k.config
  pub configured : IsConfiguration m.config
  pub follows : text_of_lines (held_lines m) ++ left ≡ text_of_lines (held_lines k) ++ rest
  pub lines : held_lines m ++ (lines_of left).whole ≡ held_lines k ++ (lines_of rest).whole

-- Both readings may change places.
turned-round : (format : Format) (m k : Meaning) (left rest : List ℕ) → AreOfOne format m k left rest → AreOfOne format k m rest left
turned-round format m k left rest one = record {
  fits = one.fits_too;
  fits_too = one.fits;
  valid = one.other;
  other = one.valid;
  same = sym one.same;
  configured = subst IsConfiguration one.same one.configured;
  follows = sym one.follows;
  lines = sym one.lines;
}

-- the first line of what follows is the first of its lines
line-is : (left text other : List ℕ) (follows : List (List ℕ)) (new : Option (List ℕ)) → HasLine (Some left) new text
    → (lines_of left).whole ≡ other ∷ follows → text ≡ other
line-is left text other follows None is e = absurd is.1
line-is left text other follows (Some after) is e =
    let heads : text ∷ (lines_of after).whole ≡ other ∷ follows = sym (ap (λ (l : Lines). l.whole) (ap lines_of is.1 ∙ lines_of-line text after is.0)) ∙ e in
    cc

-- After the shorter of the two there is no error.
shorter-fine : (format : Format) (m k : Meaning) (left rest : List ℕ) (e : SyncError) → AreOfOne format m k left rest
    → length (held_lines m) < length (held_lines k) → e ≢ NoMemory → NextCause format m left e → ⊥
shorter-fine format m k left rest e one less ample cause =
    fine (further (held_lines m) (lines_of left).whole (held_lines k) (lines_of rest).whole one.lines less) cause
  where
    fine : HasFurther (held_lines m) (lines_of left).whole (held_lines k) → NextCause format m left e → ⊥
    fine next (bad h) =
        let text = line-is left h.text next.text next.follows h.after h.is next.rest in
        no_fault_of_held format k m h.text next.later e one.configured one.other one.valid one.fits_too one.same
        (next.whole ∙ ap (λ (t : List ℕ). held_lines m ++ t ∷ next.later) (sym text)) ample h.cause
    fine next (more p h) =
        let text = line-is left (count_line format m) next.text next.follows h.after (count-line-next format m left one.valid h) next.rest in
        count_apart format k (count_line format m) (held_lines m) next.later m one.valid refl
        (next.whole ∙ ap (λ (t : List ℕ). held_lines m ++ t ∷ next.later) (sym text))
    fine next (none p h) =
        let nothing : [] ≡ next.text ∷ next.follows = sym (ap (λ (l : Lines). l.whole) (lines_of-rest left h)) ∙ next.rest in
        cc

-- Two of one length are one, and what follows them is one.
record AreAlike (m k : Meaning) (left rest : List ℕ) : Type 0 where
  pub same : m ≡ k
  pub follows : left ≡ rest

-- Readings with the same number of lines have the same content and the same rest.
alike : (format : Format) (m k : Meaning) (left rest : List ℕ) → AreOfOne format m k left rest → length (held_lines m) ≡ length (held_lines k)
    → AreAlike m k left rest
alike format m k left rest one size =
    let lines = same-front (held_lines m) (held_lines k) _ _ size one.lines in
    let sets = held_back m.records k.records m.held k.held one.valid.distrusts one.other.distrusts one.valid.receipts one.other.receipts lines.0 in
    record {
      same = λ i. record { config = one.same i; held = sets.receipts i; records = sets.records i };
      follows = append_cancel_left (text_of_lines (held_lines k)) left rest
          (ap (λ (ls : List (List ℕ)). text_of_lines ls ++ left) (sym lines.0) ∙ one.follows);
    }

-- After two good beginnings of one stream there is one error at most.
one-after : (format : Format) (m k : Meaning) (left rest : List ℕ) (d e : SyncError) → AreOfOne format m k left rest
    → d ≢ NoMemory → e ≢ NoMemory → NextCause format m left d → NextCause format k rest e → d ≡ e
one-after format m k left rest d e one l j p q =
    elim (cases_lt (length (held_lines m)) (length (held_lines k))) [
      | inl less ↦ absurd (shorter-fine format m k left rest d one less l p)
      | inr not_less ↦ elim (cases_lt (length (held_lines k)) (length (held_lines m))) [
        | inl less ↦ absurd (shorter-fine format k m rest left e (turned-round format m k left rest one) less j q)
        | inr not_more ↦
            let both = alike format m k left rest one (omega (arith, not_less, not_more)) in
            one-next-cause format k rest d e (subst IsConfiguration one.same one.configured) one.other l j
            (subst (λ (t : List ℕ). NextCause format k t d) both.follows (subst (λ (x : Meaning). NextCause format x left d) both.same p)) q
      ]
    ]

-- ---- the whole

-- the first line, and what follows it
front : (config : Configuration) (bytes : List ℕ) (format : Format) (m : Meaning) (left : List ℕ) → Begins config (Some bytes) format m (Some left)
    → bytes ≡ ended (header_line format config) ++ (text_of_lines (held_lines m) ++ left)
front config bytes format m left b = b.text ∙ begun_front format config m left b.of_config

-- Two good beginnings of one stream have one format.
record IsBoth (f g : Format) (m k : Meaning) (left rest : List ℕ) : Type 0 where
  pub formats : f ≡ g
  pub one : AreOfOne g m k left rest

-- Two beginnings of one snapshot are readings of one text.
of-one : (config : Configuration) (bytes : List ℕ) (f g : Format) (m k : Meaning) (left rest : List ℕ) → IsConfiguration config
    → Begins config (Some bytes) f m (Some left) → Begins config (Some bytes) g k (Some rest) → IsBoth f g m k left rest
of-one config bytes f g m k left rest is b j =
    let texts = sym (front config bytes f m left b) ∙ front config bytes g k rest j in
    let formats : f ≡ g = one_format config f g (text_of_lines (held_lines m) ++ left) (text_of_lines (held_lines k) ++ rest) texts in
    let follows : text_of_lines (held_lines m) ++ left ≡ text_of_lines (held_lines k) ++ rest =
    append_cancel_left (ended (header_line g config)) (text_of_lines (held_lines m) ++ left) (text_of_lines (held_lines k) ++ rest)
    (ap (λ (x : Format). ended (header_line x config) ++ (text_of_lines (held_lines m) ++ left)) (sym formats) ∙ texts) in
    record {
      formats = formats;
      one = record {
        fits = subst (λ (x : Format). FitsFormat x m) formats b.fits;
        fits_too = j.fits;
        valid = b.valid;
        other = j.valid;
        same = b.of_config ∙ sym j.of_config;
        configured = subst IsConfiguration (sym b.of_config) is;
        follows = follows;
        lines = ap (λ (l : Lines). l.whole)
            (sym (lines_back (held_lines m) left (feedless_held m b.valid)) ∙ ap lines_of follows ∙ lines_back (held_lines k) rest (feedless_held k j.valid));
      };
    }

-- Two errors after the first line are one.
two-after : (config : Configuration) (bytes : List ℕ) (d e : SyncError) → IsConfiguration config → d ≢ Io → d ≢ NoMemory → e ≢ Io → e ≢ NoMemory
    → HasFaultAfter config (Some bytes) d → HasFaultAfter config (Some bytes) e → d ≡ e
two-after config bytes d e is c l n j h k = by-rests h.left k.left h.begins k.begins h.cause k.cause
  where
    by-rests : (left rest : Option (List ℕ)) → Begins config (Some bytes) h.format h.m left → Begins config (Some bytes) k.format k.m rest
        → RefusesNext h.format h.m left d → RefusesNext k.format k.m rest e → d ≡ e
    by-rests None rest b i p q = absurd b.text
    by-rests (Some left) None b i p q = absurd i.text
    by-rests (Some left) (Some rest) b i p q =
        let both = of-one config bytes h.format k.format h.m k.m left rest is b i in
        one-after k.format h.m k.m left rest d e both.one l j
        (subst (λ (x : Format). NextCause x h.m left d) both.formats (at-next h.format h.m left d c l p)) (at-next k.format k.m rest e n j q)

-- A refused first line leaves no error after it.
first-or-after : (config : Configuration) (bytes : List ℕ) (d e : SyncError) → d ≢ Io → d ≢ NoMemory → RefusesFirst config (Some bytes) d
    → HasFaultAfter config (Some bytes) e → ⊥
first-or-after config bytes d e calm ample first h = by-rest h.left h.begins
  where
    by-rest : (left : Option (List ℕ)) → Begins config (Some bytes) h.format h.m left → ⊥
    by-rest None b = b.text
    by-rest (Some left) b =
        refused_first h.format config bytes (text_of_lines (held_lines h.m) ++ left) d calm ample (front config bytes h.format h.m left b) first

-- The clause `one_cause` of the law on snapshots.
pub one-snapshot-cause : (config : Configuration) (bytes : List ℕ) (d e : SyncError) → IsConfiguration config
    → d ≢ Io → d ≢ NoMemory → e ≢ Io → e ≢ NoMemory → RefusesSnapshot config (Some bytes) d → RefusesSnapshot config (Some bytes) e → d ≡ e
one-snapshot-cause config bytes d e is c l n j (inl p) (inl q) =
    one-first-cause config bytes d e (at-first config bytes d c l p) (at-first config bytes e n j q)
one-snapshot-cause config bytes d e is c l n j (inl p) (inr q) = absurd (first-or-after config bytes d e c l p q)
one-snapshot-cause config bytes d e is c l n j (inr p) (inl q) = absurd (first-or-after config bytes e d n j q p)
one-snapshot-cause config bytes d e is c l n j (inr p) (inr q) = two-after config bytes d e is c l n j p q

-- No stream is both read and refused.
use Rattle.std.proofs.Common.{◌≡◌, ◌≢◌, ℕ, ◌<◌, ◌==◌, ◌⊎◌, inl, inr, Bool, true, false, List, [], ◌∷◌, ◌++◌, length}
use Rattle.std.proofs.Common.{Option, None, Some, refl, ap, sym, ◌∙◌, subst, arith, append_assoc, append-nil}
use Rattle.std.proofs.lemmas.List.{append_cancel_left}
use Rattle.std.proofs.lemmas.List.Concat.{flat_map-cons}
use Rattle.std.specs.Io.KnownBytes.{Consumes}
use Rattle.std.specs.List.{AllByRecursion}
use Rattle.fed_config.specs.Configuration.{Configuration, IsConfiguration}
use Rattle.receipt_core.specs.Acceptance.{Meaning, IsMeaning}
use Rattle.byte_lines.specs.Lines.{Lines, lines_of, with_byte, before, HasLine, HasNoFeed, HasMore}
use Rattle.byte_lines.proofs.StreamFacts.{lines_of-rest}
use Rattle.replica_texts.proofs.FeedlessFacts.{plain, first-of, same-line}
use Rattle.replica_texts.specs.Snapshots.{Begins, HasBadFirst, HasBadLine, HasMoreAfter, IsSnapshot, FitsFormat, RefusesFirst, RefusesHeader, RefusesNext}
use Rattle.replica_texts.specs.Snapshots.{RefusesPlace, RefusesSnapshot, begun_text, count_line, count_of, digits_of, ended, header_line, held_lines}
use Rattle.replica_texts.specs.Snapshots.{snapshot_text, text_of_lines, version_of}
use Rattle.replica_core.specs.declared.error.SyncError.{SyncError}
use Rattle.replica_core.specs.declared.error.SyncError.TheVariants.{BadHeader, ConfigDiffers, VersionDiffers, NotCanonical, NotRising, BadCount, Truncated}
use Rattle.replica_core.specs.declared.error.SyncError.TheVariants.{Refused, Io, NoMemory}
use Rattle.replica_texts.specs.declared.format.Format.{Format}
use Rattle.replica_texts.specs.declared.format.Format.TheVariants.{First, Second}
use Rattle.replica_texts.proofs.CountFacts.{IsThird, is_count, no_count, no_fault_of_count, third_held}
use Rattle.replica_texts.proofs.DigestFacts.{is_first_line, short_first, feedless_first}
use Rattle.replica_texts.proofs.HeaderFacts.{one_header}
use Rattle.replica_core.proofs.RisingListFacts.{all_back}
use Rattle.replica_texts.proofs.NextFacts.{no_fault_of_held}
use Rattle.replica_texts.proofs.OneFacts.{feedless_after, feedless_count, feedless_held, formats_apart, held_back, lines_back, no_end, front_text}
use Rattle.replica_texts.proofs.WritingFacts.{lines_append}
use Rattle.receipt_core.proofs.LimitFacts.{receipt_limit-most, record_limit-most}

-- ---- the parts of a list

-- the text is the last one
record IsAtEnd (xs ys later : List (List ℕ)) (last text : List ℕ) : Type 0 where
  pub front : xs ≡ ys
  pub is : text ≡ last
  pub none : later ≡ []

-- it is one of those before
record IsInside (xs ys : List (List ℕ)) (text : List ℕ) : Type 0 where
  pub later : List (List ℕ)
  pub parts : xs ≡ ys ++ text ∷ later

-- A line of a list is its last one or one of those before.
parted : (xs ys later : List (List ℕ)) (last text : List ℕ) → xs ++ last ∷ [] ≡ ys ++ text ∷ later → IsAtEnd xs ys later last text ⊎ IsInside xs ys text
parted [] [] later last text e = inl (record { front = refl; is = cc; none = cc })
parted [] (y ∷ ys) later last text e = let none : [] ≡ ys ++ text ∷ later = cc in absurd (no_end ys text later none)
parted (x ∷ xs) [] later last text e = let head : x ≡ text = cc in inr (record { later = xs; parts = (λ i. head i ∷ xs) })
parted (x ∷ xs) (y ∷ ys) later last text e =
    let head : x ≡ y = cc in
    let tail : xs ++ last ∷ [] ≡ ys ++ text ∷ later = cc in
    elim (parted xs ys later last text tail) [
      | inl at ↦ inl (record { front = (λ i. head i ∷ at.front i); is = at.is; none = at.none })
      | inr at ↦ inr (record { later = at.later; parts = (λ i. head i ∷ at.parts i) })
    ]

-- ---- bytes without a line

-- A byte before lines and a rest leaves something.
no_before : (b : ℕ) (whole : List (List ℕ)) (rest : List ℕ) → (before b whole rest).whole ≡ [] → (before b whole rest).rest ≡ [] → ⊥
no_before b [] rest p q = cc
no_before b (text ∷ others) rest p q = cc

-- A byte makes a line or a rest.
no_byte : (feed : Bool) (b : ℕ) (lines : Lines) → (with_byte feed b lines).whole ≡ [] → (with_byte feed b lines).rest ≡ [] → ⊥
no_byte true b lines p q = cc
no_byte false b lines p q = no_before b lines.whole lines.rest p q

-- If there is neither a line nor a rest, there is no byte.
no_bytes : (bytes : List ℕ) → (lines_of bytes).whole ≡ [] → (lines_of bytes).rest ≡ [] → bytes ≡ []
no_bytes [] p q = refl
no_bytes (b ∷ bytes) p q = absurd (no_byte (b == 10) b (lines_of bytes) p q)

-- ---- the first line

-- The first line of this configuration has no error.
right_first : (format : Format) (config : Configuration) (text : List ℕ) (e : SyncError)
    → text ≡ header_line format config → ((e ≡ BadHeader) × (8388608 < length text)) ⊎ RefusesHeader config text e → ⊥
right_first format config text e is (inl long) =
    let same = ap length is in let short = short_first format config in let more = long.1 in omega (arith, same, short, more)
right_first format config text BadHeader is (inr h) =
    h (digits_of config) (version_of format) (let first = is_first_line format config in record { form = first.form; few = first.few; spelt = is })
right_first format config text ConfigDiffers is (inr h) =
    let first = is_first_line format config in
    let same = one_header text h.digits (digits_of config) h.version (version_of format) h.is (record { form = first.form; few = first.few; spelt = is }) in
    h.other same.0
right_first format config text VersionDiffers is (inr h) =
    let first = is_first_line format config in
    let same = one_header text (digits_of config) (digits_of config) h.version (version_of format) h.is
    (record { form = first.form; few = first.few; spelt = is }) in
    h.other format same.1
right_first format config text (NotCanonical n) is (inr h) = h
right_first format config text (NotRising n) is (inr h) = h
right_first format config text BadCount is (inr h) = h
right_first format config text Truncated is (inr h) = h
right_first format config text (Refused n why) is (inr h) = h
right_first format config text Io is (inr h) = h
right_first format config text NoMemory is (inr h) = h

-- A stream that begins with the first line of this configuration has no error of it.
bad_first : (format : Format) (config : Configuration) (bytes tail : List ℕ) (e : SyncError)
    → bytes ≡ ended (header_line format config) ++ tail → HasBadFirst config (Some bytes) e → ⊥
bad_first format config bytes tail e whole h = by_rest h.after h.is
  where
    by_rest : (after : Option (List ℕ)) → HasLine (Some bytes) after h.text → ⊥
    by_rest None is = is.1
    by_rest (Some rest) is =
        right_first format config h.text e
        (same-line bytes h.text (header_line format config) rest tail is.0
        (plain (header_line format config) (feedless_first format config)) is.1 whole).line h.cause

-- A stream that begins with the first line is not one without a line.
no_line : (format : Format) (config : Configuration) (bytes tail : List ℕ) → bytes ≡ ended (header_line format config) ++ tail → HasNoFeed bytes → ⊥
no_line format config bytes tail whole none =
    let lines = first-of bytes (header_line format config) tail (plain (header_line format config) (feedless_first format config)) whole in
    let both : [] ≡ header_line format config ∷ (lines_of tail).whole = ap (λ (l : Lines). l.whole) (sym (lines_of-rest bytes none) ∙ lines) in
    cc

-- A stream that begins with that line is not refused for it.
pub refused_first : (format : Format) (config : Configuration) (bytes tail : List ℕ) (e : SyncError) → e ≢ Io → e ≢ NoMemory
    → bytes ≡ ended (header_line format config) ++ tail → RefusesFirst config (Some bytes) e → ⊥
refused_first format config bytes tail BadHeader calm ample whole h = bad_first format config bytes tail BadHeader whole h
refused_first format config bytes tail ConfigDiffers calm ample whole h = bad_first format config bytes tail ConfigDiffers whole h
refused_first format config bytes tail VersionDiffers calm ample whole h = bad_first format config bytes tail VersionDiffers whole h
refused_first format config bytes tail (NotCanonical n) calm ample whole h = h
refused_first format config bytes tail (NotRising n) calm ample whole h = h
refused_first format config bytes tail BadCount calm ample whole h = h
refused_first format config bytes tail Truncated calm ample whole h = no_line format config bytes tail whole h
refused_first format config bytes tail (Refused n why) calm ample whole h = h
refused_first format config bytes tail Io calm ample whole h = calm refl
refused_first format config bytes tail NoMemory calm ample whole h = ample refl

-- ---- after a good beginning

-- What follows the one's lines in a stream is the end of the other's.
record IsTail (format : Format) (m k : Meaning) (rest : List ℕ) : Type 0 where
  pub fits : FitsFormat format m
  pub valid : IsMeaning m
  pub other : IsMeaning k
  pub same : k.config ≡ m.config
  pub configured : IsConfiguration k.config
  pub whole : held_lines m ++ count_line format m ∷ [] ≡ held_lines k ++ (lines_of rest).whole
  pub none : (lines_of rest).rest ≡ []

-- The line that follows is one of what is held, or the last one.
next_line : (format : Format) (m k : Meaning) (rest text after : List ℕ) → IsTail format m k rest → HasNoFeed text → rest ≡ ended text ++ after
    → IsAtEnd (held_lines m) (held_lines k) (lines_of after).whole (count_line format m) text ⊎ IsInside (held_lines m) (held_lines k) text
next_line format m k rest text after tail none e =
    parted (held_lines m) (held_lines k) (lines_of after).whole (count_line format m) text
    (tail.whole ∙ ap (λ (l : Lines). held_lines k ++ l.whole) (first-of rest text after none e))

-- Meanings with the same lines have the same last line.
same_count : (format : Format) (m k : Meaning) → IsMeaning m → IsMeaning k → held_lines m ≡ held_lines k → count_line format m ≡ count_line format k
same_count format m k valid other e =
    let sets = held_back m.records k.records m.held k.held valid.distrusts other.distrusts valid.receipts other.receipts e in
    (λ i. count_of format (length (sets.receipts i)) (length (sets.records i)))

-- The line that follows has no error at its place.
good_place : (format : Format) (m k : Meaning) (rest text after : List ℕ) (e : SyncError) → e ≢ NoMemory
    → IsTail format m k rest → HasNoFeed text → rest ≡ ended text ++ after → RefusesPlace format k text e → ⊥
good_place format m k rest text after e ample tail plain is cause = elim (next_line format m k rest text after tail plain is) [
  | inl at ↦ no_fault_of_count format k text e tail.other (at.is ∙ same_count format m k tail.valid tail.other at.front) ample cause
  | inr at ↦ no_fault_of_held format m k text at.later e tail.configured tail.valid tail.other tail.fits tail.same at.parts ample cause
]

-- The end of a snapshot has no line with an error.
bad_line : (format : Format) (m k : Meaning) (rest : List ℕ) (e : SyncError) → e ≢ NoMemory → IsTail format m k rest → HasBadLine format k (Some rest) e → ⊥
bad_line format m k rest e ample tail h = by_rest h.after h.is
  where
    by_rest : (after : Option (List ℕ)) → HasLine (Some rest) after h.text → ⊥
    by_rest None is = is.1
    by_rest (Some left) is = good_place format m k rest h.text left e ample tail is.0 is.1 h.cause

-- The last line is not one of what is held.
pub count_apart : (format : Format) (m : Meaning) (text : List ℕ) (ys later : List (List ℕ)) (k : Meaning) → IsMeaning k
    → text ≡ count_line format k → held_lines m ≡ ys ++ text ∷ later → ⊥
count_apart format m text ys later k valid is e =
    let count = is_count format k valid in
    no_count text count.rest (is ∙ count.begins) (all_back IsThird ys (text ∷ later) (subst (AllByRecursion IsThird) e (third_held m.records m.held))).0

-- The last line has no line feed in it.
pub plain_count : (format : Format) (m : Meaning) → IsMeaning m → HasNoFeed (count_line format m)
plain_count format m valid =
    plain (count_line format m) (feedless_count format (length m.held) (length m.records) (omega (arith, valid.few, receipt_limit-most m.config))
    (omega (arith, valid.few_records, record_limit-most m.config)))

-- Nothing follows the last line of a snapshot.
more_after : (format : Format) (m k : Meaning) (rest : List ℕ) → IsTail format m k rest → HasMoreAfter format k (Some rest) → ⊥
more_after format m k rest tail h = by_rest h.after h.is h.more
  where
    by_rest : (after : Option (List ℕ)) → Consumes (Some rest) after (ended (count_line format k)) → HasMore after → ⊥
    by_rest None is more = is
    by_rest (Some left) is more = elim (next_line format m k rest (count_line format k) left tail (plain_count format k tail.other) is) [
      | inl at ↦
          let lines = first-of rest (count_line format k) left (plain_count format k tail.other) is in
          let none : (lines_of left).rest ≡ [] = sym (ap (λ (l : Lines). l.rest) lines) ∙ tail.none in
          let empty = ap length (no_bytes left at.none none) in
          omega (arith, more, empty)
      | inr at ↦ count_apart format m (count_line format k) (held_lines k) at.later k tail.other refl at.parts
    ]

-- The end of a snapshot is not without a line.
cut : (format : Format) (m k : Meaning) (rest : List ℕ) → IsTail format m k rest → HasNoFeed rest → ⊥
cut format m k rest tail none =
    let whole : held_lines m ++ count_line format m ∷ [] ≡ held_lines k =
    tail.whole ∙ ap (λ (l : Lines). held_lines k ++ l.whole) (lines_of-rest rest none) ∙ append-nil (held_lines k) in
    count_apart format k (count_line format m) (held_lines m) [] m tail.valid refl (sym whole)

-- The end of a snapshot is not refused for what comes next.
refused_next : (format : Format) (m k : Meaning) (rest : List ℕ) (e : SyncError) → e ≢ Io → e ≢ NoMemory
    → IsTail format m k rest → RefusesNext format k (Some rest) e → ⊥
refused_next format m k rest BadHeader calm ample tail h = h
refused_next format m k rest ConfigDiffers calm ample tail h = h
refused_next format m k rest VersionDiffers calm ample tail h = h
refused_next format m k rest (NotCanonical n) calm ample tail (inl h) = bad_line format m k rest (NotCanonical n) ample tail h
refused_next format m k rest (NotCanonical n) calm ample tail (inr h) = more_after format m k rest tail h.1
refused_next format m k rest (NotRising n) calm ample tail h = bad_line format m k rest (NotRising n) ample tail h
refused_next format m k rest BadCount calm ample tail h = bad_line format m k rest BadCount ample tail h
refused_next format m k rest Truncated calm ample tail h = cut format m k rest tail h
refused_next format m k rest (Refused n why) calm ample tail h = bad_line format m k rest (Refused n why) ample tail h
refused_next format m k rest Io calm ample tail h = calm refl
refused_next format m k rest NoMemory calm ample tail h = ample refl

-- ---- the whole

-- what comes after the first line
abbrev follows : Format → Meaning → List ℕ
follows format m = text_of_lines (held_lines m) ++ ended (count_line format m)

-- A snapshot is its first line and what comes after it, if the configuration is this one.
front_of : (format : Format) (config : Configuration) (m : Meaning) → m.config ≡ config
    → snapshot_text format m ≡ ended (header_line format config) ++ follows format m
front_of format config m same = front_text format m ∙ ap (λ c. ended (header_line format c) ++ follows format m) same

-- The beginning of a snapshot is its first line and the lines of what is held.
pub begun_front : (format : Format) (config : Configuration) (k : Meaning) (rest : List ℕ) → k.config ≡ config
    → begun_text format k ++ rest ≡ ended (header_line format config) ++ (text_of_lines (held_lines k) ++ rest)
begun_front format config k rest same =
    append_assoc (ended (header_line format k.config)) (text_of_lines (held_lines k)) rest
    ∙ ap (λ c. ended (header_line format c) ++ (text_of_lines (held_lines k) ++ rest)) same

-- Snapshots of two formats differ in their first lines.
pub one_format : (config : Configuration) (f g : Format) (rest other : List ℕ)
    → ended (header_line f config) ++ rest ≡ ended (header_line g config) ++ other → f ≡ g
one_format config First First rest other e = refl
one_format config First Second rest other e = absurd (formats_apart (digits_of config) rest other e)
one_format config Second First rest other e = absurd (formats_apart (digits_of config) other rest (sym e))
one_format config Second Second rest other e = refl

-- What comes after the first line is the lines of what is held, and the last line.
after_lines : (format : Format) (m : Meaning) → IsMeaning m
    → lines_of (follows format m) ≡ record { whole = held_lines m ++ count_line format m ∷ []; rest = [] }
after_lines format m valid =
    ap (λ t. lines_of (text_of_lines (held_lines m) ++ t)) (sym (append-nil (ended (count_line format m))) ∙ sym (flat_map-cons ended (count_line format m) []))
    ∙ ap lines_of (sym (lines_append (held_lines m) (count_line format m ∷ [])) ∙ sym (append-nil (text_of_lines (held_lines m ++ count_line format m ∷ []))))
    ∙ lines_back (held_lines m ++ count_line format m ∷ []) [] (feedless_after format m valid)
    ∙ ap (λ (w : List (List ℕ)). record { whole = w; rest = [] }) (append-nil (held_lines m ++ count_line format m ∷ []))

-- What follows a good beginning of a snapshot is the end of that snapshot.
tail_of : (config : Configuration) (format : Format) (m k : Meaning) (rest : List ℕ) → IsConfiguration config
    → IsMeaning m → IsMeaning k → m.config ≡ config → k.config ≡ config → FitsFormat format m
    → follows format m ≡ text_of_lines (held_lines k) ++ rest → IsTail format m k rest
tail_of config format m k rest is valid other p q fits e =
    let lines = sym (after_lines format m valid) ∙ ap lines_of e ∙ lines_back (held_lines k) rest (feedless_held k other) in
    record {
      fits = fits;
      valid = valid;
      other = other;
      same = q ∙ sym p;
      configured = subst IsConfiguration (sym q) is;
      whole = ap (λ (l : Lines). l.whole) lines;
      none = sym (ap (λ (l : Lines). l.rest) lines);
    }

-- A snapshot is not refused after a good beginning.
refused_after : (config : Configuration) (f : Format) (bytes : List ℕ) (m : Meaning) (e : SyncError)
    → IsConfiguration config → e ≢ Io → e ≢ NoMemory → IsMeaning m → m.config ≡ config → FitsFormat f m
    → bytes ≡ ended (header_line f config) ++ follows f m → (g : Format) (k : Meaning) (left : Option (List ℕ))
    → Begins config (Some bytes) g k left → RefusesNext g k left e → ⊥
refused_after config f bytes m e is calm ample valid same fits whole g k None begins cause = begins.text
refused_after config f bytes m e is calm ample valid same fits whole g k (Some rest) begins cause =
    let other : bytes ≡ ended (header_line g config) ++ (text_of_lines (held_lines k) ++ rest) = begins.text ∙ begun_front g config k rest begins.of_config in
    let formats : g ≡ f = sym (one_format config f g (follows f m) (text_of_lines (held_lines k) ++ rest) (sym whole ∙ other)) in
    let texts : follows f m ≡ text_of_lines (held_lines k) ++ rest =
    append_cancel_left (ended (header_line f config)) (follows f m) (text_of_lines (held_lines k) ++ rest)
    (sym whole ∙ other ∙ ap (λ x. ended (header_line x config) ++ (text_of_lines (held_lines k) ++ rest)) formats)
    in
    refused_next f m k rest e calm ample
    (tail_of config f m k rest is valid begins.valid same begins.of_config fits texts)
    (subst (λ x. RefusesNext x k (Some rest) e) formats cause)

-- a stream that is read is not refused
pub not_refused : (config : Configuration) (bytes : List ℕ) (m : Meaning) (e : SyncError) → IsConfiguration config
    → e ≢ Io → e ≢ NoMemory → IsSnapshot config (Some bytes) m → RefusesSnapshot config (Some bytes) e → ⊥
not_refused config bytes m e is calm ample read (inl first) =
    refused_first read.format config bytes (follows read.format m) e calm ample
    (read.text ∙ front_of read.format config m read.of_config) first
not_refused config bytes m e is calm ample read (inr fault) =
    refused_after config read.format bytes m e is calm ample read.valid read.of_config read.fits
    (read.text ∙ front_of read.format config m read.of_config) fault.format fault.m fault.left fault.begins
    fault.cause

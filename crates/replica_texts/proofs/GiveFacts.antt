-- A stream begins with one answer at most, and one that begins with a whole answer has no error
-- before its end.
use Rattle.std.proofs.Common.{◌≡◌, ◌≢◌, ℕ, ◌+◌, ◌<◌, ◌≤◌, ◌^◌, inl, inr, List, [], ◌∷◌, ◌++◌, codes, decimal, length, length-append, map, Option}
use Rattle.std.proofs.Common.{None, Some, refl, ap, sym, ◌∙◌, subst, arith, append_assoc, append-nil}
use Rattle.std.proofs.lemmas.Bool.{cases_lt}
use Rattle.std.proofs.lemmas.Fmt.{length-decimal-le}
use Rattle.std.proofs.lemmas.List.{append_cancel_left, length-map}
use Rattle.std.specs.Io.KnownBytes.{Consumes}
use Rattle.std.specs.List.{AllByRecursion}
use Rattle.std.specs.List.Sorted.{IsStrictlySortedBy}
use Rattle.hex.specs.Hex.{encode_lower}
use Rattle.byte_lines.specs.Lines.{Lines, lines_of, HasLine, HasNoFeed, HasNoLine}
use Rattle.receipt_core.specs.Receipt.{IsDistrust, IsReceipt, distrust_line, line}
use Rattle.receipt_core.proofs.HexFacts.{length-encode_lower}
use Rattle.byte_lines.proofs.StreamFacts.{lines_of-line, lines_of-rest}
use Rattle.replica_core.specs.State.{State}
use Rattle.replica_core.specs.Session.{GiveMessage}
use Rattle.replica_texts.proofs.NextFacts.{above_nothing, last_above}
use Rattle.replica_texts.specs.Entries.{IsAbove, IsEntry, IsNextEntry}
use Rattle.replica_texts.specs.Snapshots.{ended, last_of, text_of_lines}
use Rattle.replica_core.specs.declared.entry.Entry.{Entry}
use Rattle.replica_core.specs.declared.entry.Entry.TheVariants.{Record, Receipt as AReceipt}
use Rattle.replica_texts.specs.declared.entry_line.Wanted.{Wanted}
use Rattle.replica_texts.specs.declared.entry_line.Wanted.TheVariants.{Records, Receipts, Either}
use Rattle.replica_core.specs.declared.error.SyncError.{SyncError}
use Rattle.replica_core.specs.declared.error.SyncError.TheVariants.{BadHeader, ConfigDiffers, VersionDiffers, NotCanonical, NotRising, BadCount, Truncated}
use Rattle.replica_core.specs.declared.error.SyncError.TheVariants.{Refused, Io, NoMemory}
use Rattle.replica_texts.proofs.FeedFacts.{Feedless, feedless_line, feedless_record}
use Rattle.replica_core.proofs.RisingListFacts.{all_append}
use Rattle.replica_texts.proofs.HeldFacts.{text_cmp}
use Rattle.replica_texts.proofs.OneFacts.{held_back, lines_back, feedless_all}
use Rattle.replica_texts.specs.Messages.{GiveHeader, distrusts_part, give_text, give_header_of, give_header_text}
use Rattle.replica_texts.specs.FirstLines.{Expected, HasBadFirstLine, IsAbout, HasDigestOf, IsRecordCount, IsGiveHeader, IsGiveHeaderLine, RefusesFirstLine}
use Rattle.replica_texts.specs.FirstLines.{RefusesGiveLine, config_of}
use Rattle.replica_texts.specs.Gives.{GiveBegins, Heads, IsGive, IsBegun, IsContent, HasBadNext, RefusesGive, RefusesHead, RefusesNextEntry}
use Rattle.replica_texts.specs.Gives.{Wants, content_lines, refused_text}
use Rattle.replica_texts.proofs.OneHaveFacts.{first-cause, no-other}
use Rattle.replica_texts.proofs.ContentFacts.{text_of_content}
use Rattle.replica_texts.proofs.FeedlessFacts.{no-first, plain-give-header, same-line}
use Rattle.replica_texts.proofs.FirstLineFacts.{one-give-header}
use Rattle.replica_texts.proofs.GatherFacts.{short-entry}

-- ---- the first line

-- The first line of an answer is the line of what it says.
give-header-line : (r : GiveMessage) → IsGive r → IsGiveHeaderLine (give_header_text (give_header_of r)) (give_header_of r)
give-header-line r is = record { is = is.header; spelt = refl }

-- A number of 64 bits has 20 digits at most.
pub short-number : (n : ℕ) → n < 2 ^ 64 → length (decimal n) ≤ 20
short-number n h = length-decimal-le 20 n (omega arith) (omega (arith, h)) h

-- The part on records is short.
short-part : (t : GiveHeader) → IsGiveHeader t → length (distrusts_part t.distrusts) ≤ 33
short-part t is = by-count t.distrusts is.records
  where
    by-count : (d : Option ℕ) → IsRecordCount t.format d → length (distrusts_part d) ≤ 33
    by-count None h = omega arith
    by-count (Some n) h = let few = short-number n h in let both = length-append (codes ",\"distrusts\":") (decimal n) in omega (arith, few, both)

-- The length of a first line, by its parts.
parts-length : (b c n d f k : List ℕ)
    → length (codes "{\"bucket\":" ++
    (b ++ (codes ",\"config\":\"" ++ (c ++ (codes "\",\"count\":" ++
    (n ++ (d ++ (codes ",\"format\":" ++ (f ++ (codes ",\"of\":" ++ (k ++ codes "}")))))))))))
    ≡ length b + length c + length n + length d + length f + length k + 48
parts-length b c n d f k = simp length-append (omega arith)

-- The first line of an answer is not too long.
short-give-header : (t : GiveHeader) → IsGiveHeader t → length (give_header_text t) ≤ 8388608
unfolding give_header_text
short-give-header t is =
    let whole = parts-length (decimal t.bucket) (encode_lower t.config) (decimal t.count) (distrusts_part t.distrusts) (decimal t.format) (decimal t.buckets) in
    let bucket = short-number t.bucket (let below = is.bucket in let many = is.buckets in omega (arith, below, many)) in
    let config = length-encode_lower t.config is.config in
    let count = short-number t.count is.count in
    let part = short-part t is in
    let format = short-number t.format is.format in
    let buckets = short-number t.buckets is.buckets in
    omega (arith, whole, bucket, config, count, part, format, buckets)

-- The first line of an answer says that it is one with this many receipts and records.
heads-give : (expected : Option Expected) (r : GiveMessage) → IsGive r → IsAbout expected r.bucket → HasDigestOf (config_of expected) r.config
    → Heads expected (give_header_text (give_header_of r)) (length r.content.held) (length r.content.records)
heads-give expected r is about own = record {
  header = give_header_of r;
  wanted = record { line = give-header-line r is; about = about };
  own = own;
  supported = (refl, refl);
  receipts = refl;
  records = refl;
}

-- A first line that is read has no error.
pub no-bad-head : (expected : Option Expected) (text : List ℕ) (count distrusts : ℕ) (e : SyncError) → Heads expected text count distrusts
    → e ≢ NoMemory → RefusesFirstLine (RefusesGiveLine expected) text e → ⊥
no-bad-head expected text count distrusts e is ample (inl long) =
    let more = long.1 in
    let line = is.wanted.line in
    let short = short-give-header is.header line.is in
    let same = ap length line.spelt in
    omega (arith, more, short, same)
no-bad-head expected text count distrusts BadHeader is ample (inr none) = none.1 is.header is.wanted
no-bad-head expected text count distrusts ConfigDiffers is ample (inr h) =
    let same = one-give-header text h.1.header is.header h.1.wanted.line is.wanted.line in
    no-other (config_of expected) is.header.config h.1.header.config is.own (ap (λ (t : GiveHeader). t.config) same) h.1.other
no-bad-head expected text count distrusts VersionDiffers is ample (inr h) =
    let same = one-give-header text h.1.header is.header h.1.wanted.line is.wanted.line in
    h.1.unsupported (ap (λ (t : GiveHeader). t.format) same ∙ is.supported.0, ap (λ (t : GiveHeader). t.buckets) same ∙ is.supported.1)
no-bad-head expected text count distrusts (NotCanonical n) is ample (inr h) = h.1
no-bad-head expected text count distrusts (NotRising n) is ample (inr h) = h.1
no-bad-head expected text count distrusts BadCount is ample (inr h) = h.1
no-bad-head expected text count distrusts Truncated is ample (inr h) = h.1
no-bad-head expected text count distrusts (Refused n why) is ample (inr h) = h.1
no-bad-head expected text count distrusts Io is ample (inr h) = h.1
no-bad-head expected text count distrusts NoMemory is ample (inr h) = ample refl

-- ---- the lines after it

-- the answer's first line, and the lines after it
pub in-lines : (bytes : List ℕ) (r : GiveMessage) (rest : List ℕ) → bytes ≡ give_text r ++ rest
    → bytes ≡ ended (give_header_text (give_header_of r)) ++ (text_of_lines (content_lines r.content) ++ rest)
in-lines bytes r rest e =
    e ∙ append_assoc (ended (give_header_text (give_header_of r))) _ rest
    ∙ ap (λ t. ended (give_header_text (give_header_of r)) ++ (t ++ rest)) (sym (text_of_content r.content))

-- No line of an answer's content has a line feed in it.
feedless-content : (content : State) → IsContent content → AllByRecursion Feedless (content_lines content)
feedless-content content is =
    all_append Feedless (map distrust_line content.records) (map line content.held)
    (feedless_all IsDistrust distrust_line (λ x h. feedless_record x) content.records is.records)
    (feedless_all IsReceipt line feedless_line content.held is.receipts)

-- There is one line for each record and each receipt.
pub count-lines : (content : State) → length (content_lines content) ≡ length content.records + length content.held
count-lines content =
    let both = length-append (map distrust_line content.records) (map line content.held) in
    let records = length-map content.records distrust_line in
    let receipts = length-map content.held line in
    omega (arith, both, records, receipts)

-- Two contents with which a text begins, and what follows them, have the same lines.
pub same-lines : (m k : State) (rest after : List ℕ) → IsContent m → IsContent k
    → text_of_lines (content_lines m) ++ rest ≡ text_of_lines (content_lines k) ++ after
    → content_lines m ++ (lines_of rest).whole ≡ content_lines k ++ (lines_of after).whole
same-lines m k rest after is valid e =
    ap (λ (l : Lines). l.whole) (sym (lines_back (content_lines m) rest (feedless-content m is)) ∙ ap lines_of e
    ∙ lines_back (content_lines k) after (feedless-content k valid))

-- ---- one answer

-- Two fronts of one length of a list are equal, and so are the rests.
pub same-front : (xs ys us vs : List (List ℕ)) → length xs ≡ length ys → xs ++ us ≡ ys ++ vs → (xs ≡ ys) × (us ≡ vs)
same-front [] [] us vs n e = (refl, e)
same-front [] (y ∷ ys) us vs n e = absurd (omega (arith, n))
same-front (x ∷ xs) [] us vs n e = absurd (omega (arith, n))
same-front (x ∷ xs) (y ∷ ys) us vs n e =
    let head : x ≡ y = cc in
    let tail : xs ++ us ≡ ys ++ vs = cc in
    let later = same-front xs ys us vs (omega (arith, n)) tail in
    ((λ i. head i ∷ later.0 i), later.1)

-- Equal options have equal items.
pub some-once : (m n : ℕ) → Some m ≡ Some n → m ≡ n
some-once m n e = cc

-- Both are one answer, and the same follows them.
pub record IsSameGive (a b : GiveMessage) (left rest : List ℕ) : Type 0 where
  pub give : a ≡ b
  pub follows : left ≡ rest

-- A stream of known bytes begins with one answer at most, and one thing follows it.
pub same-give : (bytes : List ℕ) (a b : GiveMessage) (left rest : List ℕ) → IsGive a → IsGive b
    → bytes ≡ give_text a ++ left → bytes ≡ give_text b ++ rest → IsSameGive a b left rest
same-give bytes a b left rest is valid e f =
    let first = same-line bytes (give_header_text (give_header_of a)) (give_header_text (give_header_of b)) _ _ (plain-give-header (give_header_of a) is.header)
    (plain-give-header (give_header_of b) valid.header) (in-lines bytes a left e) (in-lines bytes b rest f) in
    let header : give_header_of a ≡ give_header_of b =
    one-give-header (give_header_text (give_header_of a)) (give_header_of a) (give_header_of b) (give-header-line a is)
    (record { is = valid.header; spelt = first.line }) in
    let receipts : length a.content.held ≡ length b.content.held = ap (λ (t : GiveHeader). t.count) header in
    let records : length a.content.records ≡ length b.content.records = some-once _ _ (ap (λ (t : GiveHeader). t.distrusts) header) in
    let many = count-lines a.content in
    let many_too = count-lines b.content in
    let lines = same-front (content_lines a.content) (content_lines b.content) _ _
    (omega (arith, receipts, records, many, many_too))
    (same-lines a.content b.content left rest is.valid valid.valid first.rest) in
    let sets = held_back a.content.records b.content.records a.content.held b.content.held is.valid.records
    valid.valid.records is.valid.receipts valid.valid.receipts lines.0 in
    record {
      give = λ i. record { bucket = (header i).bucket; config = (header i).config; content = record { held = sets.receipts i; records = sets.records i } };
      follows = append_cancel_left (text_of_lines (content_lines b.content)) left rest
          (ap (λ (ls : List (List ℕ)). text_of_lines ls ++ left) (sym lines.0) ∙ first.rest);
    }

-- The clause `one` of the law on answers: a stream begins with one answer at most.
pub one-give : (bytes : List ℕ) (a b : GiveMessage) (left rest : Option (List ℕ)) → IsGive a → IsGive b
    → Consumes (Some bytes) left (give_text a) → Consumes (Some bytes) rest (give_text b) → (a ≡ b) × (left ≡ rest)
one-give bytes a b None rest is valid e f = absurd e
one-give bytes a b (Some left) None is valid e f = absurd f
one-give bytes a b (Some left) (Some rest) is valid e f =
    let same = same-give bytes a b left rest is valid e f in
    (same.give, ap Some same.follows)

-- ---- the line after a beginning

-- after the fewer lines comes one more of the others
pub record HasFurther (xs us ys : List (List ℕ)) : Type 0 where
  pub text : List ℕ
  pub later : List (List ℕ)
  pub follows : List (List ℕ)
  pub whole : ys ≡ xs ++ text ∷ later
  pub rest : us ≡ text ∷ follows

-- If fewer lines and more begin one list, one more line comes after the fewer.
pub further : (xs us ys vs : List (List ℕ)) → xs ++ us ≡ ys ++ vs → length xs < length ys → HasFurther xs us ys
further [] us [] vs e less = absurd (omega (arith, less))
further [] us (y ∷ ys) vs e less = record { text = y; later = ys; follows = ys ++ vs; whole = refl; rest = e }
further (x ∷ xs) us [] vs e less = absurd (omega (arith, less))
further (x ∷ xs) us (y ∷ ys) vs e less =
    let head : x ≡ y = cc in
    let tail : xs ++ us ≡ ys ++ vs = cc in
    let more = further xs us ys vs tail (omega (arith, less)) in
    record { text = more.text; later = more.later; follows = more.follows; whole = (λ i. sym head i ∷ more.whole i); rest = more.rest }

-- the text is that of such an item
record IsAt {A : Type 0} (P : A → Type 0) (f : A → List ℕ) (text : List ℕ) : Type 0 where
  pub it : A
  pub is : P it
  pub spelt : text ≡ f it

-- A line among those of some items is the line of one of them.
placed-at : {A : Type 0} (P : A → Type 0) (f : A → List ℕ) (xs : List A) (us ys vs : List (List ℕ)) (text : List ℕ)
    → AllByRecursion P xs → map f xs ++ us ≡ ys ++ text ∷ vs → length ys < length xs → IsAt P f text
placed-at P f [] us ys vs text h e less = absurd (omega (arith, less))
placed-at P f (x ∷ xs) us [] vs text h e less = record { it = x; is = h.0; spelt = cc }
placed-at P f (x ∷ xs) us (y ∷ ys) vs text h e less =
    let tail : map f xs ++ us ≡ ys ++ text ∷ vs = cc in
    placed-at P f xs us ys vs text h.1 tail (omega (arith, less))

-- If a record is wanted after the shorter of two beginnings of an answer, it has fewer records.
more-records : (count distrusts : ℕ) (whole content : State) → IsBegun count distrusts whole → length content.records < distrusts
    → length (content_lines content) < length (content_lines whole) → length content.records < length whole.records
more-records count distrusts whole content larger wants less =
    elim (cases_lt (length content.records) (length whole.records)) [
      | inl more ↦ more
      | inr same ↦
          let none = ap length (larger.order (omega (arith, same, wants))) in
          let few = count-lines content in
          let many = count-lines whole in
          absurd (omega (arith, same, none, few, many, less))
    ]

-- If a receipt is wanted after it, the other one has the same number of records, and more receipts.
more-receipts : (count distrusts : ℕ) (whole content : State) → IsBegun count distrusts whole → length content.records ≡ distrusts
    → length (content_lines content) < length (content_lines whole)
    → (length whole.records ≡ length content.records) × (length content.held < length whole.held)
more-receipts count distrusts whole content larger wants less =
    let few = count-lines content in
    let many = count-lines whole in
    let records = larger.records in
    elim (cases_lt (length whole.records) (length content.records)) [
      | inl fewer ↦ let none = ap length (larger.order (omega (arith, fewer, wants))) in absurd (omega (arith, fewer, none, few, many, less))
      | inr more ↦ let same : length whole.records ≡ length content.records = omega (arith, more, records, wants) in
          (same, omega (arith, same, few, many, less))
    ]

-- A line at a place of records, or of receipts, is one of these.
entry-at : (wanted : Wanted) (count distrusts : ℕ) (whole content : State) (text : List ℕ) (later : List (List ℕ))
    → IsBegun count distrusts whole → IsBegun count distrusts content → length (content_lines content) < length (content_lines whole)
    → Wants count distrusts content wanted → content_lines whole ≡ content_lines content ++ text ∷ later → (entry : Entry) × IsEntry wanted text entry
entry-at Records count distrusts whole content text later larger begun less wants e =
    let none : content_lines content ≡ map distrust_line content.records =
    ap (λ held. map distrust_line content.records ++ map line held) (begun.order wants)
    ∙ append-nil (map distrust_line content.records) in
    let few = length-map content.records distrust_line in
    let more = more-records count distrusts whole content larger wants less in
    let at = placed-at IsDistrust distrust_line whole.records (map line whole.held) (map distrust_line content.records)
    later text larger.valid.records (e ∙ ap (λ ls. ls ++ text ∷ later) none) (omega (arith, few, more)) in
    (Record at.it, record { is = at.is; spelt = at.spelt })
entry-at Receipts count distrusts whole content text later larger begun less wants e =
    let more = more-receipts count distrusts whole content larger wants.0 less in
    let same = more.0 in
    let longer = more.1 in
    let many = length-map whole.records distrust_line in
    let many_too = length-map content.records distrust_line in
    let follows =
    (same-front (map distrust_line whole.records) (map distrust_line content.records) (map line whole.held)
    (map line content.held ++ text ∷ later) (omega (arith, many, many_too, same))
    (e ∙ append_assoc (map distrust_line content.records) (map line content.held) (text ∷ later))).1 in
    let few = length-map content.held line in
    let at = placed-at IsReceipt line whole.held [] (map line content.held) later text larger.valid.receipts
    (append-nil (map line whole.held) ∙ follows) (omega (arith, few, longer)) in
    (AReceipt at.it, record { is = at.is; spelt = at.spelt })
entry-at Either count distrusts whole content text later larger begun less wants e = absurd wants

-- It is the line after this beginning of the whole.
pub record IsGood (whole content : State) (wanted : Wanted) (text : List ℕ) : Type 0 where
  pub entry : Entry
  pub next : IsNextEntry wanted (last_of (content_lines content)) text entry
  pub later : List (List ℕ)
  pub lines : content_lines whole ≡ content_lines content ++ text ∷ later

-- This is a beginning of the answer, and that is what follows the answer in the stream.
pub record IsPart (whole content : State) (count distrusts : ℕ) (rest after : List ℕ) : Type 0 where
  pub begun : IsBegun count distrusts content
  pub receipts : count ≡ length whole.held
  pub records : distrusts ≡ length whole.records
  pub lines : content_lines content ++ (lines_of rest).whole ≡ content_lines whole ++ (lines_of after).whole

-- A beginning after which a line is wanted has fewer lines than the whole.
fewer : (count distrusts : ℕ) (whole content : State) (wanted : Wanted) → IsBegun count distrusts content
    → count ≡ length whole.held → distrusts ≡ length whole.records → Wants count distrusts content wanted
    → length (content_lines content) < length (content_lines whole)
fewer count distrusts whole content Records begun receipts records wants =
    let few = count-lines content in
    let many = count-lines whole in
    let held = begun.receipts in
    omega (arith, few, many, held, receipts, records, wants)
fewer count distrusts whole content Receipts begun receipts records wants =
    let few = count-lines content in
    let many = count-lines whole in
    let all = wants.0 in
    let more = wants.1 in
    omega (arith, few, many, all, more, receipts, records)
fewer count distrusts whole content Either begun receipts records wants = absurd wants

-- Two beginnings of an answer, each with what follows it in one stream; if a line is wanted after
-- the content, the whole has more lines.
pub record IsShorter (whole content : State) (count distrusts : ℕ) (rest after : List ℕ) : Type 0 where
  pub begun : IsBegun count distrusts content
  pub larger : IsBegun count distrusts whole
  pub lines : content_lines content ++ (lines_of rest).whole ≡ content_lines whole ++ (lines_of after).whole
  pub more : (wanted : Wanted) → Wants count distrusts content wanted → length (content_lines content) < length (content_lines whole)

-- a beginning of a whole answer is such a one
shorter-part : (whole content : State) (count distrusts : ℕ) (rest after : List ℕ) → IsContent whole
    → IsStrictlySortedBy text_cmp (content_lines whole) → IsPart whole content count distrusts rest after → IsShorter whole content count distrusts rest after
shorter-part whole content count distrusts rest after valid rising part =
    let receipts = part.receipts in
    let records = part.records in
    record {
      begun = part.begun;
      larger = record {
        valid = valid;
        records = omega (arith, records);
        receipts = omega (arith, receipts);
        order = λ less. absurd (omega (arith, less, records));
        rising = rising;
      };
      lines = part.lines;
      more = λ wanted wants. fewer count distrusts whole content wanted part.begun receipts records wants;
    }

module _ (whole content : State) (count distrusts : ℕ) (rest after : List ℕ) (part : IsShorter whole content count distrusts rest after) where
  -- Another line of the whole comes after the beginning.
  next-line : (wanted : Wanted) → Wants count distrusts content wanted → HasFurther (content_lines content) (lines_of rest).whole (content_lines whole)
  next-line wanted wants =
      further (content_lines content) (lines_of rest).whole (content_lines whole) (lines_of after).whole part.lines (part.more wanted wants)

  -- That line is the one that is wanted.
  good-line : (wanted : Wanted) (text : List ℕ) (later : List (List ℕ)) → Wants count distrusts content wanted
      → content_lines whole ≡ content_lines content ++ text ∷ later → IsGood whole content wanted text
  good-line wanted text later wants lines =
      let found = entry-at wanted count distrusts whole content text later part.larger part.begun (part.more wanted wants) wants lines in
      record {
        entry = found.0;
        next = record {
          is = found.1;
          above = last_above [] text (content_lines content) later
              (subst (IsAbove []) (sym found.1.spelt) (above_nothing found.0))
              (subst (IsStrictlySortedBy text_cmp) lines part.larger.rising);
        };
        later = later;
        lines = lines;
      }

  -- The next line of the stream is the one that is wanted.
  good-next : (wanted : Wanted) (text : List ℕ) (new : Option (List ℕ)) → Wants count distrusts content wanted
      → HasLine (Some rest) new text → IsGood whole content wanted text
  good-next wanted text None wants is = absurd is.1
  good-next wanted text (Some since) wants is =
      let more = next-line wanted wants in
      let lines = ap (λ (l : Lines). l.whole) (ap lines_of is.1 ∙ lines_of-line text since is.0) in
      let heads : text ∷ (lines_of since).whole ≡ more.text ∷ more.follows = sym lines ∙ more.rest in
      let same : text ≡ more.text = cc in
      good-line wanted text more.later wants (more.whole ∙ ap (λ t. content_lines content ++ t ∷ more.later) (sym same))

  -- The stream does not end if a line is still wanted.
  no-cut : (wanted : Wanted) → Wants count distrusts content wanted → HasNoLine (Some rest) → ⊥
  no-cut wanted wants none =
      let more = next-line wanted wants in
      let nothing : [] ≡ more.text ∷ more.follows = sym (ap (λ (l : Lines). l.whole) (lines_of-rest rest none)) ∙ more.rest in
      cc

  module _ (refuses : Wanted → List ℕ → List ℕ → SyncError → Type 0) (e : SyncError)
      (welcome : (wanted : Wanted) (text : List ℕ) → IsGood whole content wanted text → refuses wanted (last_of (content_lines content)) text e → ⊥) where
    -- The next line has no error if a good line has none.
    no-bad-next : (new : Option (List ℕ)) → HasBadNext refuses count distrusts content (Some rest) new e → ⊥
    no-bad-next new h = welcome h.wanted h.text (good-next h.wanted h.text new h.wants h.is) h.cause

  -- Nothing is wrong with what comes next, unless the source or memory fails.
  pub no-next-fault : (refuses : Wanted → List ℕ → List ℕ → SyncError → Type 0) (new : Option (List ℕ)) (e : SyncError)
      → ((wanted : Wanted) (text : List ℕ) → IsGood whole content wanted text → refuses wanted (last_of (content_lines content)) text e → ⊥)
      → e ≢ Io → e ≢ NoMemory → RefusesNextEntry refuses count distrusts content (Some rest) new e → ⊥
  no-next-fault refuses new BadHeader welcome calm ample h = h
  no-next-fault refuses new ConfigDiffers welcome calm ample h = h
  no-next-fault refuses new VersionDiffers welcome calm ample h = h
  no-next-fault refuses new (NotCanonical n) welcome calm ample h = no-bad-next refuses (NotCanonical n) welcome new h
  no-next-fault refuses new (NotRising n) welcome calm ample h = no-bad-next refuses (NotRising n) welcome new h
  no-next-fault refuses new BadCount welcome calm ample h = h
  no-next-fault refuses new Truncated welcome calm ample h = no-cut h.wanted h.wants h.ends
  no-next-fault refuses new (Refused n why) welcome calm ample h = no-bad-next refuses (Refused n why) welcome new h
  no-next-fault refuses new Io welcome calm ample h = calm refl
  no-next-fault refuses new NoMemory welcome calm ample h = ample refl

-- ---- no error

module _ (expected : Option Expected) (bytes : List ℕ) (r : GiveMessage) (after : List ℕ) (is : IsGive r)
    (about : IsAbout expected r.bucket) (own : HasDigestOf (config_of expected) r.config)
    (begins : bytes ≡ give_text r ++ after) where
  -- The stream has no error of its first line.
  bad-first : (new : Option (List ℕ)) (e : SyncError) → e ≢ NoMemory → HasBadFirstLine (RefusesGiveLine expected) (Some bytes) new e → ⊥
  bad-first new e ample h =
      no-bad-head expected (give_header_text (give_header_of r)) (length r.content.held) (length r.content.records) e
      (heads-give expected r is about own) ample
      (first-cause (RefusesGiveLine expected) bytes (give_header_text (give_header_of r)) _ new e (plain-give-header (give_header_of r) is.header)
      (in-lines bytes r after begins) h)

  -- The first line is read, unless the source or memory fails.
  pub no-head-fault : (new : Option (List ℕ)) (e : SyncError) → e ≢ Io → e ≢ NoMemory → RefusesHead expected (Some bytes) new e → ⊥
  no-head-fault new BadHeader calm ample h = bad-first new BadHeader ample h
  no-head-fault new ConfigDiffers calm ample h = bad-first new ConfigDiffers ample h
  no-head-fault new VersionDiffers calm ample h = bad-first new VersionDiffers ample h
  no-head-fault new (NotCanonical n) calm ample h = h
  no-head-fault new (NotRising n) calm ample h = h
  no-head-fault new BadCount calm ample h = h
  no-head-fault new Truncated calm ample h =
      no-first bytes (give_header_text (give_header_of r)) _ (plain-give-header (give_header_of r) is.header) (in-lines bytes r after begins) h
  no-head-fault new (Refused n why) calm ample h = h
  no-head-fault new Io calm ample h = calm refl
  no-head-fault new NoMemory calm ample h = ample refl

  -- A good beginning of the stream is a beginning of the answer.
  pub is-part : (count distrusts : ℕ) (content : State) (rest : List ℕ)
      → GiveBegins expected (Some bytes) count distrusts content (Some rest)
      → IsPart r.content content count distrusts rest after
  is-part count distrusts content rest b =
      let line = b.heads.wanted.line in
      let first = same-line bytes b.first (give_header_text (give_header_of r)) _ _
      (subst HasNoFeed (sym line.spelt) (plain-give-header b.heads.header line.is)) (plain-give-header (give_header_of r) is.header)
      (b.text ∙ append_assoc (ended b.first) (text_of_lines (content_lines content)) rest) (in-lines bytes r after begins) in
      let header : b.heads.header ≡ give_header_of r =
      one-give-header b.first b.heads.header (give_header_of r) line (record { is = is.header; spelt = first.line }) in
      record {
        begun = b.begun;
        receipts = b.heads.receipts ∙ ap (λ (t : GiveHeader). t.count) header;
        records = some-once distrusts (length r.content.records) (b.heads.records ∙ ap (λ (t : GiveHeader). t.distrusts) header);
        lines = same-lines content r.content rest after b.begun.valid is.valid first.rest;
      }

  -- Nothing is wrong after a good beginning.
  pub no-fault-after : (refuses : Wanted → List ℕ → List ℕ → SyncError
      → Type 0) (count distrusts : ℕ) (content : State) (left new : Option (List ℕ)) (e : SyncError)
      → ((wanted : Wanted) (text : List ℕ) → IsGood r.content content wanted text → refuses wanted (last_of (content_lines content)) text e → ⊥)
      → e ≢ Io → e ≢ NoMemory → GiveBegins expected (Some bytes) count distrusts content left
      → RefusesNextEntry refuses count distrusts content left new e → ⊥
  no-fault-after refuses count distrusts content None new e welcome calm ample b h = b.text
  no-fault-after refuses count distrusts content (Some rest) new e welcome calm ample b h =
      no-next-fault r.content content count distrusts rest after
      (shorter-part r.content content count distrusts rest after is.valid is.rising (is-part count distrusts content rest b)) refuses new e welcome calm ample h

-- the text of a good line has no error of its own
pub no-text-fault : (whole content : State) (wanted : Wanted) (text : List ℕ) (e : SyncError) → e ≢ NoMemory
    → IsGood whole content wanted text → refused_text content wanted (last_of (content_lines content)) text e → ⊥
no-text-fault whole content wanted text BadHeader ample good h = h
no-text-fault whole content wanted text ConfigDiffers ample good h = h
no-text-fault whole content wanted text VersionDiffers ample good h = h
no-text-fault whole content wanted text (NotCanonical n) ample good h = elim (h.1) [
  | inl long ↦ let short = short-entry wanted text good.entry good.next.is in omega (arith, long, short)
  | inr none ↦ none good.entry good.next.is
]
no-text-fault whole content wanted text (NotRising n) ample good h = h.1.below good.next.above
no-text-fault whole content wanted text BadCount ample good h = h
no-text-fault whole content wanted text Truncated ample good h = h
no-text-fault whole content wanted text (Refused n why) ample good h = h
no-text-fault whole content wanted text Io ample good h = h
no-text-fault whole content wanted text NoMemory ample good h = ample refl

-- The answer is read to its end, unless the source or memory fails.
whole-read : (bytes : List ℕ) (r : GiveMessage) (after : List ℕ) (new : Option (List ℕ)) (e : SyncError) → IsGive r → e ≢ Io
    → e ≢ NoMemory → bytes ≡ give_text r ++ after → RefusesGive (Some bytes) new e → ⊥
whole-read bytes r after new e is calm ample begins (inl head) = no-head-fault None bytes r after is tt tt begins new e calm ample head
whole-read bytes r after new e is calm ample begins (inr fault) =
    no-fault-after None bytes r after is tt tt begins (refused_text fault.content) fault.count fault.distrusts fault.content fault.left new e
    (λ wanted text. no-text-fault r.content fault.content wanted text e ample) calm ample fault.begins fault.cause

-- The clause `read` of the law on answers: a stream that begins with an answer has no error before
-- its end.
pub give-read : (bytes : List ℕ) (r : GiveMessage) (left new : Option (List ℕ)) (e : SyncError) → IsGive r → e ≢ Io
    → e ≢ NoMemory → Consumes (Some bytes) left (give_text r) → RefusesGive (Some bytes) new e → ⊥
give-read bytes r None new e is calm ample begins h = begins
give-read bytes r (Some after) new e is calm ample begins h = whole-read bytes r after new e is calm ample begins h

-- The lines after an answer's first: one more joins those that were read, and all of them are the
-- answer.
use Rattle.std.proofs.Common.{◌≡◌, ℕ, ◌+◌, ◌<◌, ◌≤◌, inl, inr, List, [], ◌∷◌, ◌++◌, length, length-append, map, Option}
use Rattle.std.proofs.Common.{None, Some, refl, ap, sym, ◌∙◌, subst, arith, append_assoc, append-nil}
use Rattle.std.proofs.lemmas.Bool.{cases_lt}
use Rattle.std.specs.Io.KnownBytes.{Consumes}
use Rattle.std.specs.List.{flat_map}
use Rattle.std.specs.List.Sorted.{IsStrictlySortedBy}
use Rattle.receipt_core.specs.declared.distrust.Distrust.{Distrust}
use Rattle.receipt_core.specs.Receipt.{Receipt, line, distrust_line}
use Rattle.receipt_core.proofs.ReadFacts.{length-line, no_long_record}
use Rattle.replica_core.specs.State.{State, no_state}
use Rattle.replica_texts.proofs.ContentFacts.{lines_with_record, lines_with_receipt, all_pushed, rising_pushed}
use Rattle.replica_texts.specs.Entries.{IsEntry, IsNextEntry, IsAbove}
use Rattle.replica_texts.specs.Snapshots.{ended, last_of, text_of_lines}
use Rattle.replica_core.specs.declared.entry.Entry.{Entry}
use Rattle.replica_core.specs.declared.entry.Entry.TheVariants.{Record, Receipt as AReceipt}
use Rattle.replica_texts.specs.declared.entry_line.Wanted.{Wanted}
use Rattle.replica_texts.specs.declared.entry_line.Wanted.TheVariants.{Records, Receipts, Either}
use Rattle.replica_core.specs.declared.error.SyncError.{SyncError}
use Rattle.replica_texts.proofs.HeldFacts.{text_cmp}
use Rattle.replica_core.proofs.RisingListFacts.{rising_nil}
use Rattle.replica_texts.proofs.SnapshotFacts.{consumes_both}
use Rattle.replica_texts.specs.Messages.{receipt_text, record_text, give_text, give_header_of, give_header_text}
use Rattle.replica_texts.specs.FirstLines.{Expected, IsGiveHeader}
use Rattle.replica_texts.specs.Gives.{Heads, IsGive, IsBegun, RefusesGive, Wants, content_lines}
use Rattle.replica_texts.specs.Inside.Spelling.{HasHead, IsHeadLine, header_by_head}
use Rattle.replica_texts.specs.Inside.Gathering.{StopsGathering, Gathers, GathersAll, IsNextGiveLine, IsWhole, Pushes, pushed}
use Rattle.replica_texts.specs.declared.give_header_reader.Head.{Head}

-- ---- the bound of a line that says something

-- A record's line is within the bound.
short-record : (text : List ℕ) (x : Distrust) → IsEntry Records text (Record x) → length text ≤ 1051063
short-record text x is = elim (cases_lt 346 (length text)) [
  | inl long ↦ absurd (no_long_record text long x (record { is = is.is; text = is.spelt }))
  | inr short ↦ omega (arith, short)
]

-- A receipt's line is within the bound.
short-receipt : (text : List ℕ) (r : Receipt) → IsEntry Receipts text (AReceipt r) → length text ≤ 1051063
short-receipt text r is = let short = length-line r is.is in let same = ap length is.spelt in omega (arith, same, short)

-- A line that says something is within the bound for which memory is asked.
pub short-entry : (wanted : Wanted) (text : List ℕ) (entry : Entry) → IsEntry wanted text entry → length text ≤ 1051063
short-entry Records text (Record x) is = short-record text x is
short-entry Records text (AReceipt r) is = absurd is.is
short-entry Receipts text (Record x) is = absurd is.is
short-entry Receipts text (AReceipt r) is = short-receipt text r is
short-entry Either text (Record x) is = short-record text x (record { is = is.is; spelt = is.spelt })
short-entry Either text (AReceipt r) is = short-receipt text r (record { is = is.is; spelt = is.spelt })

-- ---- one more line

-- what was read with one more, and its lines
pub record Grows (count distrusts : ℕ) (old : State) (text : List ℕ) (new : State) : Type 0 where
  pub begun : IsBegun count distrusts new
  pub lines : content_lines new ≡ content_lines old ++ text ∷ []

-- A line above the last one keeps the lines sorted.
rises : (old new : State) (text : List ℕ) → IsStrictlySortedBy text_cmp (content_lines old)
    → IsAbove (last_of (content_lines old)) text → content_lines new ≡ content_lines old ++ text ∷ []
    → IsStrictlySortedBy text_cmp (content_lines new)
rises old new text rising above e =
    subst (IsStrictlySortedBy text_cmp) (sym e)
    (rising_pushed (content_lines old) text rising above)

module _ (count distrusts : ℕ) (old : State) (begun : IsBegun count distrusts old) where
  -- A record that is wanted continues the answer.
  grows-by-record : (text : List ℕ) (x : Distrust) → length old.records < distrusts
      → IsNextEntry Records (last_of (content_lines old)) text (Record x)
      → Grows count distrusts old text (pushed (Record x) old)
  grows-by-record text x more next =
      let longer : length (old.records ++ x ∷ []) ≡ length old.records + 1 = length-append old.records (x ∷ []) in
      let lines : content_lines (pushed (Record x) old) ≡ content_lines old ++ text ∷ [] =
      lines_with_record old x (begun.order more) ∙ ap (λ t. content_lines old ++ t ∷ []) (sym next.is.spelt) in
      record {
        begun = record {
          valid = record { receipts = begun.valid.receipts; records = all_pushed _ old.records x begun.valid.records next.is.is };
          records = omega (arith, longer, more);
          receipts = begun.receipts;
          order = λ less. begun.order more;
          rising = rises old (pushed (Record x) old) text begun.rising next.above lines;
        };
        lines = lines;
      }

  -- A receipt that is wanted continues the answer.
  grows-by-receipt : (text : List ℕ) (r : Receipt) → length old.records ≡ distrusts → length old.held < count
      → IsNextEntry Receipts (last_of (content_lines old)) text (AReceipt r)
      → Grows count distrusts old text (pushed (AReceipt r) old)
  grows-by-receipt text r all more next =
      let longer : length (old.held ++ r ∷ []) ≡ length old.held + 1 = length-append old.held (r ∷ []) in
      let lines : content_lines (pushed (AReceipt r) old) ≡ content_lines old ++ text ∷ [] =
      lines_with_receipt old r ∙ ap (λ t. content_lines old ++ t ∷ []) (sym next.is.spelt) in
      record {
        begun = record {
          valid = record { receipts = all_pushed _ old.held r begun.valid.receipts next.is.is; records = begun.valid.records };
          records = begun.records;
          receipts = omega (arith, longer, more);
          order = λ less. absurd (omega (arith, less, all));
          rising = rises old (pushed (AReceipt r) old) text begun.rising next.above lines;
        };
        lines = lines;
      }

  -- An entry that is wanted continues the answer.
  grows-by : (wanted : Wanted) (text : List ℕ) (entry : Entry) → Wants count distrusts old wanted
      → IsNextEntry wanted (last_of (content_lines old)) text entry → Grows count distrusts old text (pushed entry old)
  grows-by Records text (Record x) wants next = grows-by-record text x wants next
  grows-by Records text (AReceipt r) wants next = absurd next.is.is
  grows-by Receipts text (Record x) wants next = absurd next.is.is
  grows-by Receipts text (AReceipt r) wants next = grows-by-receipt text r wants.0 wants.1 next
  grows-by Either text entry wants next = absurd wants

  -- A line that is wanted and read continues the answer.
  pub grows : (wanted : Wanted) (text : List ℕ) (new : State) → Wants count distrusts old wanted
      → Pushes wanted old text new → Grows count distrusts old text new
  grows wanted text new wants p = subst (Grows count distrusts old text) (sym p.now) (grows-by wanted text p.entry wants p.next)

-- ---- in a stream

-- One line more, with its line feed, ends the text.
lines-text : (lines : List (List ℕ)) (text : List ℕ) → text_of_lines (lines ++ text ∷ []) ≡ text_of_lines lines ++ ended text
lines-text [] text = append-nil (ended text)
lines-text (x ∷ lines) text = ap (λ t. ended x ++ t) (lines-text lines text) ∙ sym (append_assoc (ended x) (text_of_lines lines) (ended text))

-- Before the first line nothing of the answer is read.
pub gathers-none : (count distrusts : ℕ) (stream : Option (List ℕ)) (content : State) → content ≡ no_state → Gathers count distrusts stream content stream
gathers-none count distrusts stream content none = subst (λ s. Gathers count distrusts stream s stream) (sym none) (record {
  begun = record {
    valid = record { receipts = tt; records = tt };
    records = omega arith;
    receipts = omega arith;
    order = λ less. refl;
    rising = rising_nil text_cmp;
  };
  text = nothing stream;
})
  where
    nothing : (s : Option (List ℕ)) → Consumes s s []
    nothing None = tt
    nothing (Some bytes) = refl

-- One line more of the answer is read.
pub gathers-more : (count distrusts : ℕ) (stream before after : Option (List ℕ)) (old new : State)
    → Gathers count distrusts stream old before → IsNextGiveLine count distrusts old before new after
    → Gathers count distrusts stream new after
gathers-more count distrusts stream before after old new g f =
    let grown = grows count distrusts old g.begun f.wanted f.text new f.wants f.pushes in
    record {
      begun = grown.begun;
      text = subst (Consumes stream after) (sym (ap text_of_lines grown.lines ∙ lines-text (content_lines old) f.text))
          (consumes_both stream before after (text_of_lines (content_lines old)) (ended f.text) g.text f.is.1);
    }

-- ---- the answer

-- The lines of a list of items, and then others, as one text.
lines-of : {X : Type 0} (f : X → List ℕ) (xs : List X) (later : List (List ℕ))
    → text_of_lines (map f xs ++ later) ≡ flat_map (λ x. ended (f x)) xs ++ text_of_lines later
lines-of f [] later = refl
lines-of f (x ∷ xs) later = ap (λ t. ended (f x) ++ t) (lines-of f xs later)
    ∙ sym (append_assoc (ended (f x)) (flat_map (λ y. ended (f y)) xs) (text_of_lines later))

-- The lines of an answer's content are its records' texts and its receipts' texts.
content-text : (content : State) → text_of_lines (content_lines content) ≡ flat_map record_text content.records ++ flat_map receipt_text content.held
content-text content =
    lines-of distrust_line content.records (map line content.held)
    ∙ ap (λ t. flat_map record_text content.records ++ t)
    (ap text_of_lines (sym (append-nil (map line content.held))) ∙ lines-of line content.held []
    ∙ append-nil (flat_map receipt_text content.held))

-- If the number of lines that came is what the first line says, it is the first line of the answer.
header-whole : (h : Head) (content : State) → IsWhole h.count h.distrusts content
    → header_by_head h ≡ give_header_of (record { bucket = h.bucket; config = h.config.0; content = content })
header-whole h content whole = λ i. record {
  bucket = h.bucket;
  config = h.config.0;
  count = sym whole.receipts i;
  distrusts = Some (sym whole.records i);
  format = 2;
  buckets = 256;
}

-- What was read is the text of an answer if the number of lines is what the first one says.
pub whole-give : (old middle new : Option (List ℕ)) (h : Head) (content : State) → HasHead None old middle h
    → GathersAll h.count h.distrusts middle content new
    → Consumes old new (give_text (record { bucket = h.bucket; config = h.config.0; content = content }))
whole-give old middle new h content head all =
    let first : head.text ≡ give_header_text (give_header_of (record { bucket = h.bucket; config = h.config.0; content = content })) =
    head.head.wanted.line.spelt ∙ ap give_header_text (header-whole h content all.whole) in
    subst (Consumes old new) ((λ i. ended (first i) ++ content-text content i))
    (consumes_both old middle new (ended head.text) (text_of_lines (content_lines content)) head.is.1 all.gathers.text)

-- What was then read is an answer of its form.
pub whole-answer : (old middle new : Option (List ℕ)) (h : Head) (content : State) → HasHead None old middle h
    → GathersAll h.count h.distrusts middle content new
    → IsGive (record { bucket = h.bucket; config = h.config.0; content = content })
whole-answer old middle new h content head all = record {
  header = subst IsGiveHeader (header-whole h content all.whole) head.head.wanted.line.is;
  valid = all.gathers.begun.valid;
  rising = all.gathers.begun.rising;
}

-- A first line that was read is one that is read by the definition.
pub read-heads : (expected : Option Expected) (text : List ℕ) (h : Head) → IsHeadLine expected text h → Heads expected text h.count h.distrusts
read-heads expected text h t = record { header = header_by_head h; wanted = t.wanted; own = t.own; supported = (refl, refl); receipts = refl; records = refl }

-- An error after the first line is why the answer is not read.
pub fails-after : (old middle new : Option (List ℕ)) (h : Head) (e : SyncError) → HasHead None old middle h
    → StopsGathering h.count h.distrusts middle new e → RefusesGive old new e
fails-after old middle new h e head fails = inr (record {
  count = h.count;
  distrusts = h.distrusts;
  content = fails.content;
  left = fails.left;
  begins = record {
    first = head.text;
    heads = read-heads None head.text h head.head;
    begun = fails.gathers.begun;
    text = consumes_both old middle fails.left (ended head.text) (text_of_lines (content_lines fails.content)) head.is.1 fails.gathers.text;
  };
  cause = fails.cause;
})

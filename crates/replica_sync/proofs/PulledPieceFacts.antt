-- Pieces of a session that pulls.
use Rattle.std.proofs.Common.{◌≡◌, ℕ, ◌+◌, ◌-◌, inl, inr, List, [], ◌∷◌, ◌++◌, length}
use Rattle.std.proofs.Common.{Option, Some, refl, sym, ap, ◌∙◌, subst, append_assoc, append-nil, length-append, arith}
use Rattle.std.specs.List.{flat_map}
use Rattle.std.proofs.lemmas.Grind.{flat_map-append}
use Rattle.std.proofs.lemmas.List.{map-append}
use Rattle.fed_config.specs.Configuration.{Configuration, config_id_of}
use Rattle.receipt_core.specs.Acceptance.{Meaning}
use Rattle.replica_core.specs.Absorbing.{entries_of, of_receipts, of_records, with_entry}
use Rattle.replica_core.specs.Session.{GiveMessage, HaveMessage, have_of}
use Rattle.replica_core.specs.State.{State, no_state}
use Rattle.replica_core.specs.declared.entry.Entry.{Entry}
use Rattle.replica_core.specs.declared.entry.Entry.TheVariants.{Record, Receipt as AReceipt}
use Rattle.replica_texts.specs.Messages.{give_header_of, give_header_text, give_text, have_text}
use Rattle.replica_texts.specs.FirstLines.{IsGiveHeader}
use Rattle.replica_texts.specs.Entries.{IsNextEntry}
use Rattle.replica_texts.specs.Gives.{GiveBegins, Heads, IsBegun, content_lines}
use Rattle.replica_texts.specs.Inside.Gathering.{pushed}
use Rattle.replica_sync.specs.Pulling.{IsGiveAbout}
use Rattle.replica_texts.specs.Snapshots.{ended, last_of, text_of_lines}
use Rattle.replica_texts.proofs.ContentFacts.{HasPlace, text_of_content}
use Rattle.replica_sync.proofs.TakingFacts.{begun_more, begun_none}
use Rattle.replica_sync.specs.Plans.{bucket_at}
use Rattle.replica_sync.specs.PulledPieces.{ArePulledGives, IsPulledGive, PulledGive, PulledGives, PulledPiece, TakesInTurn}
use Rattle.replica_sync.specs.PulledPieces.{bytes_pulled, haves_asked, haves_pulled, held_at_end, lines_pulled, pieces_of, receipts_pulled}
use Rattle.replica_sync.specs.PullSessions.{HasLinesOf, HasNoLineOf, HasPartOf}
use Rattle.replica_sync.specs.Inside.AnswerSteps.{LineLeft, StepsEntry, StepsFirst, StepsLine}
use Rattle.replica_sync.specs.declared.answer_lines.AnswerLines.{AnswerLines}

-- ---- one piece more

-- A piece of which nothing is taken changes nothing of what was.
pub takes_quiet : (came : List PulledPiece) (entries : List Entry) (c : PulledPiece) → TakesInTurn came entries → c.new ≡ c.old
    → TakesInTurn (came ++ c ∷ []) entries
takes_quiet [] [] c h q = (q, tt)
takes_quiet [] (e ∷ entries) c h q = absurd h
takes_quiet (d ∷ came) [] c h q = (h.0, takes_quiet came [] c h.1 q)
takes_quiet (d ∷ came) (e ∷ entries) c (inl h) q = inl (h.0, takes_quiet came (e ∷ entries) c h.1 q)
takes_quiet (d ∷ came) (e ∷ entries) c (inr h) q = inr (h.0, takes_quiet came entries c h.1 q)

-- A piece with which an entry is taken takes it last.
pub takes_entry : (came : List PulledPiece) (entries : List Entry) (c : PulledPiece) (entry : Entry) → TakesInTurn came entries
    → c.new ≡ with_entry entry c.old → TakesInTurn (came ++ c ∷ []) (entries ++ entry ∷ [])
takes_entry [] [] c entry h q = inr (q, tt)
takes_entry [] (e ∷ entries) c entry h q = absurd h
takes_entry (d ∷ came) [] c entry h q = inl (h.0, takes_entry came [] c entry h.1 q)
takes_entry (d ∷ came) (e ∷ entries) c entry (inl h) q = inl (h.0, takes_entry came (e ∷ entries) c entry h.1 q)
takes_entry (d ∷ came) (e ∷ entries) c entry (inr h) q = inr (h.0, takes_entry came entries c entry h.1 q)

-- The bytes of one piece more come last.
pub bytes_more : (came : List PulledPiece) (c : PulledPiece) → bytes_pulled (came ++ c ∷ []) ≡ bytes_pulled came ++ c.bytes
bytes_more came c =
    flat_map-append (λ (d : PulledPiece). d.bytes) came (c ∷ []) ∙ ap (λ (l : List ℕ). bytes_pulled came ++ l) (append-nil c.bytes)

-- The receipts of one piece more are added to their number.
pub receipts_more : (came : List PulledPiece) (c : PulledPiece)
    → receipts_pulled (came ++ c ∷ []) ≡ receipts_pulled came + (length c.new.held - length c.old.held)
receipts_more [] c = omega arith
receipts_more (d ∷ came) c = let more = receipts_more came c in omega (arith, more)

-- One piece more comes after the whole answers.
pub pulled_more : (plan : Option (List ℕ)) (start : Meaning) (came : List PulledPiece) (gives : List PulledGive) (later : List PulledPiece)
    (c : PulledPiece) → PulledGives plan start came gives later → PulledGives plan start (came ++ c ∷ []) gives (later ++ c ∷ [])
pulled_more plan start came gives later c whole = record {
  order = ap (λ (l : List PulledPiece). l ++ c ∷ []) whole.order ∙ append_assoc (flat_map pieces_of gives) later (c ∷ []);
  each = whole.each;
}

-- ---- one answer more

-- One answer more, about the next bucket.
each_more : (plan : Option (List ℕ)) (config : Configuration) (start place : ℕ) (gives : List PulledGive) (g : PulledGive) → place ≡ start + length gives
    → ArePulledGives plan config start gives → IsPulledGive config (bucket_at plan place) g → ArePulledGives plan config start (gives ++ g ∷ [])
each_more plan config start place [] g e h one =
    let same : place ≡ start = omega (arith, e) in (subst (λ (b : ℕ). IsPulledGive config (bucket_at plan b) g) same one, tt)
each_more plan config start place (first ∷ gives) g e h one = (
  h.0,
  each_more plan config (start + 1) place gives g
      (let longer : length (first ∷ gives) ≡ length gives + 1 = omega arith in omega (arith, e, longer)) h.1 one,
)

-- Pieces that are an answer are one more that came whole.
pub whole_more : (plan : Option (List ℕ)) (start : Meaning) (came : List PulledPiece) (gives : List PulledGive) (g : PulledGive)
    → PulledGives plan start came gives (pieces_of g) → IsPulledGive start.config (bucket_at plan (length gives)) g
    → PulledGives plan start came (gives ++ g ∷ []) []
whole_more plan start came gives g whole one = record {
  order = whole.order
      ∙ ap (λ (l : List PulledPiece). flat_map pieces_of gives ++ l) (sym (append-nil (pieces_of g)))
      ∙ sym (flat_map-append pieces_of gives (g ∷ []))
      ∙ sym (append-nil (flat_map pieces_of (gives ++ g ∷ [])));
  each = each_more plan start.config 0 (length gives) gives g (omega arith) whole.each one;
}

-- The have before the last answer is made of what was held when the one before it ended.
haves_then : (plan : Option (List ℕ)) (held : Meaning) (place at : ℕ) (gives : List PulledGive) (g : PulledGive) → at ≡ place + length gives
    → haves_pulled plan held place (gives ++ g ∷ []) ≡ haves_pulled plan held place gives ++ have_of (held_at_end held gives) (bucket_at plan at) ∷ []
haves_then plan held place at [] g e = let same : place ≡ at = omega (arith, e) in ap (λ (b : ℕ). have_of held (bucket_at plan b) ∷ []) same
haves_then plan held place at (first ∷ gives) g e =
    ap (λ (qs : List HaveMessage). have_of held (bucket_at plan place) ∷ qs)
    (haves_then plan first.last.new (place + 1) at gives g
    (let longer : length (first ∷ gives) ≡ length gives + 1 = omega arith in omega (arith, e, longer)))

-- What was asked before an answer ended are the haves to the whole answers then.
pub haves_whole : (plan : Option (List ℕ)) (start : Meaning) (gives : List PulledGive) (g : PulledGive)
    → haves_pulled plan start 0 (gives ++ g ∷ []) ≡ haves_asked plan start gives
haves_whole plan start gives g = haves_then plan start 0 (length gives) gives g (omega arith)

-- When the last answer ended this was held.
pub held_then : (held : Meaning) (gives : List PulledGive) (g : PulledGive) → held_at_end held (gives ++ g ∷ []) ≡ g.last.new
held_then held [] g = refl
held_then held (first ∷ gives) g = held_then first.last.new gives g

-- The lines of one answer more are added to the number of lines.
pub lines_then : (gives : List PulledGive) (g : PulledGive)
    → lines_pulled (gives ++ g ∷ []) ≡ lines_pulled gives + (1 + length g.give.content.records + length g.give.content.held)
lines_then [] g = omega arith
lines_then (first ∷ gives) g = let later = lines_then gives g in omega (arith, later)

-- The next have comes last.
pub asked_more : (plan : Option (List ℕ)) (start : Meaning) (gives : List PulledGive) (g : PulledGive) (output : List ℕ) (bucket : ℕ)
    → output ≡ flat_map have_text (haves_asked plan start gives) → bucket ≡ bucket_at plan (length gives + 1)
    → output ++ have_text (have_of g.last.new bucket) ≡ flat_map have_text (haves_asked plan start (gives ++ g ∷ []))
asked_more plan start gives g output bucket is next =
    let at : bucket ≡ bucket_at plan (length (gives ++ g ∷ [])) = next ∙ ap (bucket_at plan) (sym (length-append gives (g ∷ []))) in
    ap (λ (l : List ℕ). l ++ have_text (have_of g.last.new bucket)) is
    ∙ ap (λ (l : List ℕ). flat_map have_text (haves_asked plan start gives) ++ l) (sym (append-nil (have_text (have_of g.last.new bucket))))
    ∙ sym (flat_map-append have_text (haves_asked plan start gives) (have_of g.last.new bucket ∷ []))
    ∙ ap (λ (qs : List HaveMessage). flat_map have_text (qs ++ have_of g.last.new bucket ∷ [])) (sym (haves_whole plan start gives g))
    ∙ ap (λ (m : Meaning). flat_map have_text (haves_pulled plan start 0 (gives ++ g ∷ []) ++ have_of m bucket ∷ [])) (sym (held_then start gives g))
    ∙ ap (λ (b : ℕ). flat_map have_text (haves_pulled plan start 0 (gives ++ g ∷ []) ++ have_of (held_at_end start (gives ++ g ∷ [])) b ∷ [])) at

-- ---- no line ends

-- What comes within a line is kept.
pub part_within : (config : Configuration) (lines : AnswerLines) (before : ℕ) (later : List PulledPiece) (rest : List ℕ) (c : PulledPiece)
    → c.new ≡ c.old → HasPartOf config lines before later rest → HasPartOf config lines before (later ++ c ∷ []) (rest ++ c.bytes)
part_within config lines before later rest c quiet (inl none) = inl (record {
  none = none.none;
  bytes = bytes_more later c ∙ ap (λ (l : List ℕ). l ++ c.bytes) none.bytes;
  takes = takes_quiet later [] c none.takes quiet;
  read = none.read;
})
part_within config lines before later rest c quiet (inr some) = inr (record {
  begun = some.begun;
  count = some.count;
  distrusts = some.distrusts;
  content = some.content;
  begins = record {
    first = some.begins.first;
    heads = some.begins.heads;
    begun = some.begins.begun;
    text = bytes_more later c ∙ ap (λ (l : List ℕ). l ++ c.bytes) some.begins.text
        ∙ append_assoc (ended some.begins.first ++ text_of_lines (content_lines some.content)) rest c.bytes;
  };
  takes = takes_quiet later (entries_of some.content) c some.takes quiet;
  receipts = some.receipts;
  records = some.records;
  last = some.last;
  read = some.read;
})

-- ---- a line ends

-- One line more, with its line feed, ends the text.
pub text_pushed : (lines : List (List ℕ)) (text : List ℕ) → text_of_lines (lines ++ text ∷ []) ≡ text_of_lines lines ++ ended text
text_pushed lines text =
    flat_map-append ended lines (text ∷ []) ∙ ap (λ (t : List ℕ). text_of_lines lines ++ t) (append-nil (ended text))

-- An entry that may come next is the last of the entries.
entries_pushed : (entry : Entry) (content : State) → HasPlace entry content → entries_of (pushed entry content) ≡ entries_of content ++ entry ∷ []
entries_pushed (Record x) content none =
    ap (λ held. of_records (content.records ++ x ∷ []) ++ of_receipts held) none
    ∙ append-nil (of_records (content.records ++ x ∷ []))
    ∙ map-append Record content.records (x ∷ [])
    ∙ ap (λ (entries : List Entry). entries ++ Record x ∷ []) (sym (append-nil (of_records content.records)))
    ∙ ap (λ held. (of_records content.records ++ of_receipts held) ++ Record x ∷ []) (sym none)
entries_pushed (AReceipt r) content none =
    ap (λ (entries : List Entry). of_records content.records ++ entries) (map-append AReceipt content.held (r ∷ []))
    ∙ sym (append_assoc (of_records content.records) (of_receipts content.held) (AReceipt r ∷ []))

-- This much of an answer came in these bytes, which end a line; `left` is still to come.
pub record LinesCame (config : Configuration) (bucket before : ℕ) (left : LineLeft) (number : ℕ) (bytes : List ℕ)
    (pieces : List PulledPiece) : Type 0 where
  pub count : ℕ
  pub distrusts : ℕ
  pub content : State
  pub begins : GiveBegins (Some (record { config = config; bucket = bucket })) (Some bytes) count distrusts content (Some [])
  pub takes : TakesInTurn pieces (entries_of content)
  pub receipts : length content.held + left.receipts ≡ count
  pub records : length content.records + left.records ≡ distrusts
  pub last : left.last ≡ last_of (content_lines content)
  pub read : number ≡ before + 1 + length content.records + length content.held

-- The first line of an answer came.
first_came : (config : Configuration) (m : Meaning) (lines : AnswerLines) (before : ℕ) (later : List PulledPiece) (rest bytes text : List ℕ)
    (new : Meaning) (left : LineLeft) (c : PulledPiece) → m.config ≡ config → HasNoLineOf lines before later rest
    → StepsFirst m lines text new left → c.new ≡ c.old → rest ++ bytes ≡ text ++ (10 ∷ [])
    → LinesCame config lines.bucket before left (lines.read + 1) (bytes_pulled later ++ bytes) (later ++ c ∷ [])
first_came config m lines before later rest bytes text new left c own none steps quiet parts = record {
  count = left.receipts;
  distrusts = left.records;
  content = no_state;
  begins = record {
    first = text;
    heads = subst (λ (k : Configuration). Heads (Some (record { config = k; bucket = lines.bucket })) text left.receipts left.records) own steps.heads;
    begun = begun_none left.receipts left.records;
    text = ap (λ (l : List ℕ). l ++ bytes) none.bytes ∙ parts ∙ sym (append-nil (ended text)) ∙ sym (append-nil (ended text ++ []));
  };
  takes = takes_quiet later [] c none.takes quiet;
  receipts = omega arith;
  records = omega arith;
  last = steps.last;
  read = let same = none.read in omega (arith, same);
}

-- One line more of an answer came, and what it says is taken.
entry_came : (config : Configuration) (m : Meaning) (lines : AnswerLines) (before : ℕ) (later : List PulledPiece) (rest bytes text : List ℕ)
    (new : Meaning) (left : LineLeft) (c : PulledPiece) → HasLinesOf config lines before later rest
    → StepsEntry m lines text new left → c.old ≡ m → c.new ≡ new → rest ++ bytes ≡ text ++ (10 ∷ [])
    → LinesCame config lines.bucket before left (lines.read + 1) (bytes_pulled later ++ bytes) (later ++ c ∷ [])
entry_came config m lines before later rest bytes text new left c some steps old_is new_is parts =
    let content = some.content in
    let entry = steps.entry in
    let first = some.begins.first in
    let body = text_of_lines (content_lines content) in
    let next = subst (λ (l : List ℕ). IsNextEntry steps.wanted l text entry) some.last steps.next in
    let more =
    begun_more steps.wanted some.count some.distrusts content lines.due.receipts lines.due.records left.receipts left.records text entry
    some.begins.begun some.receipts some.records steps.order next in
    let taken : c.new ≡ with_entry entry c.old = new_is ∙ steps.meaning ∙ ap (with_entry entry) (sym old_is) in
    let one = more.one_more in
    let read = some.read in
    record {
      count = some.count;
      distrusts = some.distrusts;
      content = pushed entry content;
      begins = record {
        first = first;
        heads = some.begins.heads;
        begun = more.begun;
        text = ap (λ (l : List ℕ). l ++ bytes) some.begins.text
            ∙ append_assoc (ended first ++ body) rest bytes
            ∙ ap (λ (l : List ℕ). (ended first ++ body) ++ l) parts
            ∙ append_assoc (ended first) body (ended text)
            ∙ ap (λ (l : List ℕ). ended first ++ l) (sym (text_pushed (content_lines content) text))
            ∙ ap (λ (ls : List (List ℕ)). ended first ++ text_of_lines ls) (sym more.lines)
            ∙ sym (append-nil (ended first ++ text_of_lines (content_lines (pushed entry content))));
      };
      takes = subst (TakesInTurn (later ++ c ∷ [])) (sym (entries_pushed entry content more.place))
          (takes_entry later (entries_of content) c entry some.takes taken);
      receipts = more.receipts_due;
      records = more.records_due;
      last = steps.last ∙ more.last;
      read = omega (arith, one, read);
    }

-- One line more came.
pub line_came : (config : Configuration) (m : Meaning) (lines : AnswerLines) (before : ℕ) (later : List PulledPiece) (rest bytes text : List ℕ)
    (new : Meaning) (left : LineLeft) (c : PulledPiece) → m.config ≡ config → HasPartOf config lines before later rest
    → StepsLine m lines text new left → c.old ≡ m → c.new ≡ new → rest ++ bytes ≡ text ++ (10 ∷ [])
    → LinesCame config lines.bucket before left (lines.read + 1) (bytes_pulled later ++ bytes) (later ++ c ∷ [])
line_came config m lines before later rest bytes text new left c own (inl none) (inl steps) old_is new_is parts =
    first_came config m lines before later rest bytes text new left c own none steps (new_is ∙ steps.same ∙ sym old_is) parts
line_came config m lines before later rest bytes text new left c own (inl none) (inr steps) old_is new_is parts =
    absurd (let a = none.none in let b = steps.begun in cc)
line_came config m lines before later rest bytes text new left c own (inr some) (inl steps) old_is new_is parts =
    absurd (let a = some.begun in let b = steps.none in cc)
line_came config m lines before later rest bytes text new left c own (inr some) (inr steps) old_is new_is parts =
    entry_came config m lines before later rest bytes text new left c some steps old_is new_is parts

-- ---- an answer ends

-- the answer about the bucket that has this content
abbrev pub give_with : Configuration → ℕ → State → GiveMessage
give_with config bucket content = record { bucket = bucket; config = config_id_of config; content = content }

-- The first line, with the content that it announces, is what an answer with that content says
-- first.
header_is : (config : Configuration) (bucket : ℕ) (first : List ℕ) (count distrusts : ℕ) (content : State)
    → (h : Heads (Some (record { config = config; bucket = bucket })) first count distrusts)
    → length content.held ≡ count → length content.records ≡ distrusts → h.header ≡ give_header_of (give_with config bucket content)
header_is config bucket first count distrusts content h receipts records =
    let counts = sym h.receipts ∙ sym receipts in
    let number = sym h.records ∙ ap Some (sym records) in
    λ i. record { bucket = h.wanted.about i; config = h.own i; count = counts i; distrusts = number i; format = h.supported.0 i; buckets = h.supported.1 i }

-- A first line, and the lines of the content that it announces, are an answer.
pub give_whole : (config : Configuration) (bucket : ℕ) (first : List ℕ) (count distrusts : ℕ) (content : State)
    → Heads (Some (record { config = config; bucket = bucket })) first count distrusts → IsBegun count distrusts content
    → length content.held ≡ count → length content.records ≡ distrusts
    → IsGiveAbout config bucket (give_with config bucket content)
    × (ended first ++ text_of_lines (content_lines content) ≡ give_text (give_with config bucket content))
give_whole config bucket first count distrusts content heads begun receipts records =
    let same = header_is config bucket first count distrusts content heads receipts records in (
      record {
        own = refl;
        about = refl;
        form = record {
          header = subst IsGiveHeader same heads.wanted.line.is;
          valid = begun.valid;
          rising = begun.rising;
        };
      },
      ap (λ (t : List ℕ). ended t ++ text_of_lines (content_lines content)) (heads.wanted.line.spelt ∙ ap give_header_text same)
          ∙ ap (λ (t : List ℕ). ended (give_header_text (give_header_of (give_with config bucket content))) ++ t) (text_of_content content),
    )

-- All lines that the first one announces are the answer.
pub answer_whole : (config : Configuration) (bucket before : ℕ) (left : LineLeft) (number : ℕ) (bytes : List ℕ) (pieces : List PulledPiece)
    → (came : LinesCame config bucket before left number bytes pieces) → left.receipts ≡ 0 → left.records ≡ 0
    → IsGiveAbout config bucket (give_with config bucket came.content) × (bytes ≡ give_text (give_with config bucket came.content))
answer_whole config bucket before left number bytes pieces came none no_records =
    let content = came.content in
    let first = came.begins.first in
    let due = came.receipts in
    let records_due = came.records in
    let receipts : length content.held ≡ came.count = omega (arith, due, none) in
    let records : length content.records ≡ came.distrusts = omega (arith, records_due, no_records) in
    let is = give_whole config bucket first came.count came.distrusts content came.begins.heads came.begins.begun receipts records in
    (is.0, came.begins.text ∙ append-nil (ended first ++ text_of_lines (content_lines content)) ∙ is.1)

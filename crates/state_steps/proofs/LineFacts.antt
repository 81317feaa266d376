-- Lemmas on the whole lines of a text that gets longer, and on what a stop leaves of files.
use Rattle.std.proofs.Common.{◌≡◌, ℕ, inl, inr, Bool, true, false, List, [], ◌∷◌, ◌++◌, take, sym, ap, subst, refl, ◌∙◌, arith, length}
use Rattle.std.proofs.Common.{get_or, replicate}
use Rattle.std.proofs.Math.Seq.{take-length, take-nil}
use Rattle.std.proofs.lemmas.List.{append-nil, get_or-replicate, length-replicate}
use Rattle.std.proofs.lemmas.List.Elements.{Contains-append_left}
use Rattle.std.specs.Prelude.{Contains, ◌==◌}
use Rattle.byte_lines.proofs.StreamFacts.{lines_of-rest}
use Rattle.byte_lines.specs.Lines.{HasNoFeed, Lines, before, lines_of, with_byte}
use Rattle.state_steps.specs.Files.{AreKeeping, FileText, HasOneFile, HasWholeLine, IsFoundAt, IsJournalled, IsRemnantOf, kept_file}
use Rattle.state_steps.specs.Files.{longer_file, settled_name, synced_file, with_first}

-- ---- whole lines

-- a byte before lines of which the first ones are these
before_more : (b : ℕ) (old new : List (List ℕ)) (old_rest new_rest : List ℕ) (more : List (List ℕ)) → new ≡ old ++ more
    → (later : List (List ℕ)) × ((before b new new_rest).whole ≡ (before b old old_rest).whole ++ later)
before_more b [] new old_rest new_rest more is = ((before b new new_rest).whole, refl)
before_more b (text ∷ texts) new old_rest new_rest more is = (more, ap (λ l. (before b l new_rest).whole) is)

byte_more : (b : ℕ) (feed : Bool) (old new : Lines) (more : List (List ℕ)) → new.whole ≡ old.whole ++ more
    → (later : List (List ℕ)) × ((with_byte feed b new).whole ≡ (with_byte feed b old).whole ++ later)
byte_more b true old new more is = (more, ap (λ l. [] ∷ l) is)
byte_more b false old new more is = before_more b old.whole new.whole old.rest new.rest more is

-- The whole lines of a text are the first ones of a longer text.
pub lines_more : (text more : List ℕ) → (later : List (List ℕ)) × ((lines_of (text ++ more)).whole ≡ (lines_of text).whole ++ later)
lines_more [] more = ((lines_of more).whole, refl)
lines_more (b ∷ text) more =
    let rest = lines_more text more in
    byte_more b (b == 10) (lines_of text) (lines_of (text ++ more)) rest.0 rest.1

-- A whole line is still one when the text gets longer.
pub line_stays : (text more line : List ℕ) → HasWholeLine text line → HasWholeLine (text ++ more) line
line_stays text more line has =
    let split = lines_more text more in
    subst (λ lines. Contains lines line) (sym split.1) (Contains-append_left (lines_of text).whole split.0 line has)

-- ---- the lines of one text behind another

-- the lines of one text, and then those of another
abbrev joined : Lines → Lines → Lines
joined own next = record { whole = own.whole ++ next.whole; rest = next.rest }

byte_joined : (b : ℕ) (feed : Bool) (lines : List (List ℕ)) (rest : List ℕ) (next all : Lines)
    → (with_byte feed b (record { whole = lines; rest = rest })).rest ≡ []
    → (rest ≡ [] → all ≡ joined (record { whole = lines; rest = rest }) next)
    → with_byte feed b all ≡ joined (with_byte feed b (record { whole = lines; rest = rest })) next
byte_joined b true lines rest next all is own = ap (with_byte true b) (own is)
byte_joined b false [] rest next all is own = absurd (omega (arith, ap length is))
byte_joined b false (line ∷ lines) rest next all is own = ap (with_byte false b) (own is)

-- Behind a text that ends with a line feed, or has nothing, the lines of the next text follow.
pub text_joined : (text more : List ℕ) → (lines_of text).rest ≡ [] → lines_of (text ++ more) ≡ joined (lines_of text) (lines_of more)
text_joined [] more is = refl
text_joined (b ∷ text) more is =
    let rest = lines_of text in
    byte_joined b (b == 10) rest.whole rest.rest (lines_of more) (lines_of (text ++ more)) is (text_joined text more)

-- ---- a text with more behind it

-- the lines of a text, with more behind its rest
abbrev longer : Lines → List ℕ → Lines
longer lines more = record { whole = lines.whole; rest = lines.rest ++ more }

byte_longer : (b : ℕ) (feed : Bool) (whole : List (List ℕ)) (rest more : List ℕ)
    → with_byte feed b (longer (record { whole = whole; rest = rest }) more)
    ≡ longer (with_byte feed b (record { whole = whole; rest = rest })) more
byte_longer b true whole rest more = refl
byte_longer b false [] rest more = refl
byte_longer b false (line ∷ lines) rest more = refl

-- Behind a text, bytes without a line feed are at the end of its rest.
pub rest_longer : (text more : List ℕ) → HasNoFeed more → lines_of (text ++ more) ≡ longer (lines_of text) more
rest_longer [] more plain = lines_of-rest more plain
rest_longer (b ∷ text) more plain = ap (with_byte (b == 10) b) (rest_longer text more plain)
    ∙ byte_longer b (b == 10) (lines_of text).whole (lines_of text).rest more

-- the lines of a text, whose rest is a whole line too
abbrev ended : Lines → Lines
ended lines = record { whole = lines.whole ++ lines.rest ∷ []; rest = [] }

byte_ended : (b : ℕ) (feed : Bool) (whole : List (List ℕ)) (rest : List ℕ)
    → with_byte feed b (ended (record { whole = whole; rest = rest })) ≡ ended (with_byte feed b (record { whole = whole; rest = rest }))
byte_ended b true whole rest = refl
byte_ended b false [] rest = refl
byte_ended b false (line ∷ lines) rest = refl

-- A line feed ends the last line.
pub feed_ends : (text : List ℕ) → lines_of (text ++ 10 ∷ []) ≡ ended (lines_of text)
feed_ends [] = refl
feed_ends (b ∷ text) = ap (with_byte (b == 10) b) (feed_ends text) ∙ byte_ended b (b == 10) (lines_of text).whole (lines_of text).rest

-- ---- zeros behind a text

zeros_plain : (zeros : ℕ) → HasNoFeed (replicate zeros 0)
zeros_plain zeros k d below is =
    let zero : get_or (replicate zeros 0) k d ≡ 0 = get_or-replicate zeros k 0 d (omega (arith, length-replicate {A = ℕ} zeros 0)) in
    absurd (omega (arith, sym zero ∙ is))

pub zeros_behind : (text : List ℕ) (zeros : ℕ) → (lines_of (text ++ replicate zeros 0)).whole ≡ (lines_of text).whole
zeros_behind text zeros = ap (λ (l : Lines). l.whole) (rest_longer text (replicate zeros 0) (zeros_plain zeros))

-- ---- what a stop leaves

-- Nothing may be left of bytes that are not on the disk.
pub nothing_left : (bytes : List ℕ) → IsRemnantOf bytes []
nothing_left bytes = (0, 0, omega arith, refl)

-- All of them may be left.
pub all_left : (bytes : List ℕ) → IsRemnantOf bytes bytes
all_left bytes = (length bytes, 0, omega arith, sym (ap (λ (t : List ℕ). t ++ []) (take-length bytes) ∙ append-nil bytes))

-- No bytes have no other part.
pub part_of_none : (part : List ℕ) → IsRemnantOf [] part → part ≡ []
part_of_none part left =
    let none : left.1 ≡ 0 = omega (arith, left.2) in
    left.3 ∙ ap (λ n. take left.0 [] ++ replicate n 0) none ∙ ap (λ (t : List ℕ). t ++ []) (take-nil left.0)

-- If a stop leaves of a file what the disk has, and something behind it, the file keeps what the disk has.
pub left_has : (file : FileText) (text line part : List ℕ) → text ≡ file.kept ++ part → HasWholeLine file.kept line
    → HasWholeLine text line
left_has file text line part is has = subst (λ t. HasWholeLine t line) (sym is) (line_stays file.kept part line has)

-- So does a name that has one file.
pub found_has : (file : FileText) (text line : List ℕ) → IsFoundAt (file ∷ []) text → HasWholeLine file.kept line
    → HasWholeLine text line
found_has file text line (inl left) has = left_has file text line left.0 left.2 has
found_has file text line (inr none) has = absurd none

-- A name that has one file, all of which is on the disk, keeps its lines.
pub kept_has : (name : List FileText) (own text line : List ℕ) → name ≡ kept_file own ∷ [] → IsFoundAt name text
    → HasWholeLine own line → HasWholeLine text line
kept_has name own text line is found has = found_has (kept_file own) text line (subst (λ n. IsFoundAt n text) is found) has

-- What the disk has of a journal in one file is found.
pub journal_has : (journals : List FileText) (text line : List ℕ) → HasOneFile journals → IsFoundAt journals text
    → IsJournalled journals line → HasWholeLine text line
journal_has [] text line one found has = absurd one
journal_has (file ∷ []) text line one found has = found_has file text line found has
journal_has (file ∷ (other ∷ files)) text line one found has = absurd one

-- What is found after the folder was put on the disk was found before.
pub found_settled : (name : List FileText) (text : List ℕ) → IsFoundAt (settled_name name) text → IsFoundAt name text
found_settled [] text found = absurd found
found_settled (file ∷ files) text (inl left) = inl left
found_settled (file ∷ files) text (inr none) = absurd none

-- ---- journals that get longer

-- If the journal is replaced by one that has all that the disk has of it, no line is lost.
pub keeping_longer : (snapshots : List FileText) (file longer : FileText) (more line : List ℕ) → longer.kept ≡ file.kept ++ more
    → AreKeeping snapshots (file ∷ []) line → AreKeeping snapshots (longer ∷ []) line
keeping_longer snapshots file longer more line is keeping snapshot journal at_snapshot at_journal =
    elim (keeping snapshot file.kept at_snapshot (inl ([], nothing_left file.since, sym (append-nil file.kept)))) [
      | inl has ↦ inl has
      | inr has ↦ inr (found_has longer journal line at_journal
          (subst (λ t. HasWholeLine t line) (sym is) (line_stays file.kept more line has)))
    ]

pub keeping_appending : (snapshots journals : List FileText) (bytes line : List ℕ) → HasOneFile journals
    → AreKeeping snapshots journals line → AreKeeping snapshots (with_first (longer_file bytes) journals) line
keeping_appending snapshots [] bytes line one keeping = absurd one
keeping_appending snapshots (file ∷ []) bytes line one keeping =
    keeping_longer snapshots file (longer_file bytes file) [] line (sym (append-nil file.kept)) keeping
keeping_appending snapshots (file ∷ (other ∷ files)) bytes line one keeping = absurd one

pub keeping_appended : (snapshots journals : List FileText) (bytes line : List ℕ) → HasOneFile journals
    → AreKeeping snapshots journals line
    → AreKeeping snapshots (with_first (λ file. synced_file (longer_file bytes file)) journals) line
keeping_appended snapshots [] bytes line one keeping = absurd one
keeping_appended snapshots (file ∷ []) bytes line one keeping =
    keeping_longer snapshots file (synced_file (longer_file bytes file)) (file.since ++ bytes) line refl keeping
keeping_appended snapshots (file ∷ (other ∷ files)) bytes line one keeping = absurd one

pub journalled_appended : (journals : List FileText) (bytes line : List ℕ) → IsJournalled journals line
    → IsJournalled (with_first (λ file. synced_file (longer_file bytes file)) journals) line
journalled_appended [] bytes line has = absurd has
journalled_appended (file ∷ files) bytes line has = line_stays file.kept (file.since ++ bytes) line has

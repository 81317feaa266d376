-- Lemmas on the lines of the audit file for a turn.
use Rattle.std.proofs.Common.{◌≡◌, ◌≢◌, ◌≤◌, ◌<◌, ◌+◌, ◌/◌, ◌%◌, ◌==◌, ◌&&◌, ℕ, zero, suc, Bool, true, false, not, cond, nat_lt}
use Rattle.std.proofs.Common.{List, [], ◌∷◌, ◌++◌, Option, None, Some, codes, decimal, flat_map, length, inl, inr, refl, sym, ap, ◌∙◌, subst, arith}
use Rattle.std.proofs.Common.{add-one, append-nil, append_assoc, drop, drop-cons, get_or, map, slice_index, string_bytes}
use Rattle.std.proofs.lemmas.List.Elements.{All-append, All-cons, All-nil, All-tail}
use Rattle.std.proofs.lemmas.Bool.{and_parts, cases_lt, cases_eq, true≢false}
use Rattle.std.specs.Fmt.{digit_glyph, digits, digits_onto}
use Rattle.hex.specs.Hex.{encode_lower, encode_with, lower_digits}
use Rattle.json.specs.Print.{escape, escape_byte, quoted}
use Rattle.json.proofs.Printed.Strings.{escape_byte_plain}
use Rattle.sha2.specs.Sha256.{sha256}
use Rattle.byte_lines.specs.Lines.{HasNoFeed, Lines, lines_of, with_line}
use Rattle.byte_lines.proofs.StreamFacts.{lines_of-line}
use Rattle.jwk_set.specs.declared.authority.KeyId.{KeyId}
use Rattle.json_text.specs.JsonText.{comma_where, digest_member, number_member, parted_texts, string_member, truth_member}
use Rattle.state_steps.specs.Cuts.{AreUnheld, HeldComeFirst}
use Rattle.change_view.specs.ChangeTexts.{audit_line, change_members, distrust_members, document_members, key_digits, key_list, keys_member}
use Rattle.change_view.specs.ChangeTexts.{new_members, voucher_members}
use Rattle.change_view.specs.TurnTexts.{ComesInOrder, HoldsTurn, IsHeldWith, StoppedTurn, audit_at, final_line, final_of, line_of_change, line_of_report}
use Rattle.change_view.specs.TurnTexts.{AreReportedAt, IsReportedAt, line_at, part_journal, turn_journal}
use Rattle.change_view.specs.declared.held_change.DistrustedKeys.{DistrustedKeys}
use Rattle.change_view.specs.declared.held_change.HeldChange.{HeldChange}
use Rattle.change_view.specs.declared.held_change.HeldChange.TheVariants.{Observe, Distrust, Merge, Pull}
use Rattle.change_view.specs.declared.held_change.NewEntries.{NewEntries}
use Rattle.change_view.specs.declared.held_change.ObservedBundle.{ObservedBundle}
use Rattle.change_view.specs.declared.turn_lines.LinesReport.{LinesReport}
use Rattle.change_view.specs.declared.turn_lines.LinesReport.TheVariants as kind
use Rattle.change_view.specs.declared.turn_lines.TurnLines.{TurnLines}

-- ---- a line of the audit file has no line feed in it

abbrev NoFeed : ℕ → Type 0
NoFeed b = b ≢ 10

two_plain : (xs ys : List ℕ) → HasNoFeed xs → HasNoFeed ys → HasNoFeed (xs ++ ys)
two_plain xs ys h k = All-append NoFeed xs ys h k

one_more : (b : ℕ) (bytes : List ℕ) → b ≢ 10 → HasNoFeed bytes → HasNoFeed (b ∷ bytes)
one_more b bytes is rest = All-cons NoFeed b bytes is rest

none_plain : HasNoFeed []
none_plain = All-nil NoFeed

-- a text that is written out
abbrev is_plain : List ℕ → Bool
is_plain [] = true
is_plain (b ∷ bytes) = not (b == 10) && is_plain bytes

plain_byte : (b : ℕ) → not (b == 10) ≡ true → b ≢ 10
plain_byte b h ten = true≢false (sym (subst (λ x. not (x == 10) ≡ true) ten h))

by_look : (text : List ℕ) → is_plain text ≡ true → HasNoFeed text
by_look [] h = none_plain
by_look (b ∷ text) h =
    let parts = and_parts (not (b == 10)) (is_plain text) h in
    one_more b text (plain_byte b parts.0) (by_look text parts.1)

glyph_plain : (small : Bool) (d : ℕ) → cond small (48 + d) (87 + d) ≢ 10
glyph_plain true d e = omega arith
glyph_plain false d e = omega arith

either_plain : (q : Bool) (xs ys : List ℕ) → HasNoFeed xs → HasNoFeed ys → HasNoFeed (cond q xs ys)
either_plain true xs ys h k = h
either_plain false xs ys h k = k

onto_plain : (k n : ℕ) (acc : List ℕ) → HasNoFeed acc → HasNoFeed (digits_onto k 10 false n acc)
onto_plain zero n acc h = h
onto_plain (suc k) n acc h =
    let onto = digit_glyph false (n % 10) ∷ acc in
    let more : HasNoFeed onto = one_more (digit_glyph false (n % 10)) acc (glyph_plain (nat_lt (n % 10) 10) (n % 10)) h in
    either_plain (n / 10 == 0) onto (digits_onto k 10 false (n / 10) onto) more (onto_plain k (n / 10) onto more)

plain_decimal : (n : ℕ) → HasNoFeed (decimal n)
unfolding digits
plain_decimal n = onto_plain 64 n [] none_plain

-- no place of the table of digits has one
at_place : (table : List ℕ) (d : ℕ) → HasNoFeed table → slice_index table d ≢ 10
at_place [] d h e = cc
at_place (b ∷ table) zero h e = h 0 0 (omega arith) e
at_place (b ∷ table) (suc d) h e = at_place table d (All-tail NoFeed b table h) e

table_plain : (d : ℕ) → slice_index lower_digits d ≢ 10
table_plain d = at_place lower_digits d (by_look lower_digits refl)

plain_digits : (bytes : List ℕ) → HasNoFeed (encode_with lower_digits bytes)
unfolding encode_with
plain_digits [] = none_plain
plain_digits (b ∷ bytes) =
    one_more (slice_index lower_digits (b / 16)) (slice_index lower_digits (b % 16) ∷ encode_with lower_digits bytes) (table_plain (b / 16))
    (one_more (slice_index lower_digits (b % 16)) (encode_with lower_digits bytes) (table_plain (b % 16)) (plain_digits bytes))

-- the escapes of the bytes below n have none
abbrev escapes_plain : ℕ → Bool
escapes_plain zero = true
escapes_plain (suc n) = is_plain (escape_byte n) && escapes_plain n

escape_below : (n : ℕ) → escapes_plain n ≡ true → (x : ℕ) → x < n → HasNoFeed (escape_byte x)
escape_below zero e x h = absurd (omega arith)
escape_below (suc n) e x h =
    let p = and_parts (is_plain (escape_byte n)) (escapes_plain n) e in
    elim (cases_eq x n) [
      | inl same ↦ rw same (by_look (escape_byte n) p.0)
      | inr other ↦ escape_below n p.1 x (omega arith)
    ]

low_plain : escapes_plain 93 ≡ true
unfolding escape_byte
low_plain = refl

plain_escaped : (x : ℕ) → HasNoFeed (escape_byte x)
plain_escaped x = elim (cases_lt x 93) [
  | inl low ↦ escape_below 93 low_plain x low
  | inr high ↦ subst HasNoFeed (sym (escape_byte_plain x (λ e. omega arith) (λ e. omega arith) (omega arith)))
      (one_more x [] (λ e. omega arith) none_plain)
]

plain_escape : (text : List ℕ) → HasNoFeed (escape text)
plain_escape [] = none_plain
plain_escape (b ∷ text) = two_plain (escape_byte b) (escape text) (plain_escaped b) (plain_escape text)

plain_quoted : (text : List ℕ) → HasNoFeed (quoted text)
plain_quoted text = one_more 34 (escape text ++ 34 ∷ []) (λ e. omega arith)
    (two_plain (escape text) (34 ∷ []) (plain_escape text) (by_look (34 ∷ []) refl))

-- ---- members

plain_string : (label text : List ℕ) → is_plain label ≡ true → HasNoFeed (string_member label text)
unfolding string_member
plain_string label text h = two_plain label (quoted text) (by_look label h) (plain_quoted text)

plain_digest : (label digest : List ℕ) → is_plain label ≡ true → HasNoFeed (digest_member label digest)
unfolding digest_member
plain_digest label digest h = two_plain label (codes "\"" ++ (encode_lower digest ++ codes "\"")) (by_look label h)
    (two_plain (codes "\"") (encode_lower digest ++ codes "\"") (by_look (codes "\"") refl)
    (two_plain (encode_lower digest) (codes "\"") (plain_digits digest) (by_look (codes "\"") refl)))

plain_number : (label : List ℕ) (number : Option ℕ) → is_plain label ≡ true → HasNoFeed (number_member label number)
unfolding number_member
plain_number label None h = two_plain label (codes "null") (by_look label h) (by_look (codes "null") refl)
plain_number label (Some n) h = two_plain label (decimal n) (by_look label h) (plain_decimal n)

plain_truth : (label : List ℕ) (truth : Bool) → is_plain label ≡ true → HasNoFeed (truth_member label truth)
unfolding truth_member
plain_truth label true h = two_plain label (codes "true") (by_look label h) (by_look (codes "true") refl)
plain_truth label false h = two_plain label (codes "false") (by_look label h) (by_look (codes "false") refl)

plain_document : (o : ObservedBundle) → HasNoFeed (document_members o)
plain_document o = two_plain (string_member (codes ",\"event\":\"observe\",\"domain\":") o.domain) _
    (plain_string (codes ",\"event\":\"observe\",\"domain\":") o.domain refl)
    (two_plain (digest_member (codes ",\"document\":") o.document.0) (number_member (codes ",\"sequence\":") o.sequence)
    (plain_digest (codes ",\"document\":") o.document.0 refl) (plain_number (codes ",\"sequence\":") o.sequence refl))

plain_voucher : (o : ObservedBundle) → HasNoFeed (voucher_members o)
unfolding voucher_members
plain_voucher o = two_plain (digest_member (codes ",\"key\":") o.key.0) _ (plain_digest (codes ",\"key\":") o.key.0 refl)
    (two_plain (digest_member (codes ",\"voucher\":") o.voucher.0) (truth_member (codes ",\"current\":") o.is_current)
    (plain_digest (codes ",\"voucher\":") o.voucher.0 refl) (plain_truth (codes ",\"current\":") o.is_current refl))

plain_comma : (later : Bool) → HasNoFeed (comma_where later)
plain_comma true = by_look (codes ",") refl
plain_comma false = none_plain

plain_keys : (later : Bool) (keys : List KeyId) → HasNoFeed (parted_texts key_digits later keys)
plain_keys later [] = none_plain
plain_keys later (key ∷ keys) = two_plain (comma_where later) (key_digits key ++ parted_texts key_digits true keys) (plain_comma later)
    (two_plain (key_digits key) (parted_texts key_digits true keys) (plain_digits key.0) (plain_keys true keys))

plain_keys_member : (keys : List KeyId) → HasNoFeed (keys_member keys)
unfolding keys_member
plain_keys_member keys = two_plain (codes ",\"key\":\"") (key_list keys ++ codes "\"") (by_look (codes ",\"key\":\"") refl)
    (two_plain (key_list keys) (codes "\"") (plain_keys false keys) (by_look (codes "\"") refl))

plain_distrust : (k : DistrustedKeys) → HasNoFeed (distrust_members k)
plain_distrust k = two_plain (string_member (codes ",\"event\":\"distrust\",\"domain\":") k.domain) _
    (plain_string (codes ",\"event\":\"distrust\",\"domain\":") k.domain refl)
    (two_plain (keys_member k.keys.items) (number_member (codes ",\"fell\":") (Some k.fell))
    (plain_keys_member k.keys.items) (plain_number (codes ",\"fell\":") (Some k.fell) refl))

plain_new : (n : NewEntries) → HasNoFeed (new_members n)
unfolding new_members
plain_new n = two_plain (number_member (codes ",\"new\":") (Some n.receipts)) (number_member (codes ",\"records\":") (Some n.records))
    (plain_number (codes ",\"new\":") (Some n.receipts) refl) (plain_number (codes ",\"records\":") (Some n.records) refl)

plain_members : (change : HeldChange) → HasNoFeed (change_members change)
plain_members (Observe o) = two_plain (document_members o) (voucher_members o) (plain_document o) (plain_voucher o)
plain_members (Distrust k) = plain_distrust k
plain_members (Merge n) = two_plain (codes ",\"event\":\"merge\"") (new_members n) (by_look (codes ",\"event\":\"merge\"") refl) (plain_new n)
plain_members (Pull peer n) = two_plain (string_member (codes ",\"event\":\"pull\",\"peer\":") (string_bytes peer)) (new_members n)
    (plain_string (codes ",\"event\":\"pull\",\"peer\":") (string_bytes peer) refl) (plain_new n)

-- ---- the line without its line feed

abbrev entry_end : List ℕ → List ℕ
entry_end last = digest_member (codes ",\"last\":") last ++ codes "}"

abbrev audit_entry : ℕ → HeldChange → List ℕ → List ℕ
audit_entry moment change last = codes "{\"at\":" ++ (decimal moment ++ (change_members change ++ entry_end last))

plain_entry : (moment : ℕ) (change : HeldChange) (last : List ℕ) → HasNoFeed (audit_entry moment change last)
plain_entry moment change last = two_plain (codes "{\"at\":") _ (by_look (codes "{\"at\":") refl)
    (two_plain (decimal moment) _ (plain_decimal moment)
    (two_plain (change_members change) (entry_end last) (plain_members change)
    (two_plain (digest_member (codes ",\"last\":") last) (codes "}") (plain_digest (codes ",\"last\":") last refl) (by_look (codes "}") refl))))

with_front : (front bytes line : List ℕ) → bytes ≡ line ++ 10 ∷ [] → front ++ bytes ≡ (front ++ line) ++ 10 ∷ []
with_front front bytes line e = ap (λ t. front ++ t) e ∙ sym (append_assoc front line (10 ∷ []))

ended_entry : (moment : ℕ) (change : HeldChange) (last : List ℕ) → audit_line moment change last ≡ audit_entry moment change last ++ 10 ∷ []
ended_entry moment change last =
    with_front (codes "{\"at\":") _ (decimal moment ++ (change_members change ++ entry_end last))
    (with_front (decimal moment) _ (change_members change ++ entry_end last)
    (with_front (change_members change) _ (entry_end last)
    (with_front (digest_member (codes ",\"last\":") last) (codes "}\n") (codes "}") refl)))

-- ---- the lines of a turn

-- the line that a part has in the audit file, if it has one, and the lines of all
abbrev entry_of : ℕ → LinesReport → List ℕ → List (List ℕ)
entry_of moment (kind.Change change) lines = audit_entry moment change.now (sha256 (final_line lines)) ∷ []
entry_of moment kind.Start lines = []
entry_of moment kind.Lost lines = []

abbrev entries_of : ℕ → List TurnLines → List (List ℕ)
entries_of moment turn = flat_map (λ (p : TurnLines). entry_of moment p.report p.lines.now) turn

-- These lines come before other ones.
abbrev BeginsWith : List (List ℕ) → (all after : Lines) → Type 0
BeginsWith entries all after = (all.whole ≡ entries ++ after.whole) × (all.rest ≡ after.rest)

part_lines : (moment : ℕ) (report : LinesReport) (lines after : List ℕ)
    → BeginsWith (entry_of moment report lines) (lines_of (line_of_report moment report lines ++ after)) (lines_of after)
part_lines moment (kind.Change change) lines after =
    let last = sha256 (final_line lines) in
    let entry = audit_entry moment change.now last in
    let at : lines_of (audit_line moment change.now last ++ after) ≡ with_line entry (lines_of after) =
    ap (λ t. lines_of (t ++ after)) (ended_entry moment change.now last) ∙ lines_of-line entry after (plain_entry moment change.now last) in
    (ap (λ (l : Lines). l.whole) at, ap (λ (l : Lines). l.rest) at)
part_lines moment kind.Start lines after = (refl, refl)
part_lines moment kind.Lost lines after = (refl, refl)

turn_lines : (moment : ℕ) (turn : List TurnLines)
    → ((lines_of (audit_at (Some moment) turn)).whole ≡ entries_of moment turn) × ((lines_of (audit_at (Some moment) turn)).rest ≡ [])
turn_lines moment [] = (refl, refl)
turn_lines moment (part ∷ turn) =
    let first = part_lines moment part.report part.lines.now (audit_at (Some moment) turn) in
    let others = turn_lines moment turn in
    (first.0 ∙ ap (λ l. entry_of moment part.report part.lines.now ++ l) others.0, first.1 ∙ others.1)

nothing_at : (turn : List TurnLines) → audit_at None turn ≡ []
nothing_at [] = refl
nothing_at (part ∷ turn) = nothing_at turn

pub whole_turn : (moment : Option ℕ) (turn : List TurnLines) → (lines_of (audit_at moment turn)).rest ≡ []
whole_turn None turn = ap (λ t. (lines_of t).rest) (nothing_at turn)
whole_turn (Some moment) turn = (turn_lines moment turn).1

-- ---- what is held comes first

is_false : (b : Bool) → (b ≡ true → ⊥) → b ≡ false
is_false true h = absurd (h refl)
is_false false h = refl

unheld_entry : (stop : StoppedTurn) (moment end : ℕ) (change : HeldChange) (lines : List ℕ) → stop.left < end
    → IsHeldWith stop end (line_of_change moment change lines) → stop.held (audit_entry moment change (sha256 (final_line lines))) ≡ false
unheld_entry stop moment end change lines over held =
    let entry = audit_entry moment change (sha256 (final_line lines)) in
    let both = held entry (ended_entry moment change (sha256 (final_line lines))) in
    is_false (stop.held entry) (λ yes. let within : end ≤ stop.left = both.0 yes in omega (arith, over, within))

unheld_part : (stop : StoppedTurn) (moment end : ℕ) (report : LinesReport) (lines : List ℕ) (more : List (List ℕ)) → stop.left < end
    → IsHeldWith stop end (line_of_report moment report lines) → AreUnheld stop.held more → AreUnheld stop.held (entry_of moment report lines ++ more)
unheld_part stop moment end (kind.Change change) lines more over held rest =
    All-cons (λ l. stop.held l ≡ false) (audit_entry moment change.now (sha256 (final_line lines))) more
    (unheld_entry stop moment end change.now lines over held) rest
unheld_part stop moment end kind.Start lines more over held rest = rest
unheld_part stop moment end kind.Lost lines more over held rest = rest

-- What a stop cut off begins before these parts.
unheld_after : (stop : StoppedTurn) (moment before : ℕ) (turn : List TurnLines) → stop.left < before → HoldsTurn stop moment before turn
    → AreUnheld stop.held (entries_of moment turn)
unheld_after stop moment before [] over holds = All-nil (λ l. stop.held l ≡ false)
unheld_after stop moment before (part ∷ turn) over holds =
    let end = before + length part.lines.now in
    let later : stop.left < end = omega (arith, over) in
    unheld_part stop moment end part.report part.lines.now (entries_of moment turn) later holds.0
    (unheld_after stop moment end turn later holds.1)

first_part : (stop : StoppedTurn) (moment end : ℕ) (report : LinesReport) (lines : List ℕ) (more : List (List ℕ))
    → IsHeldWith stop end (line_of_report moment report lines) → (stop.left < end → AreUnheld stop.held more) → HeldComeFirst stop.held more
    → HeldComeFirst stop.held (entry_of moment report lines ++ more)
first_part stop moment end (kind.Change change) lines more held off first =
    let entry = audit_entry moment change.now (sha256 (final_line lines)) in
    let both = held entry (ended_entry moment change.now (sha256 (final_line lines))) in
    elim (cases_lt stop.left end) [
      | inl over ↦ inl (All-cons (λ l. stop.held l ≡ false) entry more (unheld_entry stop moment end change.now lines over held) (off over))
      | inr within ↦ inr (both.1 (omega (arith, within)), first)
    ]
first_part stop moment end kind.Start lines more held off first = first
first_part stop moment end kind.Lost lines more held off first = first

held_first : (stop : StoppedTurn) (moment before : ℕ) (turn : List TurnLines) → HoldsTurn stop moment before turn
    → HeldComeFirst stop.held (entries_of moment turn)
held_first stop moment before [] holds = tt
held_first stop moment before (part ∷ turn) holds =
    let end = before + length part.lines.now in
    first_part stop moment end part.report part.lines.now (entries_of moment turn) holds.0
    (λ over. unheld_after stop moment end turn over holds.1) (held_first stop moment end turn holds.1)

pub in_order : (moment : Option ℕ) (turn : List TurnLines) → ComesInOrder moment turn (audit_at moment turn)
in_order None turn = tt
in_order (Some moment) turn = λ stop. λ holds.
    subst (HeldComeFirst stop.held) (sym (turn_lines moment turn).0) (held_first stop moment 0 turn holds)

-- ---- the last line

pub last_behind : (front : List (List ℕ)) (line : List ℕ) → final_of (front ++ line ∷ []) ≡ line
last_behind [] line = refl
last_behind (first ∷ []) line = refl
last_behind (first ∷ (other ∷ front)) line = last_behind (other ∷ front) line

-- ---- one part more

pub journal_with : (turn : List TurnLines) (part : TurnLines) → turn_journal (turn ++ part ∷ []) ≡ turn_journal turn ++ part.lines.now
journal_with [] part = append-nil part.lines.now
journal_with (first ∷ turn) part =
    ap (λ t. first.lines.now ++ t) (journal_with turn part) ∙ sym (append_assoc first.lines.now (turn_journal turn) part.lines.now)

-- ---- the loop over the parts

next_part : (turn : List TurnLines) (k : ℕ) (part : TurnLines) → k < length turn → part ≡ get_or turn k part
    → drop k turn ≡ part ∷ drop (k + 1) turn
next_part turn k part low is = drop-cons turn k part low ∙ ap (λ p. p ∷ drop (suc k) turn) (sym is)
    ∙ ap (λ n. part ∷ drop n turn) (sym (add-one k))

pub next_lines : (turn : List TurnLines) (k : ℕ) (part : TurnLines) (old new all : List (List ℕ)) → k < length turn
    → part ≡ get_or turn k part → old ++ map part_journal (drop k turn) ≡ all → new ≡ old ++ part.lines.now ∷ []
    → new ++ map part_journal (drop (k + 1) turn) ≡ all
next_lines turn k part old new all low is before now =
    ap (λ l. l ++ map part_journal (drop (k + 1) turn)) now ∙ append_assoc old (part.lines.now ∷ []) (map part_journal (drop (k + 1) turn))
    ∙ ap (λ t. old ++ map part_journal t) (sym (next_part turn k part low is)) ∙ before

pub next_report : (moment : Option ℕ) (turn : List TurnLines) (k : ℕ) (part : TurnLines) (old new all : List ℕ) → k < length turn
    → part ≡ get_or turn k part → old ++ audit_at moment (drop k turn) ≡ all → new ≡ old ++ line_at moment part
    → new ++ audit_at moment (drop (k + 1) turn) ≡ all
next_report moment turn k part old new all low is before now =
    ap (λ l. l ++ audit_at moment (drop (k + 1) turn)) now ∙ append_assoc old (line_at moment part) (audit_at moment (drop (k + 1) turn))
    ∙ ap (λ t. old ++ audit_at moment t) (sym (next_part turn k part low is)) ∙ before

pub next_reported : (moment : Option ℕ) (turn : List TurnLines) (k : ℕ) (part : TurnLines) → k < length turn
    → part ≡ get_or turn k part → (AreReportedAt moment (drop k turn) → AreReportedAt moment turn) → IsReportedAt moment part.report
    → AreReportedAt moment (drop (k + 1) turn) → AreReportedAt moment turn
next_reported moment turn k part low is before one rest =
    before (subst (AreReportedAt moment) (sym (next_part turn k part low is)) (one, rest))

-- Lemmas on lines that are cut from bytes at a start.
use Rattle.std.proofs.Common.{◌≡◌, ◌≢◌, ℕ, ◌+◌, ◌-◌, ◌<◌, ◌≤◌, ◌⊎◌, inl, inr, Bool, true, false, List, [], ◌∷◌, ◌++◌, length, take, drop}
use Rattle.std.proofs.Common.{get_or, Option, None, Some, refl, sym, ap, ◌∙◌, subst, append_assoc, append-nil, take-append-drop, arith}
use Rattle.std.proofs.Common.{replicate, suc, zero}
use Rattle.std.proofs.Math.Seq.{take-append-add, take-append_seam}
use Rattle.std.proofs.lemmas.Bool.{eqb-true, eq-eqb}
use Rattle.std.proofs.lemmas.Grind.{get_or_default_zero}
use Rattle.std.proofs.lemmas.List.{get_or-drop, length-append, length-drop, length-replicate, take-append-le, take_more}
use Rattle.std.proofs.lemmas.List.Elements.{All-cons, All-nil}
use Rattle.std.specs.Prelude.{◌==◌}
use Rattle.memchr.specs.Find.{IsLastByte, Nowhere, Passes, is_byte}
use Rattle.byte_lines.specs.Lines.{HasNoFeed, Lines, lines_of, with_byte}
use Rattle.state_steps.specs.Cuts.{lines_found, with_part}
use Rattle.std.specs.Io.{StartsWith}
use Rattle.state_steps.specs.LineCuts.{IsLineStart, MayBeLeftOf}
use Rattle.state_steps.specs.Resumes.{IsCutAtLine}
use Rattle.state_steps.proofs.LineFacts.{all_left, feed_ends, rest_longer}

-- ---- the last line feed

no_feed_behind : (bytes : List ℕ) (start : ℕ) → Nowhere (Passes (is_byte 10) bytes) start (length bytes) → HasNoFeed (drop start bytes)
no_feed_behind bytes start none k d below is =
    let inside : start + k < length bytes = omega (arith, length-drop start bytes) in
    let feed : get_or bytes (start + k) 0 ≡ 10 = sym (get_or_default_zero bytes (start + k) d inside) ∙ sym (get_or-drop start bytes k d) ∙ is in
    none (start + k) (omega arith) inside (eq-eqb (get_or bytes (start + k) 0) 10 feed)

-- the place at which the part behind the last line feed begins
pub none_start : (bytes : List ℕ) → IsLastByte (is_byte 10) bytes None → IsLineStart bytes 0
none_start bytes none = record { within = omega arith; plain = no_feed_behind bytes 0 none; feed = inl refl }

pub feed_start : (bytes : List ℕ) (k : ℕ) → IsLastByte (is_byte 10) bytes (Some k) → IsLineStart bytes (k + 1)
feed_start bytes k last =
    let inside : k < length bytes = last.0.high in
    let feed : get_or bytes k 0 ≡ 10 = eqb-true (get_or bytes k 0) 10 last.1 in
    record {
      within = omega arith;
      plain = no_feed_behind bytes (k + 1) last.0.after;
      feed = inr (take k bytes, take_more bytes k 0 inside ∙ ap (λ b. take k bytes ++ b ∷ []) feed);
    }

-- ---- the lines before it

front_ends : (bytes : List ℕ) (start : ℕ) → (start ≡ 0) ⊎ ((front : List ℕ) × (take start bytes ≡ front ++ 10 ∷ []))
    → (lines_of (take start bytes)).rest ≡ []
front_ends bytes start (inl is) = ap (λ n. (lines_of (take n bytes)).rest) is
front_ends bytes start (inr is) = ap (λ t. (lines_of t).rest) is.1 ∙ ap (λ (l : Lines). l.rest) (feed_ends is.0)

pub start_ends : (bytes : List ℕ) (start : ℕ) → IsLineStart bytes start → (lines_of (take start bytes)).rest ≡ []
start_ends bytes start at = front_ends bytes start at.feed

abbrev of_parts : List (List ℕ) → List ℕ → Lines
of_parts whole rest = record { whole = whole; rest = rest }

pub start_lines : (bytes : List ℕ) (start : ℕ) → IsLineStart bytes start
    → lines_of bytes ≡ of_parts (lines_of (take start bytes)).whole (drop start bytes)
start_lines bytes start at = ap lines_of (sym (take-append-drop start bytes)) ∙ rest_longer (take start bytes) (drop start bytes) at.plain
    ∙ ap (λ r. of_parts (lines_of (take start bytes)).whole (r ++ drop start bytes)) (start_ends bytes start at)

-- ---- lines that are counted

-- If the piece behind the text has a line feed, what is behind its last one is the rest.
rest_of_feed : (text piece front : List ℕ) (start : ℕ) → take start piece ≡ front ++ 10 ∷ [] → HasNoFeed (drop start piece)
    → (lines_of (text ++ piece)).rest ≡ drop start piece
rest_of_feed text piece front start is plain =
    let split : text ++ piece ≡ ((text ++ front) ++ 10 ∷ []) ++ drop start piece =
    ap (λ p. text ++ p) (sym (take-append-drop start piece) ∙ ap (λ p. p ++ drop start piece) is)
    ∙ sym (append_assoc text (front ++ 10 ∷ []) (drop start piece))
    ∙ ap (λ p. p ++ drop start piece) (sym (append_assoc text front (10 ∷ []))) in
    ap (λ t. (lines_of t).rest) split ∙ ap (λ (l : Lines). l.rest) (rest_longer ((text ++ front) ++ 10 ∷ []) (drop start piece) plain)
    ∙ ap (λ (l : Lines). l.rest ++ drop start piece) (feed_ends (text ++ front))

rest_at_feed : (text piece : List ℕ) (start : ℕ) → 0 < start → (start ≡ 0) ⊎ ((front : List ℕ) × (take start piece ≡ front ++ 10 ∷ []))
    → HasNoFeed (drop start piece) → (lines_of (text ++ piece)).rest ≡ drop start piece
rest_at_feed text piece start some (inl is) plain = absurd (omega (arith, is, some))
rest_at_feed text piece start some (inr is) plain = rest_of_feed text piece is.0 start is.1 plain

pub counted_feed : (text piece : List ℕ) (start : ℕ) → 0 < start → IsLineStart piece start
    → (length text + start) + length (lines_of (text ++ piece)).rest ≡ length (text ++ piece)
counted_feed text piece start some at =
    let rest : length (lines_of (text ++ piece)).rest ≡ length (drop start piece) = ap length (rest_at_feed text piece start some at.feed at.plain) in
    let within = at.within in
    omega (arith, rest, length-drop start piece, length-append text piece, within)

pub counted_part : (text piece : List ℕ) (whole start : ℕ) → start ≡ 0 → IsLineStart piece start
    → whole + length (lines_of text).rest ≡ length text → whole + length (lines_of (text ++ piece)).rest ≡ length (text ++ piece)
counted_part text piece whole start none at counted =
    let plain : HasNoFeed piece = subst (λ n. HasNoFeed (drop n piece)) none at.plain in
    let rest : length (lines_of (text ++ piece)).rest ≡ length ((lines_of text).rest ++ piece) =
    ap (λ (l : Lines). length l.rest) (rest_longer text piece plain) in
    omega (arith, rest, length-append (lines_of text).rest piece, length-append text piece, counted)

-- ---- the rest is cut off

byte_some : (b : ℕ) (feed : Bool) (whole : List (List ℕ)) (rest : List ℕ) → (with_byte feed b (of_parts whole rest)).whole ≡ []
    → (with_byte feed b (of_parts whole rest)).rest ≡ [] → ⊥
byte_some b true whole rest none empty = omega (arith, ap length none)
byte_some b false [] rest none empty = omega (arith, ap length empty)
byte_some b false (line ∷ lines) rest none empty = omega (arith, ap length none)

-- Bytes without a line and a rest are empty.
no_bytes : (bytes : List ℕ) → (lines_of bytes).whole ≡ [] → (lines_of bytes).rest ≡ [] → bytes ≡ []
no_bytes [] none empty = refl
no_bytes (b ∷ bytes) none empty = absurd (byte_some b (b == 10) (lines_of bytes).whole (lines_of bytes).rest none empty)

-- The text is these bytes, with its whole lines, and its rest.
abbrev IsFrontOf : List ℕ → Lines → List ℕ → Type 0
IsFrontOf text lines front = (text ≡ front ++ lines.rest) × (lines_of front ≡ of_parts lines.whole [])

front_with : (b : ℕ) (feed : Bool) (whole : List (List ℕ)) (rest text front : List ℕ) → b == 10 ≡ feed
    → IsFrontOf text (of_parts whole rest) front
    → (own : List ℕ) × IsFrontOf (b ∷ text) (with_byte feed b (of_parts whole rest)) own
front_with b true whole rest text front feed is =
    (b ∷ front, (ap (λ t. b ∷ t) is.0, ap (λ f. with_byte f b (lines_of front)) feed ∙ ap (with_byte true b) is.1))
front_with b false [] rest text front feed is =
    let none : front ≡ [] = no_bytes front (ap (λ (l : Lines). l.whole) is.1) (ap (λ (l : Lines). l.rest) is.1) in
    ([], (ap (λ t. b ∷ t) (is.0 ∙ ap (λ f. f ++ rest) none), refl))
front_with b false (line ∷ lines) rest text front feed is =
    (b ∷ front, (ap (λ t. b ∷ t) is.0, ap (λ f. with_byte f b (lines_of front)) feed ∙ ap (with_byte false b) is.1))

front_of : (text : List ℕ) → (front : List ℕ) × IsFrontOf text (lines_of text) front
front_of [] = ([], (refl, refl))
front_of (b ∷ text) =
    let own = front_of text in
    front_with b (b == 10) (lines_of text).whole (lines_of text).rest text own.0 refl own.1

pub cut_whole : (text : List ℕ) (whole : ℕ) → whole + length (lines_of text).rest ≡ length text
    → IsCutAtLine (record { found = text; cut = take whole text })
cut_whole text whole counted =
    let own = front_of text in
    let size : whole ≡ length own.0 = omega (arith, counted, ap length own.1.0, length-append own.0 (lines_of text).rest) in
    let cut : take whole text ≡ own.0 =
    ap (λ n. take n text) size ∙ ap (take (length own.0)) own.1.0 ∙ take-append_seam own.0 (lines_of text).rest in
    record {
      whole = ap (λ t. (lines_of t).whole) cut ∙ ap (λ (l : Lines). l.whole) own.1.1;
      rest = ap (λ t. (lines_of t).rest) cut ∙ ap (λ (l : Lines). l.rest) own.1.1;
    }

-- ---- the last line

-- If the last byte is not a line feed, something is behind the last one.
pub end_some : (text front : List ℕ) (last begin : ℕ) → text ≡ front ++ last ∷ [] → last ≢ 10 → IsLineStart text begin
    → drop begin text ≢ []
end_some text front last begin is other at none =
    let plain : HasNoFeed (last ∷ []) = All-cons (λ b. b ≢ 10) last [] other (All-nil (λ b. b ≢ 10)) in
    let rest : (lines_of text).rest ≡ (lines_of front).rest ++ last ∷ [] =
    ap (λ t. (lines_of t).rest) is ∙ ap (λ (l : Lines). l.rest) (rest_longer front (last ∷ []) plain) in
    let empty : (lines_of text).rest ≡ [] = ap (λ (l : Lines). l.rest) (start_lines text begin at) ∙ none in
    omega (arith, ap length (sym rest ∙ empty), length-append (lines_of front).rest (last ∷ []))

-- What the last line of a text is, and that what is before it are whole lines.
abbrev EndsIn : List ℕ → ℕ → List ℕ → Type 0
EndsIn text begin line = ((lines_of (take begin text)).rest ≡ [])
    × (lines_found text ≡ (lines_of (take begin text)).whole ++ line ∷ [])

part_of_line : (lines : List (List ℕ)) (rest : List ℕ) → rest ≢ [] → with_part lines rest ≡ lines ++ rest ∷ []
part_of_line lines [] some = absurd (some refl)
part_of_line lines (byte ∷ rest) some = refl

pub end_whole : (text body : List ℕ) (begin : ℕ) → text ≡ body ++ 10 ∷ [] → IsLineStart body begin
    → EndsIn text begin (drop begin body) × ((lines_of text).rest ≡ [])
end_whole text body begin is at =
    let same : take begin text ≡ take begin body = ap (take begin) is ∙ take-append-le begin body (10 ∷ []) at.within in
    let lines : lines_of text ≡ of_parts ((lines_of (take begin body)).whole ++ drop begin body ∷ []) [] =
    ap lines_of is ∙ feed_ends body ∙ ap (λ (l : Lines). of_parts (l.whole ++ l.rest ∷ []) []) (start_lines body begin at) in (
      (
        ap (λ t. (lines_of t).rest) same ∙ start_ends body begin at,
        ap (λ (l : Lines). with_part l.whole l.rest) lines ∙ ap (λ t. (lines_of t).whole ++ drop begin body ∷ []) (sym same),
      ),
      ap (λ (l : Lines). l.rest) lines,
    )

pub end_part : (text : List ℕ) (begin : ℕ) → IsLineStart text begin → drop begin text ≢ []
    → EndsIn text begin (drop begin text) × ((lines_of text).rest ≢ [])
end_part text begin at some =
    let lines = start_lines text begin at in (
      (
        start_ends text begin at,
        ap (λ (l : Lines). with_part l.whole l.rest) lines ∙ part_of_line (lines_of (take begin text)).whole (drop begin text) some,
      ),
      λ empty. some (sym (ap (λ (l : Lines). l.rest) lines) ∙ empty),
    )

-- ---- what a stop may leave of a line

starts_of : (text beginning rest : List ℕ) → text ≡ beginning ++ rest → StartsWith text beginning
starts_of text beginning rest is = ap (take (length beginning)) is ∙ take-append_seam beginning rest

behind_start : (text beginning : List ℕ) → StartsWith text beginning → text ≡ beginning ++ drop (length beginning) text
behind_start text beginning starts =
    sym (take-append-drop (length beginning) text) ∙ ap (λ b. b ++ drop (length beginning) text) starts

pub at_most : (a b : ℕ) → (a ≤ b) ⊎ (b ≤ a)
at_most zero b = inl (omega arith)
at_most (suc a) zero = inr (omega arith)
at_most (suc a) (suc b) = elim (at_most a b) [
  | inl is ↦ inl (omega (arith, is))
  | inr is ↦ inr (omega (arith, is))
]

pub begins_left : (beginning bytes rest : List ℕ) → bytes ≡ beginning ++ rest → MayBeLeftOf beginning bytes
begins_left beginning bytes rest is = (bytes, starts_of bytes beginning rest is, all_left bytes)

pub zeros_left : (beginning bytes front rest : List ℕ) (zeros : ℕ) → bytes ≡ front ++ replicate zeros 0 → beginning ≡ front ++ rest
    → MayBeLeftOf beginning bytes
zeros_left beginning bytes front rest zeros is begins =
    let line = beginning ++ replicate zeros 0 in
    let first : take (length front) line ≡ front =
    ap (λ b. take (length front) (b ++ replicate zeros 0)) begins
    ∙ ap (take (length front)) (append_assoc front rest (replicate zeros 0)) ∙ take-append_seam front (rest ++ replicate zeros 0) in (
      line,
      starts_of line beginning (replicate zeros 0) refl,
      (
        length front,
        zeros,
        omega (arith, ap length begins, length-append front rest, length-append beginning (replicate zeros 0), length-replicate {A = ℕ} zeros 0),
        is ∙ ap (λ f. f ++ replicate zeros 0) (sym first),
      ),
    )

-- If more of a line is left than its beginning, the beginning is left.
pub left_begins : (beginning bytes line : List ℕ) (size zeros : ℕ) → StartsWith line beginning → length beginning ≤ size
    → bytes ≡ take size line ++ replicate zeros 0 → (rest : List ℕ) × (bytes ≡ beginning ++ rest)
left_begins beginning bytes line size zeros starts long is =
    let more = drop (length beginning) line in
    let whole : line ≡ beginning ++ more = behind_start line beginning starts in
    let size_is : size ≡ length beginning + (size - length beginning) = omega (arith, long) in
    let first : take size line ≡ beginning ++ take (size - length beginning) more =
    ap (take size) whole ∙ ap (λ n. take n (beginning ++ more)) size_is ∙ take-append-add beginning more (size - length beginning) in (
      take (size - length beginning) more ++ replicate zeros 0,
      is ∙ ap (λ t. t ++ replicate zeros 0) first ∙ append_assoc beginning (take (size - length beginning) more) (replicate zeros 0),
    )

-- Else the bytes without zeros at their end are a beginning of it.
pub left_before : (beginning bytes line front : List ℕ) (size zeros more : ℕ) → StartsWith line beginning → size ≤ length beginning
    → bytes ≡ take size line ++ replicate zeros 0 → bytes ≡ front ++ replicate more 0 → length front ≤ length (take size line)
    → beginning ≡ front ++ drop (length front) beginning
left_before beginning bytes line front size zeros more starts short is zeros_is least =
    let whole : line ≡ beginning ++ drop (length beginning) line = behind_start line beginning starts in
    let first : take size line ≡ take size beginning =
    ap (take size) whole ∙ take-append-le size beginning (drop (length beginning) line) short in
    let few : length front ≤ length (take size beginning) = omega (arith, least, ap length first) in
    let own : front ≡ take (length front) beginning =
    sym (take-append_seam front (replicate more 0)) ∙ ap (take (length front)) (sym zeros_is ∙ is ∙ ap (λ t. t ++ replicate zeros 0) first)
    ∙ take-append-le (length front) (take size beginning) (replicate zeros 0) few
    ∙ sym (take-append-le (length front) (take size beginning) (drop size beginning) few)
    ∙ ap (take (length front)) (take-append-drop size beginning) in
    sym (take-append-drop (length front) beginning) ∙ ap (λ f. f ++ drop (length front) beginning) (sym own)

-- Lemmas on lines, and on streams that are passed piece by piece.
use Rattle.std.proofs.Common.{◌≡◌, ◌≢◌, ℕ, ◌+◌, ◌-◌, ◌<◌, ◌≤◌, ◌==◌, Bool, false, List, [], ◌∷◌, ◌++◌, length, take}
use Rattle.std.proofs.Common.{drop, get_or, slice_range, Option, None, Some, refl, sym, ap, ◌∙◌, subst, append_assoc}
use Rattle.std.proofs.Common.{append-nil, take-append-drop, add-one, drop-cons, length-append, length-take, drop-drop}
use Rattle.std.proofs.Common.{arith}
use Rattle.std.proofs.lemmas.Bool.{ne_eqb, eqb-true, eq-eqb}
use Rattle.std.proofs.lemmas.List.{take_all, get_or-take, drop-take}
use Rattle.std.proofs.lemmas.List.Elements.{All-append, All-drop}
use Rattle.std.proofs.lemmas.Grind.{get_or_default_zero}
use Rattle.std.specs.Io.KnownBytes.{Keeps, Consumes, prepend_known}
use Rattle.std.proofs.KnownBytes.{Consumes-trans, Consumes-kept}
use Rattle.memchr.specs.Find.{IsFirstByte, Nowhere, Passes, is_byte}
use Rattle.byte_lines.specs.Lines.{Lines, lines_of, with_byte, with_line, HasNoFeed, HasLine, HasNoLine, HasMore}
use Rattle.byte_lines.specs.Ahead.{AtFeed, IsFeed}

-- ---- the lines of bytes

-- a byte that is not a line feed goes to the front of equal lines
with_byte-same : (b : ℕ) (q : Bool) (l m : Lines) → q ≡ false → l ≡ m → with_byte q b l ≡ with_byte false b m
with_byte-same b q l m plain same = rw (plain, same)

-- a text and its line feed are the first line, and the others are those of what follows
pub lines_of-line : (text after : List ℕ) → HasNoFeed text → lines_of ((text ++ (10 ∷ [])) ++ after) ≡ with_line text (lines_of after)
lines_of-line [] after plain = refl
lines_of-line (b ∷ text) after plain =
    let later = lines_of-line text after (All-drop (λ (x : ℕ). x ≢ 10) 1 (b ∷ text) plain) in
    with_byte-same b (b == 10) (lines_of ((text ++ (10 ∷ [])) ++ after)) (with_line text (lines_of after)) (ne_eqb b 10 (plain 0 0 (omega arith))) later

-- a text without a line feed is a rest and has no line
pub lines_of-rest : (text : List ℕ) → HasNoFeed text → lines_of text ≡ record { whole = []; rest = text }
lines_of-rest [] plain = refl
lines_of-rest (b ∷ text) plain =
    let later = lines_of-rest text (All-drop (λ (x : ℕ). x ≢ 10) 1 (b ∷ text) plain) in
    with_byte-same b (b == 10) (lines_of text) (record { whole = []; rest = text }) (ne_eqb b 10 (plain 0 0 (omega arith))) later

-- ---- the first line feed

-- if a search found no line feed, the bytes have none
no_feed : (bytes : List ℕ) (n : ℕ) → n ≤ length bytes → Nowhere (Passes (is_byte 10) bytes) 0 n → HasNoFeed (take n bytes)
no_feed bytes n within none k d below is =
    let inside : k < n = omega (arith, length-take n bytes) in
    let there : k < length bytes = omega arith in
    let feed : get_or bytes k 0 ≡ 10 = sym (get_or_default_zero bytes k d there) ∙ sym (get_or-take n bytes k d inside) ∙ is in
    none k (omega arith) inside (eq-eqb (get_or bytes k 0) 10 feed)

-- the first byte that is a line feed is the place that `line_feed` returns
pub AtFeed-first : (bytes : List ℕ) (place : Option ℕ) → IsFirstByte (is_byte 10) bytes place → AtFeed bytes place
AtFeed-first bytes None none = subst HasNoFeed (take_all (length bytes) bytes (omega arith)) (no_feed bytes (length bytes) (omega arith) none)
AtFeed-first bytes (Some k) first =
    let inside : k < length bytes = first.0.high in
    let feed : get_or bytes k 0 ≡ 10 = eqb-true (get_or bytes k 0) 10 first.1 in
    let tail : drop k bytes ≡ get_or bytes k 0 ∷ drop (k + 1) bytes = rw (add-one) (drop-cons bytes k 0 inside) in
    record {
      inside = inside;
      plain = no_feed bytes k (omega arith) first.0.before;
      parts = sym (take-append-drop k bytes) ∙ ap (λ l. take k bytes ++ l) (tail ∙ ap (λ b. b ∷ drop (k + 1) bytes) feed);
    }

-- a range that starts n bytes later is the range without its first n bytes
pub slice_range-passed : (bytes : List ℕ) (start end n : ℕ) → n ≤ end - start → slice_range bytes (start + n) end ≡ drop n (slice_range bytes start end)
slice_range-passed bytes start end n within =
    let whole : n + (end - (start + n)) ≡ end - start = omega arith in
    ap (take (end - (start + n))) (sym (drop-drop n start bytes))
    ∙ sym (drop-take n (end - (start + n)) (drop start bytes))
    ∙ ap (λ k. drop n (take k (drop start bytes))) whole

-- ---- bytes before those of a source

-- equal streams are still equal with the same bytes in front
pub prepend_known-front : (front bs cs : List ℕ) (a b : Option (List ℕ))
    → Keeps (prepend_known bs a) (prepend_known cs b)
    → Keeps (prepend_known (front ++ bs) a) (prepend_known (front ++ cs) b)
prepend_known-front front bs cs None b kept = tt
prepend_known-front front bs cs (Some x) None kept = absurd kept
prepend_known-front front bs cs (Some x) (Some y) kept = append_assoc front cs y ∙ ap (λ l. front ++ l) kept ∙ sym (append_assoc front bs x)

-- what is taken from a stream is taken from the one that it was kept from
pub Consumes-from_kept : (a b c : Option (List ℕ)) (text : List ℕ) → Keeps a b → Consumes b c text → Consumes a c text
Consumes-from_kept None b c text kept passed = tt
Consumes-from_kept (Some x) None c text kept passed = absurd kept
Consumes-from_kept (Some x) (Some y) None text kept passed = absurd passed
Consumes-from_kept (Some x) (Some y) (Some z) text kept passed = sym kept ∙ passed

-- the front of what is kept is taken from the stream
pub Consumes-front : (bs front rest : List ℕ) (a : Option (List ℕ)) → bs ≡ front ++ rest → Consumes (prepend_known bs a) (prepend_known rest a) front
Consumes-front bs front rest None parts = tt
Consumes-front bs front rest (Some x) parts = ap (λ l. l ++ x) parts ∙ append_assoc front rest x

-- the same for a front and the line feed after it
pub Consumes-feed : (bs front rest : List ℕ) (a : Option (List ℕ)) → bs ≡ front ++ (10 ∷ rest)
    → Consumes (prepend_known bs a) (prepend_known rest a) (front ++ (10 ∷ []))
Consumes-feed bs front rest a parts = Consumes-front bs (front ++ (10 ∷ [])) rest a (parts ∙ sym (append_assoc front (10 ∷ []) rest))

-- a text without a line feed was passed
pub record Went (old new : Option (List ℕ)) : Type 0 where
  pub text : List ℕ
  pub plain : HasNoFeed text
  pub parts : Consumes old new text

-- a text was passed, also if the stream is then kept
pub went_kept : (a b c : Option (List ℕ)) → Went a b → Keeps b c → Went a c
went_kept a b c went kept = record { text = went.text; plain = went.plain; parts = Consumes-kept a b c went.text went.parts kept }

-- one more text without a line feed was passed
pub went_on : (a b c : Option (List ℕ)) (text : List ℕ) → Went a b → HasNoFeed text → Consumes b c text → Went a c
went_on a b c text went plain passed = record {
  text = went.text ++ text;
  plain = All-append (λ (x : ℕ). x ≢ 10) went.text text went.plain plain;
  parts = Consumes-trans a b c went.text text went.parts passed;
}

-- all that was read ahead was passed, if it has no line feed
pub went_all : (a b : Option (List ℕ)) (bs : List ℕ) → Went a (prepend_known bs b) → HasNoFeed bs → Went a (prepend_known [] b)
went_all a b bs went plain = went_on a (prepend_known bs b) (prepend_known [] b) bs went plain (Consumes-front bs bs [] b (sym (append-nil bs)))

-- a text without a line feed and a line after it are one longer line
pub HasLine-after : (a b c : Option (List ℕ)) (front text : List ℕ) → HasNoFeed front → Consumes a b front → HasLine b c text → HasLine a c (front ++ text)
HasLine-after a b c front text plain passed line = (
  All-append (λ (x : ℕ). x ≢ 10) front text plain line.0,
  subst (Consumes a c) (sym (append_assoc front text (10 ∷ []))) (Consumes-trans a b c front (text ++ (10 ∷ [])) passed line.1),
)

-- what was passed and what was read ahead up to a line feed are a line of the stream
pub went_to_feed : (a b : Option (List ℕ)) (bs : List ℕ) (place : ℕ) → Went a (prepend_known bs b) → IsFeed bs place
    → (text : List ℕ) × HasLine a (prepend_known (drop (place + 1) bs) b) text
went_to_feed a b bs place went feed =
    let front = take place bs in
    let rest = drop (place + 1) bs in (
      went.text ++ front,
      HasLine-after a (prepend_known bs b) (prepend_known rest b) went.text front went.plain
          went.parts (feed.plain, Consumes-feed bs front rest b feed.parts),
    )

-- a stream has no line if a text without a line feed was taken and no line follows
pub HasNoLine-after : (a b : Option (List ℕ)) (text : List ℕ) → HasNoFeed text → Consumes a b text → HasNoLine b → HasNoLine a
HasNoLine-after None b text plain passed none = tt
HasNoLine-after (Some x) None text plain passed none = absurd passed
HasNoLine-after (Some x) (Some y) text plain passed none = subst HasNoFeed (sym passed) (All-append (λ (x : ℕ). x ≢ 10) text y plain none)

-- a stream from which some text was taken had a byte to come
pub HasMore-text : (a b : Option (List ℕ)) (text : List ℕ) → 0 < length text → Consumes a b text → HasMore a
HasMore-text None b text some passed = tt
HasMore-text (Some x) None text some passed = absurd passed
HasMore-text (Some x) (Some y) text some passed = omega (arith, ap length passed, length-append text y)

-- Lemmas on the steps of a line buffer.
use Rattle.std.proofs.Common.{◌≡◌, ◌≢◌, ℕ, suc, ◌+◌, ◌-◌, ◌<◌, ◌≤◌, Bool, true, false, if◌then◌else◌, List, [], ◌∷◌}
use Rattle.std.proofs.Common.{◌++◌, length, take, drop, Option, None, Some, Result, Err, refl, sym, ap, ◌∙◌, subst}
use Rattle.std.proofs.Common.{append_assoc, take-append-drop, length-append, length-take, arith, unwrap_or}
use Rattle.std.proofs.lemmas.List.Elements.{All-append, All-take}
use Rattle.std.specs.Io.KnownBytes.{Keeps, Consumes, IsAtEnd, prepend_known}
use Rattle.byte_lines.specs.Lines.{HasNoFeed, HasLine, HasNoLine, HasMore}
use Rattle.byte_lines.specs.Ahead.{AtFeed}
use Rattle.byte_lines.specs.Streams.{StreamState}
use Rattle.byte_lines.specs.Inside.Steps.{TakesFound, SkipsText}
use Rattle.byte_lines.specs.declared.line_buf.Found.{Found}
use Rattle.byte_lines.specs.declared.error.DeviceError.{DeviceError}
use Rattle.byte_lines.specs.declared.error.DeviceError.TheVariants.{Io}
use Rattle.byte_lines.proofs.StreamFacts.{Consumes-from_kept, Consumes-front, Consumes-feed, HasLine-after}
use Rattle.byte_lines.proofs.StreamFacts.{HasNoLine-after, HasMore-text}

-- the bytes before the first line feed, or all of them, have no line feed
front_plain : (ahead : List ℕ) (place : Option ℕ) (count : ℕ) → AtFeed ahead place
    → count ≡ unwrap_or place (length ahead) → HasNoFeed (take count ahead) × (count ≤ length ahead)
front_plain ahead None count none is = (All-take (λ (x : ℕ). x ≢ 10) count ahead none, omega arith)
front_plain ahead (Some k) count feed is = (subst (λ n. HasNoFeed (take n ahead)) (sym is) feed.plain, omega (arith, feed.inside))

-- more without a line feed than a line has room for: the line and those bytes are passed
pub too_much : (given : Bool) (line ahead left : List ℕ) (place : Option ℕ) (count : ℕ) → given ≡ false → HasNoFeed line → AtFeed ahead place
    → count ≡ unwrap_or place (length ahead) → 8388608 - length line < count → left ≡ drop count ahead → SkipsText ((if given then [] else line) ++ ahead) left
too_much true line ahead left place count waiting plain feed is over rest = cc
too_much false line ahead left place count waiting plain feed is over rest =
    let front = front_plain ahead place count feed is in
    let size : length (take count ahead) ≡ count = omega (arith, length-take count ahead, front.1) in
    record {
      text = line ++ take count ahead;
      plain = All-append (λ (x : ℕ). x ≢ 10) line (take count ahead) plain front.0;
      long = omega (arith, length-append line (take count ahead));
      parts = ap (λ l. line ++ l) (sym (take-append-drop count ahead)) ∙ sym (append_assoc line (take count ahead) (drop count ahead))
          ∙ ap (λ l. (line ++ take count ahead) ++ l) (sym rest);
    }

-- ---- whole lines that are kept

-- `all` was kept at first: what is held now ends it, and a read comes only if nothing is held
pub unbroken_at_first : (front held filled all : List ℕ) → (held ≡ [] → HasNoFeed all) → (0 < length held → front ++ held ≡ all)
    → (0 < length held → filled ≡ held) → HasNoFeed (front ++ filled) → HasNoFeed all
unbroken_at_first front [] filled all none same stays plain = none refl
unbroken_at_first front (b ∷ held) filled all none same stays plain =
    subst HasNoFeed (ap (λ l. front ++ l) (stays (omega arith)) ∙ same (omega arith)) plain

-- what is kept has no line feed if what is left after the passed text has none
pub unbroken_skipped : (bytes ahead : List ℕ) → SkipsText bytes ahead → HasNoFeed ahead → HasNoFeed bytes
unbroken_skipped bytes ahead p plain = subst HasNoFeed (sym p.parts) (All-append (λ (x : ℕ). x ≢ 10) p.text ahead p.plain plain)

-- what is empty has no bytes: a case that cannot be
pub none_there : {T : Type 0} (held : List ℕ) → held ≡ [] → 0 < length held → T
none_there held none some = absurd (omega (arith, ap length none, some))

-- ---- what the exits of a call say

-- a bound on what is left of the stream holds with a line in front of it
pub spent_on : (front old new : List ℕ) (before after total : ℕ) → length (front ++ old) + before ≤ total
    → length new + after ≤ length old + before → length (front ++ new) + after ≤ total
spent_on front old new before after total spent less = omega (arith, length-append front old, length-append front new)

-- after `Io` only that the stream has not grown is claimed
pub TakesFound-io : (old new : StreamState) (given : List ℕ) (result : Result Found DeviceError) (e : DeviceError)
    → result ≡ Err e → e ≡ Io → new.bound ≤ old.bound → TakesFound old new given result
TakesFound-io old new given result e is io spends =
    subst (TakesFound old new given) (sym (is ∙ ap Err io)) (record { finds = tt; keeps = λ bad. cc; spends = spends; falls = tt })

-- out of memory the stream is kept
pub TakesFound-memory : (old new : StreamState) (given : List ℕ) (result : Result Found DeviceError) (e : DeviceError)
    → result ≡ Err e → Keeps old.bytes new.bytes → new.bound ≤ old.bound → TakesFound old new given result
TakesFound-memory old new given result e is keeps spends =
    subst (TakesFound old new given) (sym is) (record { finds = tt; keeps = λ _. keeps; spends = spends; falls = tt })

-- the length of bytes that begin with a line
pub length_line : (bytes text rest : List ℕ) → bytes ≡ text ++ (10 ∷ rest) → length bytes ≡ length text + suc (length rest)
length_line bytes text rest parts = ap length parts ∙ length-append text (10 ∷ rest)

-- a line at the front of what is kept is the first line of the stream
pub taken_line : (s : Option (List ℕ)) (bytes text rest : List ℕ) (a : Option (List ℕ)) → Keeps s (prepend_known bytes a) → bytes ≡ text ++ (10 ∷ rest)
    → Consumes s (prepend_known rest a) (text ++ (10 ∷ []))
taken_line s bytes text rest a keeps parts =
    Consumes-from_kept s (prepend_known bytes a) (prepend_known rest a) (text ++ (10 ∷ [])) keeps (Consumes-feed bytes text rest a parts)

-- with an empty line, what a buffer keeps is what it read ahead
pub kept_none : (given : Bool) (line ahead : List ℕ) → line ≡ [] → (if given then [] else line) ++ ahead ≡ ahead
kept_none true line ahead none = refl
kept_none false line ahead none = ap (λ l. l ++ ahead) none

-- the stream loses the text that was passed
passed : (s : Option (List ℕ)) (bytes ahead : List ℕ) (a : Option (List ℕ)) → Keeps s (prepend_known bytes a)
    → (p : SkipsText bytes ahead) → Consumes s (prepend_known ahead a) p.text
passed s bytes ahead a keeps p = Consumes-from_kept s (prepend_known bytes a) (prepend_known ahead a) p.text keeps (Consumes-front bytes p.text ahead a p.parts)

-- a line that continues after a passed text is a line of the stream that is too long
pub long_line : (s : Option (List ℕ)) (bytes ahead rest left : List ℕ) (a b : Option (List ℕ))
    → Keeps s (prepend_known bytes a) → SkipsText bytes ahead → left ≡ rest
    → ((text : List ℕ) × HasLine (prepend_known ahead a) (prepend_known rest b) text)
    → (text : List ℕ) × HasLine s (prepend_known left b) text × (8388608 < length text)
long_line s bytes ahead rest left a b keeps p same (text, line) =
    let whole = HasLine-after s (prepend_known ahead a) (prepend_known rest b) p.text text p.plain (passed s bytes ahead a keeps p) line in
    (p.text ++ text, subst (λ l. HasLine s (prepend_known l b) (p.text ++ text)) (sym same) whole, omega (arith, length-append p.text text, p.long))

-- a stream that ends after a passed text with no line feed has no line, though it had bytes
pub long_cut : (s : Option (List ℕ)) (bytes ahead rest left : List ℕ) (a b : Option (List ℕ))
    → Keeps s (prepend_known bytes a) → SkipsText bytes ahead → left ≡ rest
    → HasNoLine (prepend_known ahead a) → IsAtEnd (prepend_known rest b) → HasNoLine s × HasMore s × IsAtEnd (prepend_known left b)
long_cut s bytes ahead rest left a b keeps p same none end =
    let came = passed s bytes ahead a keeps p in (
      HasNoLine-after s (prepend_known ahead a) p.text p.plain came none,
      HasMore-text s (prepend_known ahead a) p.text (omega (arith, p.long)) came,
      subst (λ l. IsAtEnd (prepend_known l b)) (sym same) end,
    )

-- less is kept after a text was passed, so the stream shrinks
pub length_passed : (bytes ahead : List ℕ) → SkipsText bytes ahead → length ahead < length bytes
length_passed bytes ahead p = omega (arith, ap length p.parts, length-append p.text ahead, p.long)

-- A session whose haves come in pieces, while what is held does not change: it is one that serves
-- the joined bytes.
use Rattle.std.proofs.Common.{◌≡◌, ℕ, ◌<◌, ◌==◌, Bool, true, false, List, [], ◌∷◌, ◌++◌, length, map}
use Rattle.std.proofs.Common.{Option, None, Some, Ok, Err, refl, sym, ap, ◌∙◌, subst, append_assoc, append-nil, arith}
use Rattle.std.specs.List.{AllByRecursion, flat_map, fold}
use Rattle.std.proofs.lemmas.Bool.{eqb-true}
use Rattle.std.proofs.lemmas.Grind.{flat_map-append}
use Rattle.std.proofs.lemmas.List.{length-map}
use Rattle.receipt_core.specs.Acceptance.{Meaning}
use Rattle.byte_lines.specs.Lines.{HasNoFeed, Lines, before, lines_of, with_byte}
use Rattle.replica_core.specs.Session.{HaveMessage, give_of}
use Rattle.replica_core.specs.declared.error.SyncError.{SyncError}
use Rattle.replica_core.specs.declared.error.SyncError.TheVariants.{Truncated}
use Rattle.replica_core.proofs.RisingListFacts.{all_append}
use Rattle.replica_texts.specs.Haves.{IsHaveOf, RefusesFurther}
use Rattle.replica_sync.specs.Serving.{Serves, ServesUpTo, gives_text}
use Rattle.replica_texts.specs.Messages.{give_text, have_text}
use Rattle.replica_sync.specs.SessionRun.{known_run}
use Rattle.replica_texts.specs.Snapshots.{ended, text_of_lines}
use Rattle.replica_sync.proofs.PullingFacts.{written_all}
use Rattle.replica_sync.specs.ServedPieces.{AnswersAll, AnswersUpTo, Came, CameLines, HaveAndHeld, HeldLine, IsOwnHave, IsStill, ServesPieces}
use Rattle.replica_sync.specs.ServedPieces.{bytes_came, gives_in_turn, line_of_have, lines_came, lines_with, with_held}

-- ---- the bytes of lines

-- One byte more comes before the first line, or before the rest.
byte_before : (b : ℕ) (whole : List (List ℕ)) (rest : List ℕ)
    → text_of_lines (before b whole rest).whole ++ (before b whole rest).rest ≡ b ∷ (text_of_lines whole ++ rest)
byte_before b [] rest = refl
byte_before b (text ∷ others) rest = refl

byte_front : (feed : Bool) (b : ℕ) (lines : Lines) → (b == 10) ≡ feed
    → text_of_lines (with_byte feed b lines).whole ++ (with_byte feed b lines).rest ≡ b ∷ (text_of_lines lines.whole ++ lines.rest)
byte_front true b lines is = ap (λ (x : ℕ). x ∷ (text_of_lines lines.whole ++ lines.rest)) (sym (eqb-true b 10 is))
byte_front false b lines is = byte_before b lines.whole lines.rest

-- The lines of bytes, each with its line feed, and the rest are the bytes.
lines_joined : (bytes : List ℕ) → text_of_lines (lines_of bytes).whole ++ (lines_of bytes).rest ≡ bytes
lines_joined [] = refl
lines_joined (b ∷ bytes) = byte_front (b == 10) b (lines_of bytes) refl ∙ ap (λ (l : List ℕ). b ∷ l) (lines_joined bytes)

-- the bytes of lines that came
abbrev text_of_held : List HeldLine → List ℕ
text_of_held lines = flat_map (λ (l : HeldLine). ended l.text) lines

held_text : (m : Meaning) (whole : List (List ℕ)) → text_of_held (map (with_held m) whole) ≡ text_of_lines whole
held_text m [] = refl
held_text m (text ∷ whole) = ap (λ (l : List ℕ). ended text ++ l) (held_text m whole)

-- A piece adds its bytes.
piece_text : (old : CameLines) (c : Came)
    → text_of_held (lines_with old c).lines ++ (lines_with old c).rest ≡ (text_of_held old.lines ++ old.rest) ++ c.bytes
piece_text old c =
    let more = lines_of (old.rest ++ c.bytes) in
    let front = text_of_held old.lines in
    ap (λ (l : List ℕ). l ++ more.rest) (flat_map-append (λ (l : HeldLine). ended l.text) old.lines (map (with_held c.held) more.whole))
    ∙ append_assoc front (text_of_held (map (with_held c.held) more.whole)) more.rest
    ∙ ap (λ (l : List ℕ). front ++ (l ++ more.rest)) (held_text c.held more.whole)
    ∙ ap (λ (l : List ℕ). front ++ l) (lines_joined (old.rest ++ c.bytes))
    ∙ sym (append_assoc front old.rest c.bytes)

-- All pieces add their bytes.
pieces_text : (old : CameLines) (came : List Came)
    → text_of_held (fold lines_with old came).lines ++ (fold lines_with old came).rest ≡ (text_of_held old.lines ++ old.rest) ++ bytes_came came
pieces_text old [] = sym (append-nil (text_of_held old.lines ++ old.rest))
pieces_text old (c ∷ came) =
    pieces_text (lines_with old c) came
    ∙ ap (λ (l : List ℕ). l ++ bytes_came came) (piece_text old c)
    ∙ append_assoc (text_of_held old.lines ++ old.rest) c.bytes (bytes_came came)

-- ---- what is held remains

-- when each line ended this was held
abbrev AreHeldAt : Meaning → List HeldLine → Type 0
AreHeldAt m lines = AllByRecursion (λ (l : HeldLine). l.held ≡ m) lines

held_at : (m k : Meaning) (whole : List (List ℕ)) → k ≡ m → AreHeldAt m (map (with_held k) whole)
held_at m k [] is = tt
held_at m k (text ∷ whole) is = (is, held_at m k whole is)

came_held : (m : Meaning) (old : CameLines) (came : List Came) → AreHeldAt m old.lines → IsStill m came → AreHeldAt m (fold lines_with old came).lines
came_held m old [] h still = h
came_held m old (c ∷ came) h still =
    let whole = (lines_of (old.rest ++ c.bytes)).whole in
    came_held m (lines_with old c) came
    (all_append (λ (l : HeldLine). l.held ≡ m) old.lines (map (with_held c.held) whole) h (held_at m c.held whole still.0)) still.1

-- the first of the pieces, the one after them, and the others
still_first : (m : Meaning) (first : List Came) (last : Came) (later : List Came) → IsStill m (first ++ last ∷ later)
    → IsStill m first × (last.held ≡ m)
still_first m [] last later still = (tt, still.0)
still_first m (c ∷ first) last later still =
    let rest = still_first m first last later still.1 in ((still.0, rest.0), rest.1)

-- ---- what is answered

-- the haves
abbrev pub haves_in : List HaveAndHeld → List HaveMessage
haves_in asked = map (λ (a : HaveAndHeld). a.have) asked

haves_own : (m : Meaning) (asked : List HaveAndHeld) → AllByRecursion IsOwnHave asked → AreHeldAt m (map line_of_have asked)
    → AllByRecursion (IsHaveOf m.config) (haves_in asked)
haves_own m [] own held = tt
haves_own m (a ∷ asked) own held =
    (subst (λ (k : Meaning). IsHaveOf k.config a.have) held.0 own.0, haves_own m asked own.1 held.1)

haves_text : (asked : List HaveAndHeld) → text_of_held (map line_of_have asked) ≡ flat_map have_text (haves_in asked)
haves_text [] = refl
haves_text (a ∷ asked) = ap (λ (l : List ℕ). have_text a.have ++ l) (haves_text asked)

gives_still : (m : Meaning) (asked : List HaveAndHeld) → AreHeldAt m (map line_of_have asked) → gives_in_turn asked ≡ gives_text m (haves_in asked)
gives_still m [] held = refl
gives_still m (a ∷ asked) held =
    ap (λ (k : Meaning). give_text (give_of k a.have) ++ gives_in_turn asked) held.0
    ∙ ap (λ (l : List ℕ). give_text (give_of m a.have) ++ l) (gives_still m asked held.1)

-- These haves came and this follows them; the output is the answers to them.
record AnswersStill (m : Meaning) (came : List Came) (rest output : List ℕ) : Type 0 where
  pub haves : List HaveMessage
  pub each : AllByRecursion (IsHaveOf m.config) haves
  pub text : bytes_came came ≡ flat_map have_text haves ++ rest
  pub number : length (lines_came came).lines ≡ length haves
  pub written : output ≡ gives_text m haves

answers_still : (m : Meaning) (came : List Came) (rest output : List ℕ) → AnswersAll came rest output → IsStill m came → AnswersStill m came rest output
answers_still m came rest output answers still =
    let none : CameLines = record { lines = []; rest = [] } in
    let held : AreHeldAt m (map line_of_have answers.asked) =
    subst (λ (l : CameLines). AreHeldAt m l.lines) answers.lines (came_held m none came tt still) in
    record {
      haves = haves_in answers.asked;
      each = haves_own m answers.asked answers.each held;
      text = sym (pieces_text none came)
          ∙ ap (λ (l : CameLines). text_of_held l.lines ++ l.rest) answers.lines
          ∙ ap (λ (l : List ℕ). l ++ rest) (haves_text answers.asked);
      number = ap (λ (l : CameLines). length l.lines) answers.lines
          ∙ length-map answers.asked line_of_have
          ∙ sym (length-map answers.asked (λ (a : HaveAndHeld). a.have));
      written = answers.written ∙ gives_still m answers.asked held;
    }

-- The haves of the bytes that came, and the answers to them, however what was held changed.
pub record AnsweredEach (came : List Came) (written : List ℕ) : Type 0 where
  pub asked : List HaveAndHeld
  pub own : AllByRecursion IsOwnHave asked
  pub lines : (lines_came came).lines ≡ map line_of_have asked
  pub text : bytes_came came ≡ flat_map have_text (haves_in asked)
  pub said : written ≡ gives_in_turn asked

pub answered_each : (f : Option SyncError) (came : List Came) (rest written due : List ℕ) → f ≡ None → rest ≡ [] → due ≡ []
    → ServesPieces f came rest (written ++ due) → AnsweredEach came written
answered_each None came rest written due sound none idle answers = record {
  asked = answers.asked;
  own = answers.each;
  lines = ap (λ (l : CameLines). l.lines) answers.lines;
  text = sym (pieces_text (record { lines = []; rest = [] }) came)
      ∙ ap (λ (l : CameLines). text_of_held l.lines ++ l.rest) answers.lines
      ∙ ap (λ (l : List ℕ). l ++ rest) (haves_text answers.asked)
      ∙ ap (λ (l : List ℕ). flat_map have_text (haves_in answers.asked) ++ l) none
      ∙ append-nil (flat_map have_text (haves_in answers.asked));
  said = sym (append-nil written) ∙ ap (λ (l : List ℕ). written ++ l) (sym idle) ∙ answers.written;
}
answered_each (Some e) came rest written due sound none idle answers = absurd (cc)

-- ---- the session

-- All of the stream is answered.
pub serves_whole : (f : Option SyncError) (m : Meaning) (came : List Came) (rest written due : List ℕ) → f ≡ None → rest ≡ [] → due ≡ []
    → ServesPieces f came rest (written ++ due) → IsStill m came
    → Serves (known_run (bytes_came came) written) m (Ok (length (lines_came came).lines))
serves_whole None m came rest written due sound none idle serves still =
    let is = answers_still m came rest (written ++ due) serves still in
    record {
      haves = is.haves;
      each = is.each;
      text = is.text ∙ ap (λ (l : List ℕ). flat_map have_text is.haves ++ l) none ∙ append-nil (flat_map have_text is.haves);
      number = is.number;
      written = sym (append-nil written) ∙ ap (λ (l : List ℕ). written ++ l) (sym idle) ∙ is.written;
    }
serves_whole (Some e) m came rest written due sound none idle serves still = absurd (cc)

-- What is not empty has a byte.
pub has_byte : (rest : List ℕ) → (rest ≡ [] → ⊥) → 0 < length rest
has_byte [] more = absurd (more refl)
has_byte (b ∷ rest) more = omega arith

-- The stream ends within a have.
pub serves_cut : (f : Option SyncError) (m : Meaning) (came : List Came) (rest written due : List ℕ) → f ≡ None → (rest ≡ [] → ⊥) → due ≡ []
    → HasNoFeed rest → ServesPieces f came rest (written ++ due) → IsStill m came
    → Serves (known_run (bytes_came came) written) m (Err Truncated)
serves_cut None m came rest written due sound more idle plain serves still =
    let is = answers_still m came rest (written ++ due) serves still in
    record {
      haves = is.haves;
      left = Some rest;
      asks = record { each = is.each; text = is.text };
      cause = (plain, has_byte rest more);
      written = sym (append-nil written) ∙ ap (λ (l : List ℕ). written ++ l) (sym idle) ∙ is.written;
    }
serves_cut (Some e) m came rest written due sound more idle plain serves still = absurd (cc)

-- The bytes behind those of whole haves, put together otherwise.
joined_behind : (haves rest last later more tail : List ℕ)
    → ((haves ++ rest) ++ (last ++ later)) ++ (more ++ tail) ≡ haves ++ ((rest ++ last) ++ ((later ++ more) ++ tail))
joined_behind haves rest last later more tail =
    append_assoc (haves ++ rest) (last ++ later) (more ++ tail)
    ∙ append_assoc haves rest ((last ++ later) ++ (more ++ tail))
    ∙ ap (λ (l : List ℕ). haves ++ (rest ++ l)) (append_assoc last later (more ++ tail))
    ∙ ap (λ (l : List ℕ). haves ++ l) (sym (append_assoc rest last (later ++ (more ++ tail))))
    ∙ ap (λ (l : List ℕ). haves ++ ((rest ++ last) ++ l)) (sym (append_assoc later more tail))

-- An error ends it.
stops_still : (m : Meaning) (came : List Came) (output more after : List ℕ) (e : SyncError) → AnswersUpTo came output e → IsStill m came
    → ServesUpTo (known_run (bytes_came came ++ (more ++ (10 ∷ after))) output) m e
stops_still m came output more after e stops still =
    let parts = still_first m stops.before stops.last stops.later (subst (IsStill m) stops.order still) in
    let is = answers_still m stops.before stops.rest output stops.answers parts.0 in
    let text = flat_map have_text is.haves in
    let left = (stops.rest ++ stops.last.bytes) ++ ((bytes_came stops.later ++ more) ++ (10 ∷ after)) in
    let came_is : bytes_came came ≡ (text ++ stops.rest) ++ (stops.last.bytes ++ bytes_came stops.later) =
    ap bytes_came stops.order
    ∙ flat_map-append (λ (c : Came). c.bytes) stops.before (stops.last ∷ stops.later)
    ∙ ap (λ (l : List ℕ). l ++ (stops.last.bytes ++ bytes_came stops.later)) is.text in
    record {
      haves = is.haves;
      left = Some left;
      asks = record {
        each = is.each;
        text = ap (λ (l : List ℕ). l ++ (more ++ (10 ∷ after))) came_is
            ∙ joined_behind text stops.rest stops.last.bytes (bytes_came stops.later) more (10 ∷ after);
      };
      cause = subst (λ (k : Meaning). RefusesFurther k.config (Some left) e) parts.1 (stops.cause (bytes_came stops.later ++ more) after);
      written = written_all e (Some []) (Some output) (gives_text m is.haves) is.written;
    }

pub serves_stopped : (f : Option SyncError) (m : Meaning) (came : List Came) (rest written due more after : List ℕ) (e : SyncError) → f ≡ Some e
    → due ≡ [] → ServesPieces f came rest (written ++ due) → IsStill m came
    → Serves (known_run (bytes_came came ++ (more ++ (10 ∷ after))) written) m (Err e)
serves_stopped None m came rest written due more after e stopped idle serves still = absurd (cc)
serves_stopped (Some d) m came rest written due more after e stopped idle serves still =
    let same : d ≡ e = cc in
    subst (λ (l : List ℕ). ServesUpTo (known_run (bytes_came came ++ (more ++ (10 ∷ after))) l) m e)
    (ap (λ (l : List ℕ). written ++ l) idle ∙ append-nil written)
    (stops_still m came (written ++ due) more after e (subst (AnswersUpTo came (written ++ due)) same serves) still)

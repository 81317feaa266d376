-- Pieces of a session that serves.
use Rattle.std.proofs.Common.{◌≡◌, ◌≢◌, ℕ, ◌<◌, ◌≤◌, ◌==◌, inl, inr, Bool, true, false, if◌then◌else◌, List, [], ◌∷◌, ◌++◌, length, map, take, drop}
use Rattle.std.proofs.Common.{Option, None, Some, refl, sym, ap, ◌∙◌, subst, append_assoc, append-nil, length-append, take-append-drop, arith}
use Rattle.std.specs.List.{AllByRecursion}
use Rattle.std.proofs.lemmas.Bool.{eqb-true, eq-eqb}
use Rattle.std.proofs.lemmas.Grind.{flat_map-append}
use Rattle.std.proofs.lemmas.List.{map-append, take_all}
use Rattle.std.proofs.lemmas.List.Elements.{All-append, All-from_recursion}
use Rattle.std.proofs.lemmas.List.Sums.{fold-append}
use Rattle.fed_config.specs.Configuration.{Configuration}
use Rattle.receipt_core.specs.Acceptance.{Meaning}
use Rattle.byte_lines.specs.Limits.{line_limit}
use Rattle.byte_lines.specs.Lines.{HasNoFeed, Lines, lines_of}
use Rattle.byte_lines.proofs.StreamFacts.{lines_of-line, lines_of-rest}
use Rattle.replica_core.specs.Session.{HaveMessage, give_of}
use Rattle.replica_core.specs.declared.error.SyncError.{SyncError}
use Rattle.replica_core.specs.declared.error.SyncError.TheVariants.{BadHeader, ConfigDiffers, VersionDiffers, NotCanonical, NotRising, BadCount, Truncated}
use Rattle.replica_core.specs.declared.error.SyncError.TheVariants.{Refused, Io, NoMemory}
use Rattle.replica_core.proofs.RisingListFacts.{all_append}
use Rattle.replica_texts.specs.FirstLines.{RefusesHaveLine}
use Rattle.replica_texts.specs.Messages.{as_any_have, any_have_text, give_text}
use Rattle.replica_texts.specs.Haves.{IsHaveOf, RefusesFurther}
use Rattle.replica_sync.specs.Pieces.{EndsLine, IsOverlong, PieceRun, piece_run}
use Rattle.replica_sync.specs.ServedPieces.{AnswersAll, HaveAndHeld, Came, CameLines, HeldLine, IsOwnHave, ServesPieces}
use Rattle.replica_sync.specs.ServedPieces.{gives_in_turn, line_of_have, lines_came, lines_with, with_held}
use Rattle.replica_sync.specs.Inside.ServingSteps.{RefusesPiece, TakesHave}
use Rattle.replica_sync.proofs.CutFacts.{ended_split, lines_of-kept}

-- ---- one piece more

-- bytes that came while this was held
abbrev pub came_at : List ℕ → Meaning → Came
came_at bytes held = record { bytes = bytes; held = held }

-- The lines of one piece more come last.
came_more : (came : List Came) (c : Came) → lines_came (came ++ c ∷ []) ≡ lines_with (lines_came came) c
came_more came c = fold-append lines_with (record { lines = []; rest = [] }) came (c ∷ [])

-- The lines of a piece, behind those before it.
abbrev behind : List HeldLine → Meaning → Lines → CameLines
behind lines m more = record { lines = lines ++ map (with_held m) more.whole; rest = more.rest }

-- What one piece adds, given its lines with what was kept.
lines_more : (came : List Came) (asked : List HaveAndHeld) (old bytes : List ℕ) (m : Meaning) (more : Lines)
    → lines_came came ≡ record { lines = map line_of_have asked; rest = old } → lines_of (old ++ bytes) ≡ more
    → lines_came (came ++ came_at bytes m ∷ []) ≡ behind (map line_of_have asked) m more
lines_more came asked old bytes m more lines is =
    came_more came (came_at bytes m) ∙ ap (λ (l : CameLines). lines_with l (came_at bytes m)) lines ∙ ap (behind (map line_of_have asked) m) is

-- A piece in which no line ends answers nothing.
answers_rest : (came : List Came) (old bytes new output : List ℕ) (m : Meaning) → AnswersAll came old output
    → lines_of (old ++ bytes) ≡ record { whole = []; rest = new } → AnswersAll (came ++ came_at bytes m ∷ []) new output
answers_rest came old bytes new output m answers is = record {
  asked = answers.asked;
  each = answers.each;
  lines =
      lines_more came answers.asked old bytes m _ answers.lines is
      ∙ ap (λ (l : List HeldLine). let made : CameLines = record { lines = l; rest = new } in made) (append-nil (map line_of_have answers.asked));
  written = answers.written;
}

-- The bytes up to the end of a line, and what was kept, are that line.
lines_ended : (run : PieceRun) (used : ℕ) (text : List ℕ) → EndsLine run used text
    → lines_of (run.old ++ take used run.piece) ≡ record { whole = text ∷ []; rest = [] }
lines_ended run used text ends =
    ap lines_of (ends.parts ∙ sym (append-nil (text ++ (10 ∷ [])))) ∙ lines_of-line text [] ends.plain

-- A piece that ends a have answers it with what is held then.
answers_have : (came : List Came) (old bytes output : List ℕ) (m : Meaning) (q : HaveMessage) → AnswersAll came old output → IsHaveOf m.config q
    → lines_of (old ++ bytes) ≡ record { whole = any_have_text (as_any_have q) ∷ []; rest = [] }
    → AnswersAll (came ++ came_at bytes m ∷ []) [] (output ++ give_text (give_of m q))
answers_have came old bytes output m q answers own is =
    let one : HaveAndHeld = record { have = q; held = m } in
    let give = λ (a : HaveAndHeld). give_text (give_of a.held a.have) in
    record {
      asked = answers.asked ++ one ∷ [];
      each = all_append IsOwnHave answers.asked (one ∷ []) answers.each (own, tt);
      lines =
          lines_more came answers.asked old bytes m _ answers.lines is
          ∙ ap (λ (l : List HeldLine). let made : CameLines = record { lines = l; rest = [] } in made) (sym (map-append line_of_have answers.asked (one ∷ [])));
      written = ap (λ (l : List ℕ). l ++ give_text (give_of m q)) answers.written
          ∙ ap (λ (l : List ℕ). gives_in_turn answers.asked ++ l) (sym (append-nil (give_text (give_of m q))))
          ∙ sym (flat_map-append give answers.asked (one ∷ []));
    }

-- What a piece takes is answered, if nothing was to be written before.
pub took_piece : (m : Meaning) (came : List Came) (old piece : List ℕ) (used : ℕ) (new due answer written : List ℕ) → due ≡ []
    → TakesHave m old piece used new answer → AnswersAll came old (written ++ due)
    → AnswersAll (came ++ came_at (take used piece) m ∷ []) new (written ++ answer)
took_piece m came old piece used new due answer written idle (inl goes) answers =
    let all : take used piece ≡ piece = ap (λ (n : ℕ). take n piece) goes.all ∙ take_all (length piece) piece (omega arith) in
    let is : lines_of (old ++ take used piece) ≡ record { whole = []; rest = new } =
    ap (λ (l : List ℕ). lines_of (old ++ l)) all ∙ lines_of-kept (piece_run line_limit old piece) new goes.goes in
    subst (λ (l : List ℕ). AnswersAll (came ++ came_at (take used piece) m ∷ []) new (written ++ l)) (idle ∙ sym goes.none)
    (answers_rest came old (take used piece) new (written ++ due) m answers is)
took_piece m came old piece used new due answer written idle (inr ends) answers =
    let q = ends.have in
    let is = lines_ended (piece_run line_limit old piece) used (any_have_text (as_any_have q)) ends.ends in
    let same : (written ++ due) ++ give_text (give_of m q) ≡ written ++ answer =
    ap (λ (l : List ℕ). (written ++ l) ++ give_text (give_of m q)) idle
    ∙ ap (λ (l : List ℕ). l ++ give_text (give_of m q)) (append-nil written)
    ∙ ap (λ (l : List ℕ). written ++ l) (sym ends.is) in
    subst (λ (l : List ℕ). AnswersAll (came ++ came_at (take used piece) m ∷ []) l (written ++ answer)) (sym ends.kept)
    (subst (AnswersAll (came ++ came_at (take used piece) m ∷ []) []) same
    (answers_have came old (take used piece) (written ++ due) m q answers ends.own is))

-- ---- what a call does

-- If no error is found, there is no error.
pub no_fault : (f : Option SyncError) → ((why : SyncError) → f ≡ Some why → ⊥) → f ≡ None
no_fault None none = refl
no_fault (Some why) none = absurd (none why refl)

-- A text of length 0 is empty.
pub empty_text : (text : List ℕ) → (length text == 0) ≡ true → text ≡ []
empty_text [] is = refl
empty_text (b ∷ text) is = let none = eqb-true (length (b ∷ text)) 0 is in absurd (omega (arith, none))

-- A piece is taken by a machine without an error.
pub served_piece : (f g : Option SyncError) (m : Meaning) (came : List Came) (old piece : List ℕ) (used : ℕ) (new due answer written : List ℕ)
    → f ≡ None → g ≡ f → due ≡ [] → TakesHave m old piece used new answer → ServesPieces f came old (written ++ due)
    → ServesPieces g (came ++ came_at (take used piece) m ∷ []) new (written ++ answer)
served_piece None None m came old piece used new due answer written sound same idle takes serves =
    took_piece m came old piece used new due answer written idle takes serves
served_piece None (Some e) m came old piece used new due answer written sound same idle takes serves = absurd (cc)
served_piece (Some e) g m came old piece used new due answer written sound same idle takes serves = absurd (cc)

-- If something is to be written, nothing is taken.
pub served_nothing : (f : Option SyncError) (came : List Came) (rest bytes output : List ℕ) (m : Meaning) → f ≡ None → bytes ≡ [] → HasNoFeed rest
    → ServesPieces f came rest output → ServesPieces f (came ++ came_at bytes m ∷ []) rest output
served_nothing None came rest bytes output m sound none plain serves =
    answers_rest came rest bytes rest output m serves
    (ap (λ (l : List ℕ). lines_of (rest ++ l)) none ∙ ap lines_of (append-nil rest) ∙ lines_of-rest rest plain)
served_nothing (Some e) came rest bytes output m sound none plain serves = absurd (cc)

-- What is kept of a line has no line feed.
pub kept_plain : (ended : Bool) (line : List ℕ) → HasNoFeed line → HasNoFeed (if ended then [] else line)
kept_plain true line plain = All-from_recursion (λ b. b ≢ 10) [] tt
kept_plain false line plain = plain

-- After an error nothing more is answered, whatever comes. The search finds this lemma.
pub served_still : (f : Option SyncError) (why : SyncError) (came : List Came) (c : Came) (rest output : List ℕ) → f ≡ Some why
    → ServesPieces f came rest output → ServesPieces f (came ++ c ∷ []) rest output
served_still None why came c rest output stopped serves = absurd (cc)
served_still (Some e) why came c rest output stopped serves = record {
  before = serves.before;
  last = serves.last;
  later = serves.later ++ c ∷ [];
  order = ap (λ (l : List Came). l ++ c ∷ []) serves.order ∙ append_assoc serves.before (serves.last ∷ serves.later) (c ∷ []);
  rest = serves.rest;
  answers = serves.answers;
  cause = serves.cause;
}

-- What was written is no longer due.
pub wrote_some : (f : Option SyncError) (came : List Came) (rest written due later : List ℕ) (count : ℕ) → later ≡ drop count due
    → ServesPieces f came rest (written ++ due) → ServesPieces f came rest ((written ++ take count due) ++ later)
wrote_some f came rest written due later count is serves =
    subst (ServesPieces f came rest)
    (ap (λ (l : List ℕ). written ++ l) (sym (take-append-drop count due)) ∙ sym (append_assoc written (take count due) (drop count due))
    ∙ ap (λ (l : List ℕ). (written ++ take count due) ++ l) (sym is)) serves

-- ---- why a have is not answered

-- the first line of bytes in which there is a line feed
record FirstLine (bytes after : List ℕ) : Type 0 where
  pub text : List ℕ
  pub rest : List ℕ
  pub plain : AllByRecursion (λ b. b ≢ 10) text
  pub parts : bytes ++ (10 ∷ after) ≡ text ++ (10 ∷ rest)

-- One byte more at the front.
first_with : (feed : Bool) (b : ℕ) (bytes after : List ℕ) → (b == 10) ≡ feed → FirstLine bytes after → FirstLine (b ∷ bytes) after
first_with true b bytes after is first = record {
  text = [];
  rest = bytes ++ (10 ∷ after);
  plain = tt;
  parts = ap (λ (x : ℕ). x ∷ (bytes ++ (10 ∷ after))) (eqb-true b 10 is);
}
first_with false b bytes after is first = record {
  text = b ∷ first.text;
  rest = first.rest;
  plain = ((λ e. let feed = eq-eqb b 10 e in absurd (cc)), first.plain);
  parts = ap (λ (l : List ℕ). b ∷ l) first.parts;
}

-- Bytes with a line feed behind them have a first line.
first_line : (bytes after : List ℕ) → FirstLine bytes after
first_line [] after = record { text = []; rest = after; plain = tt; parts = refl }
first_line (b ∷ bytes) after = first_with (b == 10) b bytes after refl (first_line bytes after)

-- The bytes have a line that is too long.
pub record Overlong (bytes : List ℕ) : Type 0 where
  pub text : List ℕ
  pub rest : List ℕ
  pub plain : HasNoFeed text
  pub long : line_limit < length text
  pub parts : bytes ≡ (text ++ (10 ∷ [])) ++ rest

-- A line that is too long has its end as soon as a line feed comes.
pub overlong_line : (old piece : List ℕ) → IsOverlong line_limit (old ++ piece) → (more after : List ℕ)
    → Overlong ((old ++ piece) ++ (more ++ (10 ∷ after)))
overlong_line old piece over more after =
    let first = first_line (over.rest ++ more) after in
    let plain : HasNoFeed first.text = All-from_recursion (λ b. b ≢ 10) first.text first.plain in
    let longer = length-append over.text first.text in
    let long = over.long in
    record {
      text = over.text ++ first.text;
      rest = first.rest;
      plain = All-append (λ (b : ℕ). b ≢ 10) over.text first.text over.plain plain;
      long = omega (arith, longer, long);
      parts =
          ap (λ (l : List ℕ). l ++ (more ++ (10 ∷ after))) over.parts
          ∙ append_assoc over.text over.rest (more ++ (10 ∷ after))
          ∙ ap (λ (l : List ℕ). over.text ++ l) (sym (append_assoc over.rest more (10 ∷ after)) ∙ first.parts)
          ∙ sym (append_assoc over.text first.text (10 ∷ first.rest))
          ∙ sym (append_assoc (over.text ++ first.text) (10 ∷ []) first.rest);
    }

-- A line that is too long is not a have's, as soon as it ends.
pub overlong_refused : (m : Meaning) (old piece : List ℕ) → IsOverlong line_limit (old ++ piece) → RefusesPiece m old piece BadHeader
overlong_refused m old piece over more after =
    let line = overlong_line old piece over more after in
    (Some line.rest, record { text = line.text; is = (line.plain, line.parts); cause = inl (refl, line.long) })

-- A line that asks nothing ends a session that serves.
line_refused : (config : Configuration) (bytes rest text : List ℕ) (e : SyncError) → HasNoFeed text → length text ≤ line_limit
    → bytes ≡ (text ++ (10 ∷ [])) ++ rest → RefusesHaveLine (Some config) text e → RefusesFurther config (Some bytes) e
line_refused config bytes rest text BadHeader plain short parts why = (Some rest, record { text = text; is = (plain, parts); cause = inr (short, why) })
line_refused config bytes rest text ConfigDiffers plain short parts why = (Some rest, record { text = text; is = (plain, parts); cause = inr (short, why) })
line_refused config bytes rest text VersionDiffers plain short parts why = (Some rest, record { text = text; is = (plain, parts); cause = inr (short, why) })
line_refused config bytes rest text (NotCanonical n) plain short parts why = absurd why
line_refused config bytes rest text (NotRising n) plain short parts why = absurd why
line_refused config bytes rest text BadCount plain short parts why = absurd why
line_refused config bytes rest text Truncated plain short parts why = absurd why
line_refused config bytes rest text (Refused n w) plain short parts why = absurd why
line_refused config bytes rest text Io plain short parts why = absurd why
line_refused config bytes rest text NoMemory plain short parts why = tt

-- The line that a piece ended asks nothing.
pub ended_refused : (m : Meaning) (old piece : List ℕ) (used : ℕ) (text : List ℕ) (e : SyncError) → EndsLine (piece_run line_limit old piece) used text
    → RefusesHaveLine (Some m.config) text e → RefusesPiece m old piece e
ended_refused m old piece used text e ends why more after =
    line_refused m.config ((old ++ piece) ++ (more ++ (10 ∷ after))) (drop used piece ++ (more ++ (10 ∷ after))) text e ends.plain ends.short
    (ended_split used old piece (more ++ (10 ∷ after)) text ends.parts) why

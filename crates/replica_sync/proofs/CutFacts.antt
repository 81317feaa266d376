-- Lemmas on a stream that is cut into pieces.
use Rattle.std.proofs.Common.{◌≡◌, ◌≢◌, ℕ, ◌+◌, ◌-◌, ◌<◌, ◌≤◌, Bool, true, false, if◌then◌else◌, List, [], ◌∷◌, ◌++◌, length}
use Rattle.std.proofs.Common.{take, drop, Option, None, Some, sym, ap, ◌∙◌, subst, append_assoc, take-append-drop}
use Rattle.std.proofs.Common.{length-append, length-take, arith, unwrap_or, is_some}
use Rattle.std.proofs.Math.Seq.{take-append-add}
use Rattle.std.proofs.lemmas.List.Elements.{All-append, All-take}
use Rattle.byte_lines.specs.Lines.{HasNoFeed, lines_of, with_line}
use Rattle.byte_lines.specs.Ahead.{AtFeed}
use Rattle.byte_lines.proofs.StreamFacts.{lines_of-line, lines_of-rest}
use Rattle.replica_sync.specs.Pieces.{EndsLine, Continues, IsOverlong, PieceRun, piece_run}

-- Bytes that begin with a line, after what was kept, are that line and the bytes behind it.
pub ended_split : (used : ℕ) (old piece after text : List ℕ) → old ++ take used piece ≡ text ++ (10 ∷ [])
    → (old ++ piece) ++ after ≡ (text ++ (10 ∷ [])) ++ (drop used piece ++ after)
ended_split used old piece after text parts =
    append_assoc old piece after
    ∙ ap (λ (l : List ℕ). old ++ (l ++ after)) (sym (take-append-drop used piece))
    ∙ ap (λ l. old ++ l) (append_assoc (take used piece) (drop used piece) after)
    ∙ sym (append_assoc old (take used piece) (drop used piece ++ after))
    ∙ ap (λ l. l ++ (drop used piece ++ after)) parts

-- A line that ends in a piece is the first of the whole stream.
pub lines_of-ended : (run : PieceRun) (used : ℕ) (after text : List ℕ) → EndsLine run used text
    → lines_of ((run.old ++ run.piece) ++ after) ≡ with_line text (lines_of (drop used run.piece ++ after))
lines_of-ended run used after text ends =
    ap lines_of (ended_split used run.old run.piece after text ends.parts) ∙ lines_of-line text (drop used run.piece ++ after) ends.plain

-- What is kept within a line is the rest of what came.
pub lines_of-kept : (run : PieceRun) (new : List ℕ) → Continues run new
    → lines_of (run.old ++ run.piece) ≡ record { whole = []; rest = new }
lines_of-kept run new goes = ap lines_of (sym goes.kept) ∙ lines_of-rest new goes.plain

-- The bytes before the first line feed, or all of them, have none.
pub front_of_piece : (piece : List ℕ) (place : Option ℕ) (count : ℕ) → AtFeed piece place
    → count ≡ unwrap_or place (length piece) → HasNoFeed (take count piece) × (count ≤ length piece)
front_of_piece piece None count none is = (All-take (λ (x : ℕ). x ≢ 10) count piece none, omega arith)
front_of_piece piece (Some k) count feed is = (subst (λ n. HasNoFeed (take n piece)) (sym is) feed.plain, omega (arith, feed.inside))

-- What was kept and a piece are too long if the piece has too many bytes before its line feed.
pub overlong : (most : ℕ) (kept piece : List ℕ) (place : Option ℕ) (count : ℕ) → HasNoFeed kept → AtFeed piece place
    → count ≡ unwrap_or place (length piece) → most - length kept < count → IsOverlong most (kept ++ piece)
overlong most kept piece place count plain feed is over =
    let front = front_of_piece piece place count feed is in
    let size : length (take count piece) ≡ count = omega (arith, length-take count piece, front.1) in
    record {
      text = kept ++ take count piece;
      rest = drop count piece;
      plain = All-append (λ (x : ℕ). x ≢ 10) kept (take count piece) plain front.0;
      long = omega (arith, length-append kept (take count piece));
      parts = ap (λ l. kept ++ l) (sym (take-append-drop count piece)) ∙ sym (append_assoc kept (take count piece) (drop count piece));
    }

-- The buffer of a line that has not ended is what is kept.
pub kept_open : (ended : Bool) (line kept : List ℕ) → ended ≡ false → (if ended then [] else line) ≡ kept → line ≡ kept
kept_open true line kept waiting is = absurd (cc)
kept_open false line kept waiting is = is

-- the bytes up to the first line feed, and that one
take_feed : (k : ℕ) (piece rest : List ℕ) → k ≤ length piece → piece ≡ take k piece ++ (10 ∷ rest) → take (k + 1) piece ≡ take k piece ++ (10 ∷ [])
take_feed k piece rest within parts =
    let size : length (take k piece) ≡ k = omega (arith, length-take k piece, within) in
    ap (take (k + 1)) parts
    ∙ ap (λ n. take (n + 1) (take k piece ++ (10 ∷ rest))) (sym size)
    ∙ take-append-add (take k piece) (10 ∷ rest) 1

-- What was kept and the bytes before the piece's line feed are a line that it ends.
pub ends_line : (most : ℕ) (kept piece line : List ℕ) (place : Option ℕ) (count : ℕ) → HasNoFeed kept → AtFeed piece place
    → count ≡ unwrap_or place (length piece) → length kept ≤ most → count ≤ most - length kept → is_some place ≡ true
    → line ≡ kept ++ take count piece → EndsLine (piece_run most kept piece) (count + 1) line
ends_line most kept piece line None count plain feed is room few found made = absurd (cc)
ends_line most kept piece line (Some k) count plain feed is room few found made =
    let front = front_of_piece piece (Some k) count feed is in
    let inside : k < length piece = feed.inside in
    let size : length (take count piece) ≡ count = omega (arith, length-take count piece, front.1) in
    record {
      within = omega (arith, is, inside);
      some = omega arith;
      parts = ap (λ l. kept ++ l) (ap (λ n. take (n + 1) piece) is ∙ take_feed k piece (drop (k + 1) piece) (omega (arith, inside)) feed.parts
          ∙ ap (λ n. take n piece ++ (10 ∷ [])) (sym is))
          ∙ sym (append_assoc kept (take count piece) (10 ∷ [])) ∙ ap (λ l. l ++ (10 ∷ [])) (sym made);
      plain = subst HasNoFeed (sym made) (All-append (λ (x : ℕ). x ≢ 10) kept (take count piece) plain front.0);
      short = omega (arith, ap length made, length-append kept (take count piece), size);
    }

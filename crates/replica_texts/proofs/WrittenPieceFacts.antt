-- What has been written of a text, piece by piece.
use Rattle.std.proofs.Common.{◌≡◌, ℕ, ◌+◌, ◌≤◌, List, [], ◌++◌, length, Option, sym, ap, ◌∙◌, subst, append_assoc, arith, min}
use Rattle.std.proofs.Math.Seq.{take-append-add}
use Rattle.std.proofs.lemmas.List.{take-append-le, take_min}
use Rattle.std.specs.Io.KnownBytes.{Appends}
use Rattle.std.proofs.KnownBytes.{Appends-trans}
use Rattle.std.specs.Prelude.{Result, Ok, Err, IsErr, true, false}
use Rattle.byte_lines.specs.Device.{AppendsBeginning}
use Rattle.replica_core.specs.declared.error.SyncError.{SyncError}
use Rattle.replica_texts.specs.Messages.{WritesText}

-- A beginning of the first piece is one of both.
pub begins-first : (a b : Option (List ℕ)) (first second : List ℕ) → AppendsBeginning a b first → AppendsBeginning a b (first ++ second)
begins-first a b first second (count, appended) =
    let within : min count (length first) ≤ length first = omega arith in
    (min count (length first), subst (Appends a b) (sym (take-append-le (min count (length first)) first second within ∙ take_min count first)) appended)

-- The first piece, and a beginning of the second, are a beginning of both.
pub begins-second : (a b c : Option (List ℕ)) (first second : List ℕ) → Appends a b first → AppendsBeginning b c second → AppendsBeginning a c (first ++ second)
begins-second a b c first second before (count, appended) =
    (length first + count, subst (Appends a c) (sym (take-append-add first second count)) (Appends-trans a b c first _ before appended))

-- A beginning of the text was written, and the rest is still to come.
pub record Wrote (old now : Option (List ℕ)) (text rest : List ℕ) : Type 0 where
  pub pieces : List ℕ
  pub appended : Appends old now pieces
  pub whole : text ≡ pieces ++ rest

-- One piece more was written.
pub wrote-piece : (old now new : Option (List ℕ)) (text rest piece later : List ℕ) → Wrote old now text rest
    → rest ≡ piece ++ later → Appends now new piece → Wrote old new text later
wrote-piece old now new text rest piece later w e a = record {
  pieces = w.pieces ++ piece;
  appended = Appends-trans old now new w.pieces piece w.appended a;
  whole = w.whole ∙ ap (λ t. w.pieces ++ t) e ∙ sym (append_assoc w.pieces piece later);
}

-- A beginning of the next piece was written, so a beginning of the whole was.
pub wrote-begun : (old now new : Option (List ℕ)) (text rest piece later : List ℕ) → Wrote old now text rest
    → rest ≡ piece ++ later → AppendsBeginning now new piece → AppendsBeginning old new text
wrote-begun old now new text rest piece later w e a =
    subst (AppendsBeginning old new) (sym (w.whole ∙ ap (λ t. w.pieces ++ t) e))
    (begins-second old now new w.pieces (piece ++ later) w.appended (begins-first now new piece later a))

-- At an error a beginning of the text was written.
pub writes-err : (old new : Option (List ℕ)) (r : Result (Unit {0}) SyncError) (text : List ℕ) → IsErr r
    → AppendsBeginning old new text → WritesText old new r text
writes-err old new (Ok done) text e begun = absurd (let f : false ≡ true = e in cc)
writes-err old new (Err why) text e begun = begun

-- the first piece was written, and then the second or a beginning of it
pub writes-then : (old now new : Option (List ℕ)) (r : Result (Unit {0}) SyncError) (first second : List ℕ)
    → Appends old now first → WritesText now new r second → WritesText old new r (first ++ second)
writes-then old now new (Ok done) first second before written = Appends-trans old now new first second before written
writes-then old now new (Err why) first second before begun = begins-second old now new first second before begun

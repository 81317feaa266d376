-- What was written piece by piece.
use Rattle.std.proofs.Common.{◌≡◌, List, [], ◌∷◌, ◌++◌, Option, ℕ, map, refl, sym, ap, ◌∙◌, subst, append_assoc, append-nil}
use Rattle.std.specs.Prelude.{IsErrAnd, Result, Ok, Err}
use Rattle.std.proofs.lemmas.List.Concat.{flat_map-cons}
use Rattle.std.specs.Io.KnownBytes.{Appends}
use Rattle.byte_lines.specs.Device.{AppendsBeginning}
use Rattle.receipt_core.specs.Acceptance.{Meaning}
use Rattle.receipt_core.specs.Receipt.{line, distrust_line}
use Rattle.replica_texts.specs.Snapshots.{snapshot_text, header_line, count_line, ended, text_of_lines}
use Rattle.replica_texts.specs.declared.format.Format.TheVariants.{Second}
use Rattle.replica_texts.specs.Writing.{Writes, IsOfWriting}
use Rattle.replica_texts.specs.Inside.WritingSteps.{WrittenSoFar}
use Rattle.replica_core.specs.declared.error.SyncError.{SyncError}

module _ (both : (old between new : Option (List ℕ)) (first second : List ℕ) → Appends old between first
    → Appends between new second → Appends old new (first ++ second))
    (in_first : (old new : Option (List ℕ)) (first second : List ℕ) → AppendsBeginning old new first → AppendsBeginning old new (first ++ second))
    (in_second : (old between new : Option (List ℕ)) (first second : List ℕ) → Appends old between first
    → AppendsBeginning between new second → AppendsBeginning old new (first ++ second)) where
  -- One piece more is written.
  pub one_more : (old now new : Option (List ℕ)) (piece rest before whole : List ℕ) → before ≡ piece ++ rest
      → WrittenSoFar old now before whole → Appends now new piece → WrittenSoFar old new rest whole
  one_more old now new piece rest before whole e w p = record {
    done = w.done ++ piece;
    appended = both old now new w.done piece w.appended p;
    parts = w.parts ∙ ap (λ t. w.done ++ t) e ∙ sym (append_assoc w.done piece rest);
  }

  -- After a beginning of the next piece a beginning of the whole is written.
  pub begun_in : (old now new : Option (List ℕ)) (piece rest before whole : List ℕ) → before ≡ piece ++ rest
      → WrittenSoFar old now before whole → AppendsBeginning now new piece → AppendsBeginning old new whole
  begun_in old now new piece rest before whole e w p =
      subst (AppendsBeginning old new) (sym (w.parts ∙ ap (λ t. w.done ++ t) e))
      (in_second old now new w.done (piece ++ rest) w.appended (in_first now new piece rest p))

  -- The first of four pieces and a beginning of the second are a beginning of the whole.
  pub in_records : (a b c : Option (List ℕ)) (h r t k : List ℕ) → Appends a b h → AppendsBeginning b c r → AppendsBeginning a c (h ++ (r ++ (t ++ k)))
  in_records a b c h r t k p q = in_second a b c h (r ++ (t ++ k)) p (in_first b c r (t ++ k) q)

  -- Two of four pieces and a beginning of the third are a beginning of the whole.
  pub in_receipts : (a b c d : Option (List ℕ)) (h r t k : List ℕ) → Appends a b h → Appends b c r
      → AppendsBeginning c d t → AppendsBeginning a d (h ++ (r ++ (t ++ k)))
  in_receipts a b c d h r t k p q s = in_second a b d h (r ++ (t ++ k)) p (in_second b c d r (t ++ k) q (in_first c d t k s))

  -- Three of four pieces and a beginning of the last are a beginning of the whole.
  pub in_count : (a b c d e : Option (List ℕ)) (h r t k : List ℕ) → Appends a b h → Appends b c r → Appends c d t
      → AppendsBeginning d e k → AppendsBeginning a e (h ++ (r ++ (t ++ k)))
  in_count a b c d e h r t k p q s u = in_second a b e h (r ++ (t ++ k)) p (in_second b c e r (t ++ k) q (in_second c d e t k s u))

  -- All four pieces are the whole text.
  pub four : (a b c d e : Option (List ℕ)) (h r t k : List ℕ) → Appends a b h → Appends b c r → Appends c d t
      → Appends d e k → Appends a e (h ++ (r ++ (t ++ k)))
  four a b c d e h r t k p q s u = both a b e h (r ++ (t ++ k)) p (both b c e r (t ++ k) q (both c d e t k s u))

-- If a part was written, a beginning of the whole was.
pub begun_before : (in_second : (old between new : Option (List ℕ)) (first second : List ℕ) → Appends old between first
    → AppendsBeginning between new second → AppendsBeginning old new (first ++ second))
    (nothing : (now : Option (List ℕ)) (text : List ℕ)
    → AppendsBeginning now now text) (old now : Option (List ℕ)) (rest whole : List ℕ)
    → WrittenSoFar old now rest whole → AppendsBeginning old now whole
begun_before in_second nothing old now rest whole w =
    subst (AppendsBeginning old now) (sym w.parts) (in_second old now now w.done rest w.appended (nothing now rest))

-- If nothing was written, it is a beginning of each text.
pub nothing : (none : (old : Option (List ℕ)) → Appends old old []) (now : Option (List ℕ)) (text : List ℕ) → AppendsBeginning now now text
nothing none now text = (0, none now)

-- If nothing is left, all was written.
pub finished : (old now : Option (List ℕ)) (rest whole : List ℕ) → rest ≡ [] → WrittenSoFar old now rest whole → Appends old now whole
finished old now rest whole e w = subst (Appends old now) (sym (w.parts ∙ ap (λ t. w.done ++ t) e ∙ append-nil w.done)) w.appended

-- A refusal of the device or of memory, after a beginning was written, is one that a call may
-- return.
pub refused_write : {T : Type 0} (r : Result T SyncError) (e : SyncError) (old new : Option (List ℕ)) (text : List ℕ)
    → IsErrAnd r (λ y. y ≡ e) → IsOfWriting e → AppendsBeginning old new text → Writes old new text r
refused_write (Ok value) e old new text is w begun = absurd is
refused_write (Err y) e old new text is w begun = record { all = tt; begun = begun; cause = subst IsOfWriting (sym is) w }

-- ---- the text of a snapshot, piece by piece

-- The text of two lists of lines is one text after the other.
pub lines_append : (xs ys : List (List ℕ)) → text_of_lines (xs ++ ys) ≡ text_of_lines xs ++ text_of_lines ys
lines_append [] ys = refl
lines_append (x ∷ xs) ys =
    flat_map-cons ended x (xs ++ ys) ∙ ap (λ t. ended x ++ t) (lines_append xs ys) ∙ sym (append_assoc (ended x) (text_of_lines xs) (text_of_lines ys))
    ∙ ap (λ t. t ++ text_of_lines ys) (sym (flat_map-cons ended x xs))

-- A snapshot is its first line, the records' lines, the receipts' lines and the last line.
pub parts_of_text : (m : Meaning)
    → ended (header_line Second m.config) ++
    (text_of_lines (map distrust_line m.records) ++
    (text_of_lines (map line m.held) ++ ended (count_line Second m))) ≡ snapshot_text Second m
parts_of_text m =
    let header = ended (header_line Second m.config) in
    let records = text_of_lines (map distrust_line m.records) in
    let receipts = text_of_lines (map line m.held) in
    let count = ended (count_line Second m) in
    ap (λ t. header ++ t) (sym (append_assoc records receipts count)) ∙ sym (append_assoc header (records ++ receipts) count)
    ∙ ap (λ t. (header ++ t) ++ count) (sym (lines_append (map distrust_line m.records) (map line m.held)))

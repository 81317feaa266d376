-- Lines of receipts, one after another.
use Rattle.std.proofs.Common.{◌≡◌, ℕ, ◌+◌, ◌^◌, ◌<◌, ◌≤◌, decimal, List, [], ◌∷◌, ◌++◌, length, length-append, map}
use Rattle.std.proofs.Common.{Option, Some, refl, sym, ap, ◌∙◌, subst, arith, append_assoc, append-nil}
use Rattle.std.specs.List.{AllByRecursion, last_or}
use Rattle.std.proofs.lemmas.Fmt.{length-decimal-le}
use Rattle.receipt_core.specs.Receipt.{Receipt, line}
use Rattle.replica_core.proofs.RisingListFacts.{all_back}
use Rattle.replica_texts.specs.Snapshots.{ended, text_of_lines}
use Rattle.snapshot_pieces.specs.Pieces.{end_line}
use Rattle.snapshot_pieces.specs.Inside.Steps.{RunLines, AreFirst}

-- The lines of two lists are those of the one and then those of the other.
pub lines_append : (xs ys : List Receipt) → text_of_lines (map line (xs ++ ys)) ≡ text_of_lines (map line xs) ++ text_of_lines (map line ys)
lines_append [] ys = refl
lines_append (x ∷ xs) ys =
    ap (λ t. ended (line x) ++ t) (lines_append xs ys)
    ∙ sym (append_assoc (ended (line x)) (text_of_lines (map line xs)) (text_of_lines (map line ys)))

-- The last of a list with one more is that one.
last_pushed : {A : Type 0} (o : Option A) (xs : List A) (x : A) → last_or o (xs ++ x ∷ []) ≡ Some x
last_pushed o [] x = refl
last_pushed o (y ∷ ys) x = last_pushed (Some y) ys x

-- One line more.
pub first_more : (first : Option Receipt) (receipts old new : List Receipt) (lines : RunLines) (x : Receipt) (text : List ℕ)
    → AreFirst first receipts old lines → old ≡ x ∷ new → text ≡ lines.text ++ ended (line x)
    → AreFirst first receipts new (record { text = text; count = lines.count + 1; last = Some x })
first_more first receipts old new lines x text h e t = record {
  done = h.done ++ x ∷ [];
  parts = h.parts ∙ ap (λ (rs : List Receipt). h.done ++ rs) e ∙ sym (append_assoc h.done (x ∷ []) new);
  text = t ∙ ap (λ s. s ++ ended (line x)) h.text
      ∙ ap (λ s. text_of_lines (map line h.done) ++ s) (sym (append-nil (ended (line x))))
      ∙ sym (lines_append h.done (x ∷ []));
  count = omega (arith, h.count, length-append h.done (x ∷ []));
  last = sym (last_pushed first h.done x);
}

-- What holds of all receipts holds of those that are left.
pub each_left : (P : Receipt → Type 0) (first : Option Receipt) (receipts left : List Receipt) (lines : RunLines)
    → AreFirst first receipts left lines → AllByRecursion P receipts → AllByRecursion P left
each_left P first receipts left lines h all =
    all_back P h.done left (subst (λ (rs : List Receipt). AllByRecursion P rs) h.parts all)

-- ---- the last line

-- The last line is short.
pub last_size : (receipts records : ℕ) → receipts < 2 ^ 64 → records < 2 ^ 64 → length (ended (end_line receipts records)) ≤ 64
unfolding end_line
last_size receipts records r k =
    let first : length (decimal receipts) ≤ 20 = length-decimal-le 20 receipts (omega arith) (omega (arith, r)) r in
    let second : length (decimal records) ≤ 20 = length-decimal-le 20 records (omega arith) (omega (arith, k)) k in
    let whole : length (ended (end_line receipts records)) ≡ 24 + length (decimal receipts) + length (decimal records) = simp length-append (omega arith) in
    omega (arith, first, second, whole)

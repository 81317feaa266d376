-- The last line of a snapshot has no error, and no line of a receipt or of a record begins as it
-- does.
use Rattle.std.proofs.Common.{◌≡◌, ◌≢◌, ℕ, ◌+◌, ◌≤◌, List, [], ◌∷◌, ◌++◌, length, length-append, map, decimal, codes, get_or, refl, ap, sym, ◌∙◌, subst, arith}
use Rattle.std.proofs.lemmas.Fmt.{length-decimal-le}
use Rattle.std.specs.List.{AllByRecursion}
use Rattle.json.specs.Print.{escape_byte}
use Rattle.receipt_core.specs.declared.distrust.Distrust.{Distrust}
use Rattle.receipt_core.specs.Receipt.{Receipt, line, distrust_line}
use Rattle.receipt_core.specs.Acceptance.{Meaning, IsMeaning}
use Rattle.replica_texts.specs.Snapshots.{IsCountLine, RefusesPlace, count_beginning, count_line, count_of, next_number, records_part}
use Rattle.replica_core.specs.declared.error.SyncError.{SyncError}
use Rattle.replica_core.specs.declared.error.SyncError.TheVariants.{BadHeader, ConfigDiffers, VersionDiffers, NotCanonical, NotRising, BadCount, Truncated}
use Rattle.replica_core.specs.declared.error.SyncError.TheVariants.{Refused, Io, NoMemory}
use Rattle.replica_texts.specs.declared.format.Format.{Format}
use Rattle.replica_texts.specs.declared.format.Format.TheVariants.{First, Second}
use Rattle.receipt_core.proofs.LimitFacts.{receipt_limit-most, record_limit-most}
use Rattle.receipt_core.specs.Limits.{most_receipts, most_records}

-- ---- the third byte sets the last line apart

-- the third byte is that of the lines of receipts and records, a `d`
abbrev pub IsThird : List ℕ → Type 0
IsThird text = get_or text 2 0 ≡ 100

-- The third byte of a receipt's line is such a one.
pub third_line : (r : Receipt) → IsThird (line r)
unfolding line escape_byte
third_line r = refl

-- The third byte of a record's line is such a one.
pub third_record : (x : Distrust) → IsThird (distrust_line x)
unfolding distrust_line escape_byte
third_record x = refl

-- A line that begins as the last one does has another third byte.
pub no_count : (text rest : List ℕ) → text ≡ count_beginning ++ rest → IsThird text → ⊥
no_count text rest e third = let no : 100 ≡ 99 = sym third ∙ ap (λ (t : List ℕ). get_or t 2 0) e in omega (arith, no)

-- The third byte of each line of what is held is such a one, so none begins as the last line.
pub third_held : (xs : List Distrust) (rs : List Receipt) → AllByRecursion IsThird (map distrust_line xs ++ map line rs)
third_held [] [] = tt
third_held [] (r ∷ rs) = (third_line r, third_held [] rs)
third_held (x ∷ xs) rs = (third_record x, third_held xs rs)

-- ---- the last line

-- The length of the last line, by its numbers.
count_length : (format : Format) (receipts records : ℕ)
    → length (count_of format receipts records) ≡ 10 + length (decimal receipts) + length (records_part format records)
unfolding count_of
count_length format receipts records = simp length-append (omega arith)

-- The part on records is short.
part_length : (format : Format) (records : ℕ) → records ≤ most_records → length (records_part format records) ≤ 18
part_length First records h = omega arith
part_length Second records h =
    let whole = length-append (codes ",\"distrusts\":") (decimal records) in
    let label : length (codes ",\"distrusts\":") ≡ 13 = refl in
    let number = length-decimal-le 5 records (omega arith) (omega (arith, h)) (omega (arith, h)) in
    omega (arith, whole, label, number)

-- The last line begins as one does, and is not too long.
pub is_count : (format : Format) (m : Meaning) → IsMeaning m → IsCountLine (count_line format m)
unfolding count_of
is_count format m valid = record {
  rest = decimal (length m.held) ++ (records_part format (length m.records) ++ codes "}");
  begins = refl;
  few =
      let whole = count_length format (length m.held) (length m.records) in
      let part = part_length format (length m.records) (omega (arith, valid.few_records, record_limit-most m.config)) in
      let number = length-decimal-le 7 (length m.held) (omega arith) (omega (arith, valid.few, receipt_limit-most m.config))
      (omega (arith, valid.few, receipt_limit-most m.config)) in
      omega (arith, whole, part, number);
}

-- The last line has no error at its place.
pub no_fault_of_count : (format : Format) (m : Meaning) (text : List ℕ) (e : SyncError) → IsMeaning m
    → text ≡ count_line format m → e ≢ NoMemory → RefusesPlace format m text e → ⊥
no_fault_of_count format m text BadHeader valid is ample h = h
no_fault_of_count format m text ConfigDiffers valid is ample h = h
no_fault_of_count format m text VersionDiffers valid is ample h = h
no_fault_of_count format m text (NotCanonical n) valid is ample h = h.further (subst IsCountLine (sym is) (is_count format m valid))
no_fault_of_count format m text (NotRising n) valid is ample h = h.further (subst IsCountLine (sym is) (is_count format m valid))
no_fault_of_count format m text BadCount valid is ample h = h.other is
no_fault_of_count format m text Truncated valid is ample h = h
no_fault_of_count format m text (Refused n why) valid is ample h = h.further (subst IsCountLine (sym is) (is_count format m valid))
no_fault_of_count format m text Io valid is ample h = h
no_fault_of_count format m text NoMemory valid is ample h = ample refl

-- The number of the line after all that is held is within this bound; the search finds this lemma.
pub next_number-most : (m : Meaning) → IsMeaning m → next_number m ≤ most_receipts + most_records + 2
next_number-most m valid = omega (arith, valid.few, valid.few_records, receipt_limit-most m.config, record_limit-most m.config)

-- The lines of what is held rise, and a line above the last one joins them at their end.
use Rattle.std.proofs.Common.{◌≡◌, ℕ, ◌+◌, List, [], ◌∷◌, ◌++◌, length, map, refl, sym, ap, ◌∙◌, subst, arith, fold, append_assoc, append-nil, length-append}
use Rattle.std.specs.declared.cmp.Ordering.{Ordering}
use Rattle.std.specs.declared.cmp.Ordering.TheVariants.{Less, Greater}
use Rattle.std.specs.Ordering.{nat_cmp}
use Rattle.std.specs.Cmp.{IsTotalOrder}
use Rattle.std.specs.Cmp.Lexicographic.{slice_cmp, nat_list_cmp_total}
use Rattle.std.specs.List.{AllByRecursion}
use Rattle.std.specs.List.Sorted.{IsStrictlySortedBy}
use Rattle.std.proofs.lemmas.List.{map-append}
use Rattle.std.proofs.lemmas.List.Sums.{fold-append}
use Rattle.receipt_core.specs.declared.distrust.Distrust.{Distrust}
use Rattle.receipt_core.specs.Receipt.{Receipt, IsReceipt, line, receipt_cmp, IsDistrust, distrust_line, distrust_cmp}
use Rattle.receipt_core.specs.Acceptance.{Meaning, IsMeaning}
use Rattle.receipt_core.specs.Rising.{with_item}
use Rattle.receipt_core.proofs.RisingFacts.{turned}
use Rattle.replica_texts.specs.Inside.EntrySteps.{TakesEntryText}
use Rattle.replica_texts.specs.Entries.{IsAbove, IsWanted, entry_line}
use Rattle.replica_core.specs.Absorbing.{with_entry}
use Rattle.replica_texts.specs.Snapshots.{FitsFormat, held_lines, last_of, last_line, wanted_of}
use Rattle.replica_texts.specs.Inside.Reading.{IsFurther}
use Rattle.replica_core.specs.declared.entry.Entry.{Entry}
use Rattle.replica_core.specs.declared.entry.Entry.TheVariants.{Record, Receipt as AReceipt}
use Rattle.replica_texts.specs.declared.format.Format.{Format}
use Rattle.replica_texts.specs.declared.format.Format.TheVariants.{First, Second}
use Rattle.replica_core.proofs.RisingListFacts.{all_back, all_front, at_end, rising_append, rising_cons, rising_head, rising_nil, rising_tail}

-- the order of texts, byte by byte
abbrev pub text_cmp : List ℕ → List ℕ → Ordering
text_cmp = slice_cmp nat_cmp

-- all are less than the text
abbrev pub AllBelow : List ℕ → List (List ℕ) → Type 0
AllBelow text = AllByRecursion (λ y. text_cmp y text ≡ Less)

-- the order of the items is that of their texts
module _ {A : Type 0} (P : A → Type 0) (cmp : A → A → Ordering) (text : A → List ℕ) (same : (a b : A) → P a → P b → text_cmp (text a) (text b) ≡ cmp a b) where
  -- The line of an item that is below all others is below all their lines.
  map_above : (x : A) (xs : List A) → P x → AllByRecursion P xs → AllByRecursion (λ y. cmp x y ≡ Less) xs
      → AllByRecursion (λ y. text_cmp (text x) y ≡ Less) (map text xs)
  map_above x [] p ps h = tt
  map_above x (y ∷ xs) p ps h = (same x y p ps.0 ∙ h.0, map_above x xs p ps.1 h.1)

  -- The lines of items that rise, rise.
  pub map_rising : (xs : List A) → AllByRecursion P xs → IsStrictlySortedBy cmp xs → IsStrictlySortedBy text_cmp (map text xs)
  map_rising [] ps h = rising_nil text_cmp
  map_rising (x ∷ xs) ps h =
      rising_cons text_cmp (text x) (map text xs) (map_above x xs ps.0 ps.1 (rising_head cmp x xs h))
      (map_rising xs ps.1 (rising_tail cmp x xs h))

  -- texts that are all below one are those of items that are all below its item
  pub below_text : (item : A) (xs : List A) → P item → AllByRecursion P xs → IsTotalOrder cmp
      → AllBelow (text item) (map text xs) → AllByRecursion (λ y. cmp item y ≡ Greater) xs
  below_text item [] p ps t h = tt
  below_text item (x ∷ xs) p ps t h = (turned t x item (sym (same x item ps.0 p) ∙ h.0), below_text item xs p ps.1 t h.1)

-- ---- the last one

-- A line at the end is the last one.
pub last_pushed : (lines : List (List ℕ)) (text : List ℕ) → last_of (lines ++ text ∷ []) ≡ text
last_pushed lines text = fold-append (λ before line. line) [] lines (text ∷ [])

-- What is above the last line is above the first.
below_head : (x text : List ℕ) (xs : List (List ℕ)) → IsStrictlySortedBy text_cmp (x ∷ xs)
    → text_cmp (fold (λ (l : List ℕ) (line : List ℕ). line) x xs) text ≡ Less → text_cmp x text ≡ Less
below_head x text [] rising h = h
below_head x text (y ∷ xs) rising h =
    nat_list_cmp_total.trans x y text (rising_head text_cmp x (y ∷ xs) rising).0 (below_head y text xs (rising_tail text_cmp x (y ∷ xs) rising) h)

-- below the last one, above all
pub below_last : (lines : List (List ℕ)) (text : List ℕ) → IsStrictlySortedBy text_cmp lines → text_cmp (last_of lines) text ≡ Less → AllBelow text lines
below_last [] text rising h = tt
below_last (x ∷ []) text rising h = (h, tt)
below_last (x ∷ (y ∷ xs)) text rising h =
    (below_head x text (y ∷ xs) rising h, below_last (y ∷ xs) text (rising_tail text_cmp x (y ∷ xs) rising) h)

-- Receipts are ordered as their lines.
same_line : (r s : Receipt) → IsReceipt r → IsReceipt s → text_cmp (line r) (line s) ≡ receipt_cmp r s
same_line r s p q = refl

-- ---- what is held

module _ (total : IsTotalOrder receipt_cmp) (records_total : IsTotalOrder distrust_cmp)
    (record_order : (x y : Distrust) → IsDistrust x → IsDistrust y → text_cmp (distrust_line x) (distrust_line y) ≡ distrust_cmp x y)
    (record_first : (x : Distrust) (r : Receipt) → IsDistrust x → IsReceipt r → text_cmp (distrust_line x) (line r) ≡ Less) where
  -- A record's line is below the lines of receipts.
  above_record : (x : Distrust) (receipts : List Receipt) → IsDistrust x → AllByRecursion IsReceipt receipts
      → AllByRecursion (λ y. text_cmp (distrust_line x) y ≡ Less) (map line receipts)
  above_record x [] p qs = tt
  above_record x (r ∷ receipts) p qs = (record_first x r p qs.0, above_record x receipts p qs.1)

  -- All lines of records are below all lines of receipts.
  records_below : (records : List Distrust) (receipts : List Receipt) → AllByRecursion IsDistrust records → AllByRecursion IsReceipt receipts
      → AllByRecursion (λ x. AllByRecursion (λ y. text_cmp x y ≡ Less) (map line receipts)) (map distrust_line records)
  records_below [] receipts ps qs = tt
  records_below (x ∷ records) receipts ps qs = (above_record x receipts ps.0 qs, records_below records receipts ps.1 qs)

  -- All lines of what is held rise.
  pub lines_rise : (m : Meaning) → IsMeaning m → IsStrictlySortedBy text_cmp (held_lines m)
  lines_rise m valid =
      rising_append text_cmp (map distrust_line m.records) (map line m.held)
      (map_rising IsDistrust distrust_cmp distrust_line record_order m.records valid.distrusts valid.records_rising)
      (map_rising IsReceipt receipt_cmp line same_line m.held valid.receipts valid.rising)
      (records_below m.records m.held valid.distrusts valid.receipts)

  -- If a record's line is above all lines of receipts, there is no receipt.
  no_receipt_below : (x : Distrust) (receipts : List Receipt) → IsDistrust x → AllByRecursion IsReceipt receipts
      → AllBelow (distrust_line x) (map line receipts) → receipts ≡ []
  no_receipt_below x [] p qs h = refl
  no_receipt_below x (r ∷ receipts) p qs h = let above : text_cmp (line r) (distrust_line x) ≡ Greater =
      turned nat_list_cmp_total (distrust_line x) (line r) (record_first x r p qs.0) in absurd (let less = h.0 in cc)

  -- A receipt whose line is above the last one comes last of all receipts.
  receipt_joins : (m : Meaning) (r : Receipt) → IsMeaning m → IsReceipt r → IsAbove (last_line m) (line r) → with_item receipt_cmp r m.held ≡ m.held ++ r ∷ []
  receipt_joins m r valid is above =
      at_end receipt_cmp r m.held
      (below_text IsReceipt receipt_cmp line same_line r m.held is valid.receipts total
      (all_back (λ y. text_cmp y (line r) ≡ Less) (map distrust_line m.records) (map line m.held)
      (below_last (held_lines m) (line r) (lines_rise m valid) above)))

  -- A record whose line is above the last one comes last of all records, and there is no receipt.
  record_joins : (m : Meaning) (x : Distrust) → IsMeaning m → IsDistrust x → IsAbove (last_line m) (distrust_line x)
      → (with_item distrust_cmp x m.records ≡ m.records ++ x ∷ []) × (m.held ≡ [])
  record_joins m x valid is above =
      let below = below_last (held_lines m) (distrust_line x) (lines_rise m valid) above in (
        at_end distrust_cmp x m.records
            (below_text IsDistrust distrust_cmp distrust_line record_order x m.records is valid.distrusts records_total
            (all_front (λ y. text_cmp y (distrust_line x) ≡ Less) (map distrust_line m.records) (map line m.held) below)),
        no_receipt_below x m.held is valid.receipts (all_back (λ y. text_cmp y (distrust_line x) ≡ Less) (map distrust_line m.records) (map line m.held) below),
      )

  -- ---- one more line

  -- A receipt whose line is above the last one adds its line at the end.
  lines_with_receipt : (m : Meaning) (r : Receipt) → IsMeaning m → IsReceipt r → IsAbove (last_line m) (line r)
      → held_lines (with_entry (AReceipt r) m) ≡ held_lines m ++ line r ∷ []
  lines_with_receipt m r valid is above =
      ap (λ held. map distrust_line m.records ++ map line held) (receipt_joins m r valid is above)
      ∙ ap (λ lines. map distrust_line m.records ++ lines) (map-append line m.held (r ∷ []))
      ∙ sym (append_assoc (map distrust_line m.records) (map line m.held) (line r ∷ []))

  -- A record whose line is above the last one adds its line at the end.
  lines_with_record : (m : Meaning) (x : Distrust) → IsMeaning m → IsDistrust x
      → IsAbove (last_line m) (distrust_line x)
      → held_lines (with_entry (Record x) m) ≡ held_lines m ++ distrust_line x ∷ []
  lines_with_record m x valid is above =
      let joins = record_joins m x valid is above in
      (λ i. map distrust_line (joins.0 i) ++ map line (joins.1 i))
      ∙ append-nil (map distrust_line (m.records ++ x ∷ []))
      ∙ map-append distrust_line m.records (x ∷ [])
      ∙ ap (λ lines. lines ++ distrust_line x ∷ []) (sym (append-nil (map distrust_line m.records)))
      ∙ ap (λ held. (map distrust_line m.records ++ map line held) ++ distrust_line x ∷ []) (sym joins.1)

  -- One receipt more leaves the first format without records.
  fits_still : (format : Format) (m : Meaning) (r : Receipt) → FitsFormat format m → FitsFormat format (with_entry (AReceipt r) m)
  fits_still First m r fits = fits
  fits_still Second m r fits = tt

  -- A receipt whose line is above the last one is the next line of what is held.
  further_receipt : (format : Format) (m : Meaning) (r : Receipt) → IsMeaning m → FitsFormat format m → IsReceipt r
      → IsAbove (last_line m) (line r) → IsFurther format m (line r) (with_entry (AReceipt r) m)
  further_receipt format m r valid fits is above =
      let longer : length (with_item receipt_cmp r m.held) ≡ length m.held + 1 = ap length (receipt_joins m r valid is above) ∙ length-append m.held (r ∷ []) in
      record {
        of_config = refl;
        fits = fits_still format m r fits;
        lines = lines_with_receipt m r valid is above;
        number = omega (arith, longer);
      }

  -- A record whose line is above the last one is the next line of what is held.
  further_record : (m : Meaning) (x : Distrust) → IsMeaning m → IsDistrust x → IsAbove (last_line m) (distrust_line x)
      → IsFurther Second m (distrust_line x) (with_entry (Record x) m)
  further_record m x valid is above =
      let longer : length (with_item distrust_cmp x m.records) ≡ length m.records + 1 =
      ap length (record_joins m x valid is above).0 ∙ length-append m.records (x ∷ []) in
      record {
        of_config = refl;
        fits = tt;
        lines = lines_with_record m x valid is above;
        number = omega (arith, longer);
      }

  -- An entry of the format whose line is above the last one is the next line of what is held.
  further_entry : (format : Format) (m : Meaning) (entry : Entry) → IsMeaning m → FitsFormat format m
      → IsWanted (wanted_of format) entry → IsAbove (last_line m) (entry_line entry)
      → IsFurther format m (entry_line entry) (with_entry entry m)
  further_entry First m (Record x) valid fits is above = absurd is
  further_entry First m (AReceipt r) valid fits is above = further_receipt First m r valid fits is above
  further_entry Second m (Record x) valid fits is above = further_record m x valid is above
  further_entry Second m (AReceipt r) valid fits is above = further_receipt Second m r valid fits is above

  -- A line that was read and taken is the next line of what is held.
  pub further : (format : Format) (m new : Meaning) (text : List ℕ) (count : ℕ) → IsMeaning m → FitsFormat format m
      → TakesEntryText (wanted_of format) m (last_line m) text new count → IsFurther format m text new
  further format m new text count valid fits taken =
      let spelt = taken.next.is.spelt in
      let same = taken.taken.meaning in
      subst (λ t. IsFurther format m t new) (sym spelt)
      (subst (λ n. IsFurther format m (entry_line taken.entry) n) (sym same)
      (further_entry format m taken.entry valid fits taken.next.is.is (subst (IsAbove (last_line m)) spelt taken.next.above)))

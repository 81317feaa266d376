-- What an answer has, with what one more line says at its end.
use Rattle.std.proofs.Common.{◌≡◌, ℕ, List, [], ◌∷◌, ◌++◌, map, sym, ap, ◌∙◌, append-nil, append_assoc}
use Rattle.std.specs.declared.cmp.Ordering.{Ordering}
use Rattle.std.specs.declared.cmp.Ordering.TheVariants.{Less}
use Rattle.std.specs.List.{AllByRecursion, flat_map}
use Rattle.std.specs.List.Sorted.{IsStrictlySortedBy}
use Rattle.std.proofs.lemmas.Grind.{flat_map-append}
use Rattle.std.proofs.lemmas.List.{map-append}
use Rattle.std.proofs.lemmas.List.Folds.{flat_map-map}
use Rattle.receipt_core.specs.declared.distrust.Distrust.{Distrust}
use Rattle.receipt_core.specs.Receipt.{Receipt, line, distrust_line}
use Rattle.replica_core.specs.State.{State}
use Rattle.replica_texts.specs.Snapshots.{ended, last_of, text_of_lines}
use Rattle.replica_texts.specs.Entries.{entry_line, IsAbove}
use Rattle.replica_core.specs.declared.entry.Entry.{Entry}
use Rattle.replica_core.specs.declared.entry.Entry.TheVariants.{Record, Receipt as AReceipt}
use Rattle.replica_texts.proofs.HeldFacts.{text_cmp, AllBelow, below_last}
use Rattle.replica_core.proofs.RisingListFacts.{rising_head, rising_tail, rising_cons}
use Rattle.replica_texts.specs.Messages.{record_text, receipt_text}
use Rattle.replica_texts.specs.Gives.{content_lines}
use Rattle.replica_texts.specs.Inside.Gathering.{pushed}

-- ---- lists

-- What holds of all items, and of one more, holds of the longer list.
pub all_pushed : {A : Type 0} (P : A → Type 0) (xs : List A) (x : A) → AllByRecursion P xs → P x → AllByRecursion P (xs ++ x ∷ [])
all_pushed P [] x h k = (k, tt)
all_pushed P (y ∷ xs) x h k = (h.0, all_pushed P xs x h.1 k)

-- A list of one item rises.
rising_one : {A : Type 0} (cmp : A → A → Ordering) (x : A) → IsStrictlySortedBy cmp (x ∷ [])
unfolding IsStrictlySortedBy
rising_one cmp x = (tt, tt)

-- Lines that rise, with one more above all of them, rise.
rising_below : (lines : List (List ℕ)) (text : List ℕ) → IsStrictlySortedBy text_cmp lines → AllBelow text lines
    → IsStrictlySortedBy text_cmp (lines ++ text ∷ [])
rising_below [] text rising below = rising_one text_cmp text
rising_below (x ∷ lines) text rising below =
    rising_cons text_cmp x (lines ++ text ∷ []) (all_pushed (λ y. text_cmp x y ≡ Less) lines text (rising_head text_cmp x lines rising) below.0)
    (rising_below lines text (rising_tail text_cmp x lines rising) below.1)

-- Lines that rise, with one more above the last one, rise.
pub rising_pushed : (lines : List (List ℕ)) (text : List ℕ) → IsStrictlySortedBy text_cmp lines
    → IsAbove (last_of lines) text → IsStrictlySortedBy text_cmp (lines ++ text ∷ [])
rising_pushed lines text rising above = rising_below lines text rising (below_last lines text rising above)

-- ---- lines

-- A record at the end of the records adds its line, while there is no receipt.
pub lines_with_record : (content : State) (x : Distrust) → content.held ≡ []
    → content_lines (pushed (Record x) content) ≡ content_lines content ++ distrust_line x ∷ []
lines_with_record content x none =
    ap (λ held. map distrust_line (content.records ++ x ∷ []) ++ map line held) none
    ∙ append-nil (map distrust_line (content.records ++ x ∷ []))
    ∙ map-append distrust_line content.records (x ∷ [])
    ∙ ap (λ lines. lines ++ distrust_line x ∷ []) (sym (append-nil (map distrust_line content.records)))
    ∙ ap (λ held. (map distrust_line content.records ++ map line held) ++ distrust_line x ∷ []) (sym none)

-- A receipt at the end of the receipts adds its line.
pub lines_with_receipt : (content : State) (r : Receipt) → content_lines (pushed (AReceipt r) content) ≡ content_lines content ++ line r ∷ []
lines_with_receipt content r =
    ap (λ lines. map distrust_line content.records ++ lines) (map-append line content.held (r ∷ []))
    ∙ sym (append_assoc (map distrust_line content.records) (map line content.held) (line r ∷ []))

-- the entry may come next: no record comes after a receipt
abbrev pub HasPlace : Entry → State → Type 0
HasPlace (Record x) content = content.held ≡ []
HasPlace (AReceipt r) content = Unit {0}

-- An entry that may come next adds its line at the end.
pub lines_pushed : (entry : Entry) (content : State) → HasPlace entry content
    → content_lines (pushed entry content) ≡ content_lines content ++ entry_line entry ∷ []
lines_pushed (Record x) content none = lines_with_record content x none
lines_pushed (AReceipt r) content none = lines_with_receipt content r

-- One line more, with its line feed, ends the text.
text_pushed : (lines : List (List ℕ)) (text : List ℕ) → text_of_lines (lines ++ text ∷ []) ≡ text_of_lines lines ++ ended text
text_pushed lines text = flat_map-append ended lines (text ∷ []) ∙ ap (λ t. text_of_lines lines ++ t) (append-nil (ended text))

-- all lines, as an answer's text has them
pub text_of_content : (content : State) → text_of_lines (content_lines content) ≡ flat_map record_text content.records ++ flat_map receipt_text content.held
text_of_content content =
    flat_map-append ended (map distrust_line content.records) (map line content.held)
    ∙ ap (λ t. t ++ text_of_lines (map line content.held)) (flat_map-map ended distrust_line content.records)
    ∙ ap (λ t. flat_map record_text content.records ++ t) (flat_map-map ended line content.held)

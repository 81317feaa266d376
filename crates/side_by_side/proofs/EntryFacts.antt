-- Receipts and records, their lines, and what is held with one more.
use Rattle.std.proofs.Common.{◌≡◌, ℕ, ◌+◌, ◌≤◌, ◌<◌, ◌⊎◌, inl, inr, List, [], ◌∷◌, length, refl, sym, ap, ◌∙◌, subst, arith, length-append}
use Rattle.std.specs.Prelude.{Contains}
use Rattle.std.specs.List.{AllByRecursion}
use Rattle.std.specs.List.Sorted.{IsStrictlySortedBy}
use Rattle.hex.specs.Hex.{encode_lower}
use Rattle.byte_lines.specs.Limits.{line_limit}
use Rattle.receipt_core.specs.declared.distrust.Distrust.{Distrust}
use Rattle.receipt_core.specs.Receipt.{IsReceipt, distrust_line, receipt_cmp, distrust_cmp}
use Rattle.receipt_core.specs.Parts.{distrust_pieces}
use Rattle.receipt_core.specs.Acceptance.{Meaning, IsMeaning}
use Rattle.receipt_core.specs.Limits.{receipt_limit, record_limit}
use Rattle.receipt_core.specs.Sets.{Always, AreSets}
use Rattle.receipt_core.proofs.HexFacts.{length-encode_lower}
use Rattle.receipt_core.proofs.LineFacts.{distrust_line_text, one_line, one_record}
use Rattle.receipt_core.proofs.ReadFacts.{length-line}
use Rattle.replica_core.specs.Absorbing.{with_entry, with_entries}
use Rattle.replica_core.specs.declared.entry.Entry.{Entry}
use Rattle.replica_core.specs.declared.entry.Entry.TheVariants.{Record, Receipt as AReceipt}
use Rattle.replica_core.proofs.ContainsFacts.{contains-here, contains-later, contains-cases, contains-none, each-from}
use Rattle.replica_texts.specs.declared.entry_line.Wanted.TheVariants.{Either}
use Rattle.replica_texts.specs.Entries.{IsEntry, IsNoLineOf, entry_line}
use Rattle.replica_texts.specs.SoleLines.{IsWellFormed}
use Rattle.replica_texts.proofs.OneFacts.{apart}
use Rattle.replica_journal.specs.Journal.{AreWellFormed}
use Rattle.side_by_side.specs.Offering.{IsEntryHeld, FitsEntry, IsFullFor}

-- ---- lines

-- One line says one receipt or one record.
pub one_entry : (e d : Entry) → IsWellFormed e → IsWellFormed d → entry_line e ≡ entry_line d → e ≡ d
one_entry (Record x) (Record y) p q same = ap Record (one_record x y p q same)
one_entry (Record x) (AReceipt r) p q same = absurd (apart x r p q same)
one_entry (AReceipt r) (Record x) p q same = absurd (apart x r q p (sym same))
one_entry (AReceipt r) (AReceipt s) p q same = ap AReceipt (one_line r s p q same)

-- the length of a record's line from those of its parts
length-pieces : (k n : List ℕ) → length (distrust_pieces k n) ≡ 27 + length k + length n
unfolding distrust_pieces
length-pieces k n = simp length-append (omega arith)

-- No line is longer than a line may be.
short : (e : Entry) → IsWellFormed e → line_limit < length (entry_line e) → ⊥
short (Record x) h long =
    let whole = ap length (distrust_line_text x h) ∙ length-pieces (encode_lower x.key.0) x.domain in
    let key = length-encode_lower x.key.0 h.key in
    within (length (encode_lower x.key.0)) (length x.domain) (length (distrust_line x)) whole key h.domain.limit long
  where
    within : (k n w : ℕ) → w ≡ 27 + k + n → k ≡ 64 → n ≤ 255 → line_limit < w → ⊥
    within k n w whole pk pn long = omega arith
short (AReceipt r) h long = let few = length-line r h in omega (arith, few, long)

-- A line that says nothing says no receipt or record.
pub says_none : (text : List ℕ) (e : Entry) → IsNoLineOf Either text → IsEntry Either text e → ⊥
says_none text e none is = elim none [
  | inl long ↦ short e is.is (subst (λ (t : List ℕ). line_limit < length t) is.spelt long)
  | inr nothing ↦ nothing e is
]

-- ---- one more is held

-- That each record is one says nothing.
pub always : (xs : List Distrust) → AllByRecursion Always xs
always [] = tt
always (x ∷ xs) = (tt, always xs)

-- the laws of sets
pub record SetLaws : Type 0 where
  pub receipts : AreSets IsReceipt receipt_cmp
  pub records : AreSets Always distrust_cmp

-- What is held with one more was held, or is that one.
pub holds_cases : SetLaws → (m : Meaning) (e d : Entry) → IsWellFormed e → AllByRecursion IsReceipt m.held → IsEntryHeld (with_entry e m) d
    → (e ≡ d) ⊎ IsEntryHeld m d
holds_cases laws m (Record x) (Record y) form forms has = elim ((laws.records.members x y m.records tt (always m.records)).0 has) [
  | inl same ↦ inl (ap Record same)
  | inr old ↦ inr old
]
holds_cases laws m (Record x) (AReceipt r) form forms has = inr has
holds_cases laws m (AReceipt r) (Record x) form forms has = inr has
holds_cases laws m (AReceipt r) (AReceipt s) form forms has = elim ((laws.receipts.members r s m.held form forms).0 has) [
  | inl same ↦ inl (ap AReceipt same)
  | inr old ↦ inr old
]

-- It is held.
pub holds_new : SetLaws → (m : Meaning) (e : Entry) → IsWellFormed e → AllByRecursion IsReceipt m.held → IsEntryHeld (with_entry e m) e
holds_new laws m (Record x) form forms = (laws.records.members x x m.records tt (always m.records)).1 (inl refl)
holds_new laws m (AReceipt r) form forms = (laws.receipts.members r r m.held form forms).1 (inl refl)

-- What was held is held.
pub holds_old : SetLaws → (m : Meaning) (e d : Entry) → IsWellFormed e → AllByRecursion IsReceipt m.held → IsEntryHeld m d → IsEntryHeld (with_entry e m) d
holds_old laws m (Record x) (Record y) form forms has = (laws.records.members x y m.records tt (always m.records)).1 (inr has)
holds_old laws m (Record x) (AReceipt r) form forms has = has
holds_old laws m (AReceipt r) (Record x) form forms has = has
holds_old laws m (AReceipt r) (AReceipt s) form forms has = (laws.receipts.members r s m.held form forms).1 (inr has)

-- What is held has its form and rises, and is not less than before.
pub record IsTidier (old new : Meaning) : Type 0 where
  pub receipts : length old.held ≤ length new.held
  pub records : length old.records ≤ length new.records
  pub forms : AllByRecursion IsReceipt old.held → AllByRecursion IsReceipt new.held
  pub rising : IsStrictlySortedBy receipt_cmp old.held → IsStrictlySortedBy receipt_cmp new.held
  pub records_rising : IsStrictlySortedBy distrust_cmp old.records → IsStrictlySortedBy distrust_cmp new.records

pub tidier_same : (m : Meaning) → IsTidier m m
tidier_same m = record { receipts = omega arith; records = omega arith; forms = λ h. h; rising = λ h. h; records_rising = λ h. h }

pub tidier_then : (l m n : Meaning) → IsTidier l m → IsTidier m n → IsTidier l n
tidier_then l m n p q =
    let a = p.receipts in
    let b = q.receipts in
    let c = p.records in
    let d = q.records in
    record {
      receipts = omega (arith, a, b);
      records = omega (arith, c, d);
      forms = λ h. q.forms (p.forms h);
      rising = λ h. q.rising (p.rising h);
      records_rising = λ h. q.records_rising (p.records_rising h);
    }

-- It is so after one more that was not held.
pub tidier_new : SetLaws → (m : Meaning) (e : Entry) → IsWellFormed e → AllByRecursion IsReceipt m.held → (IsEntryHeld m e → ⊥) → IsTidier m (with_entry e m)
tidier_new laws m (Record x) form forms unheld =
    let longer = laws.records.longer x m.records tt (always m.records) unheld in
    record {
      receipts = omega arith;
      records = omega (arith, longer);
      forms = λ h. h;
      rising = λ h. h;
      records_rising = λ h. laws.records.rises x m.records h;
    }
tidier_new laws m (AReceipt r) form forms unheld =
    let longer = laws.receipts.longer r m.held form forms unheld in
    record {
      receipts = omega (arith, longer);
      records = omega arith;
      forms = λ h. laws.receipts.keeps r m.held form h;
      rising = λ h. laws.receipts.rises r m.held h;
      records_rising = λ h. h;
    }

-- What is full is full afterwards.
pub full_still : (m n : Meaning) (e : Entry) → n.config ≡ m.config → IsTidier m n → IsFullFor m e → IsFullFor n e
full_still m n (Record x) config t full = let a = t.records in let limit = ap record_limit config in omega (arith, a, limit, full)
full_still m n (AReceipt r) config t full = let a = t.receipts in let limit = ap receipt_limit config in omega (arith, a, limit, full)

-- The configuration is the same.
pub config_same : (m : Meaning) (e : Entry) → (with_entry e m).config ≡ m.config
config_same m (Record x) = refl
config_same m (AReceipt r) = refl

-- ---- several

-- The receipts keep their form.
forms_with : SetLaws → (m : Meaning) (e : Entry) → IsWellFormed e → AllByRecursion IsReceipt m.held → AllByRecursion IsReceipt (with_entry e m).held
forms_with laws m (Record x) form forms = forms
forms_with laws m (AReceipt r) form forms = laws.receipts.keeps r m.held form forms

-- What is held with several more was held, or is one of them.
pub all_cases : SetLaws → (m : Meaning) (es : List Entry) (d : Entry) → AreWellFormed es → AllByRecursion IsReceipt m.held
    → IsEntryHeld (with_entries es m) d → Contains es d ⊎ IsEntryHeld m d
all_cases laws m [] d form forms has = inr has
all_cases laws m (e ∷ es) d form forms has =
    elim (all_cases laws (with_entry e m) es d form.1 (forms_with laws m e form.0 forms) has) [
      | inl later ↦ inl (contains-later e es d later)
      | inr old ↦ elim (holds_cases laws m e d form.0 forms old) [
        | inl same ↦ inl (subst (Contains (e ∷ es)) same (contains-here e es))
        | inr older ↦ inr older
      ]
    ]

-- What was held is held.
pub all_old : SetLaws → (m : Meaning) (es : List Entry) (d : Entry) → AreWellFormed es → AllByRecursion IsReceipt m.held → IsEntryHeld m d
    → IsEntryHeld (with_entries es m) d
all_old laws m [] d form forms has = has
all_old laws m (e ∷ es) d form forms has =
    all_old laws (with_entry e m) es d form.1 (forms_with laws m e form.0 forms) (holds_old laws m e d form.0 forms has)

-- Each of them is held.
pub all_new : SetLaws → (m : Meaning) (es : List Entry) (d : Entry) → AreWellFormed es → AllByRecursion IsReceipt m.held → Contains es d
    → IsEntryHeld (with_entries es m) d
all_new laws m [] d form forms has = absurd (contains-none d has)
all_new laws m (e ∷ es) d form forms has =
    elim (contains-cases e es d has) [
      | inl same ↦ all_old laws (with_entry e m) es d form.1 (forms_with laws m e form.0 forms)
          (subst (IsEntryHeld (with_entry e m)) (sym same) (holds_new laws m e form.0 forms))
      | inr later ↦ all_new laws (with_entry e m) es d form.1 (forms_with laws m e form.0 forms) later
    ]

pub all_config : (m : Meaning) (es : List Entry) → (with_entries es m).config ≡ m.config
all_config m [] = refl
all_config m (e ∷ es) = all_config (with_entry e m) es ∙ config_same m e

-- What is held fits.
pub fits_held : (m : Meaning) (e : Entry) → IsMeaning m → IsEntryHeld m e → FitsEntry m.config e
fits_held m (Record x) is has = each-from _ m.records is.domains x has
fits_held m (AReceipt r) is has = each-from _ m.held is.fitting r has

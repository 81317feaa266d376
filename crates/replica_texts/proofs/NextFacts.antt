-- What may be at a line's place in a snapshot, and that such a line has no error.
use Rattle.std.proofs.Common.{◌≡◌, ◌≢◌, ℕ, ◌+◌, ◌≤◌, ◌⊎◌, inl, inr, List, [], ◌∷◌, ◌++◌, length, length-append, map, fold, refl, ap, sym, ◌∙◌, subst, arith}
use Rattle.std.proofs.lemmas.Bool.{cases_lt}
use Rattle.std.specs.List.{AllByRecursion}
use Rattle.std.specs.List.Sorted.{IsStrictlySortedBy}
use Rattle.std.specs.declared.cmp.Ordering.TheVariants.{Less}
use Rattle.fed_config.specs.Configuration.{IsConfiguration, HasDomain}
use Rattle.receipt_core.specs.declared.distrust.Distrust.{Distrust}
use Rattle.receipt_core.specs.Order.{receipt_total, distrust_total}
use Rattle.receipt_core.specs.Receipt.{Receipt, IsReceipt, line, IsDistrust, distrust_line}
use Rattle.receipt_core.specs.Acceptance.{IsFitting, Meaning, IsMeaning}
use Rattle.receipt_core.proofs.LineFacts.{one_line, one_record, record_first, distrust_order}
use Rattle.receipt_core.proofs.ReadFacts.{length-line, no_long_record}
use Rattle.closure_core.specs.declared.error.TakeError.{TakeError}
use Rattle.closure_core.specs.declared.error.TakeError.TheVariants.{UnknownDomain, WrongEndpoint, BelowFloor, Full, NoMemory as NoTakeMemory}
use Rattle.closure_core.specs.declared.error.TakeError.TheVariants.{ConfigDiffers as OtherConfig}
use Rattle.replica_texts.specs.Entries.{IsAbove, IsEntry, IsWanted, entry_line}
use Rattle.replica_core.specs.Absorbing.{RefusesEntry}
use Rattle.replica_texts.specs.Snapshots.{FitsFormat, RefusesPlace, held_lines, last_line, wanted_of}
use Rattle.replica_core.specs.declared.entry.Entry.{Entry}
use Rattle.replica_core.specs.declared.entry.Entry.TheVariants.{Record, Receipt as AReceipt}
use Rattle.replica_texts.specs.declared.entry_line.Wanted.TheVariants.{Either}
use Rattle.replica_core.specs.declared.error.SyncError.{SyncError}
use Rattle.replica_core.specs.declared.error.SyncError.TheVariants.{BadHeader, ConfigDiffers, VersionDiffers, NotCanonical, NotRising, BadCount, Truncated}
use Rattle.replica_core.specs.declared.error.SyncError.TheVariants.{Refused, Io, NoMemory}
use Rattle.replica_texts.specs.declared.format.Format.{Format}
use Rattle.replica_texts.specs.declared.format.Format.TheVariants.{First, Second}
use Rattle.replica_core.proofs.RisingListFacts.{all_back, rising_head, rising_tail}
use Rattle.replica_texts.proofs.HeldFacts.{lines_rise, text_cmp}
use Rattle.replica_texts.proofs.OneFacts.{apart}
use Rattle.replica_texts.proofs.CountFacts.{IsThird, no_count, third_line, third_record}
use Rattle.closure_core.proofs.FitFacts.{fits_right, fits_above}
use Rattle.receipt_core.specs.Limits.{receipt_limit, record_limit}

-- ---- one more line of what is held

-- the text is the line of the next record
record IsNextRecord (xs ys : List Distrust) (text : List ℕ) : Type 0 where
  pub it : Distrust
  pub later : List Distrust
  pub more : xs ≡ ys ++ it ∷ later
  pub spelt : text ≡ distrust_line it

-- the text is the line of the next receipt
record IsNextReceipt (rs ss : List Receipt) (text : List ℕ) : Type 0 where
  pub it : Receipt
  pub later : List Receipt
  pub more : rs ≡ ss ++ it ∷ later
  pub spelt : text ≡ line it

-- A line after those of some receipts, among those of more, is the next receipt's.
next_receipt : (rs ss : List Receipt) (text : List ℕ) (later : List (List ℕ)) → AllByRecursion IsReceipt rs → AllByRecursion IsReceipt ss
    → map line rs ≡ map line ss ++ text ∷ later → IsNextReceipt rs ss text
next_receipt [] [] text later p q e = absurd (cc)
next_receipt [] (s ∷ ss) text later p q e = absurd (cc)
next_receipt (r ∷ rs) [] text later p q e = record { it = r; later = rs; more = refl; spelt = cc }
next_receipt (r ∷ rs) (s ∷ ss) text later p q e =
    let head : line r ≡ line s = cc in
    let tail : map line rs ≡ map line ss ++ text ∷ later = cc in
    let rest = next_receipt rs ss text later p.1 q.1 tail in
    record { it = rest.it; later = rest.later; more = (λ i. one_line r s p.0 q.0 head i ∷ rest.more i); spelt = rest.spelt }

-- A line after those of what is held, among those of more, is the next record's or the next
-- receipt's.
next_held : (xs ys : List Distrust) (rs ss : List Receipt) (text : List ℕ) (later : List (List ℕ)) → AllByRecursion IsDistrust xs → AllByRecursion IsDistrust ys
    → AllByRecursion IsReceipt rs → AllByRecursion IsReceipt ss → map distrust_line xs ++ map line rs ≡ (map distrust_line ys ++ map line ss) ++ text ∷ later
    → IsNextRecord xs ys text ⊎ IsNextReceipt rs ss text
next_held [] [] rs ss text later p q h k e = inr (next_receipt rs ss text later h k e)
next_held [] (y ∷ ys) [] ss text later p q h k e = absurd (cc)
next_held [] (y ∷ ys) (r ∷ rs) ss text later p q h k e = absurd (apart y r q.0 h.0 (let head : distrust_line y ≡ line r = cc in head))
next_held (x ∷ xs) [] rs [] text later p q h k e = inl (record { it = x; later = xs; more = refl; spelt = cc })
next_held (x ∷ xs) [] rs (s ∷ ss) text later p q h k e = absurd (apart x s p.0 k.0 (let head : distrust_line x ≡ line s = cc in head))
next_held (x ∷ xs) (y ∷ ys) rs ss text later p q h k e =
    let head : distrust_line x ≡ distrust_line y = cc in
    let tail : map distrust_line xs ++ map line rs ≡ (map distrust_line ys ++ map line ss) ++ text ∷ later = cc in
    elim (next_held xs ys rs ss text later p.1 q.1 h k tail) [
      | inl next ↦ inl (record { it = next.it; later = next.later; more = (λ i. one_record x y p.0 q.0 head i ∷ next.more i); spelt = next.spelt })
      | inr next ↦ inr next
    ]

-- Nothing is wrong with the text as the line after those of the meaning.
record IsGood (format : Format) (m : Meaning) (text : List ℕ) : Type 0 where
  pub entry : Entry
  pub is : IsEntry (wanted_of format) text entry
  pub above : IsAbove (last_line m) text
  pub short : length text ≤ 8388608
  pub third : IsThird text
  pub welcome : (why : TakeError) → why ≢ NoTakeMemory → RefusesEntry m entry why → ⊥

-- An entry that a format has is of either kind.
wider : (format : Format) (entry : Entry) → IsWanted (wanted_of format) entry → IsWanted Either entry
wider First (Record x) h = absurd h
wider First (AReceipt r) h = h
wider Second (Record x) h = h
wider Second (AReceipt r) h = h

-- Entries with one line are one entry.
same_entry : (a b : Entry) → IsWanted Either a → IsWanted Either b → entry_line a ≡ entry_line b → a ≡ b
same_entry (Record x) (Record y) p q e = ap Record (one_record x y p q e)
same_entry (Record x) (AReceipt s) p q e = absurd (apart x s p q e)
same_entry (AReceipt r) (Record y) p q e = absurd (apart y r q p (sym e))
same_entry (AReceipt r) (AReceipt s) p q e = ap AReceipt (one_line r s p q e)

-- A line says one entry.
pub one_entry : (format : Format) (text : List ℕ) (a b : Entry) → IsEntry (wanted_of format) text a → IsEntry (wanted_of format) text b → a ≡ b
one_entry format text a b p q = same_entry a b (wider format a p.is) (wider format b q.is) (sym p.spelt ∙ q.spelt)

-- A good line has no error at its place.
no_fault_of_good : (format : Format) (m : Meaning) (text : List ℕ) (e : SyncError) → IsGood format m text → e ≢ NoMemory → RefusesPlace format m text e → ⊥
no_fault_of_good format m text BadHeader good ample h = h
no_fault_of_good format m text ConfigDiffers good ample h = h
no_fault_of_good format m text VersionDiffers good ample h = h
no_fault_of_good format m text (NotCanonical n) good ample h = elim (h.cause.1) [
  | inl long ↦ let short = good.short in omega (arith, long, short)
  | inr none ↦ none good.entry good.is
]
no_fault_of_good format m text (NotRising n) good ample h = h.cause.1.below good.above
no_fault_of_good format m text BadCount good ample h = no_count text h.count.rest h.count.begins good.third
no_fault_of_good format m text Truncated good ample h = h
no_fault_of_good format m text (Refused n why) good ample h =
    let refused = h.cause.2 in
    good.welcome why h.cause.1 (subst (λ (x : Entry). RefusesEntry m x why)
    (one_entry format text refused.entry good.entry refused.next.is good.is) refused.cause)
no_fault_of_good format m text Io good ample h = h
no_fault_of_good format m text NoMemory good ample h = ample refl

-- ---- a line of what is held is good

-- Each line is above the empty text, which means that no line came before.
pub above_nothing : (entry : Entry) → IsAbove [] (entry_line entry)
unfolding line distrust_line
above_nothing (Record x) = refl
above_nothing (AReceipt r) = refl

-- In lines that rise, each is above the last one before it.
pub last_above : (before text : List ℕ) (xs later : List (List ℕ)) → text_cmp before text ≡ Less → IsStrictlySortedBy text_cmp (xs ++ text ∷ later)
    → text_cmp (fold (λ (l : List ℕ) (line : List ℕ). line) before xs) text ≡ Less
last_above before text [] later h rising = h
last_above before text (x ∷ xs) later h rising =
    last_above x text xs later (all_back (λ y. text_cmp x y ≡ Less) xs (text ∷ later)
    (rising_head text_cmp x (xs ++ text ∷ later) rising)).0 (rising_tail text_cmp x (xs ++ text ∷ later) rising)

-- A line of a meaning is above the last one before it.
rises : (m k : Meaning) (text : List ℕ) (later : List (List ℕ)) → IsMeaning m
    → held_lines m ≡ held_lines k ++ text ∷ later → IsAbove [] text → IsAbove (last_line k) text
rises m k text later valid e above =
    last_above [] text (held_lines k) later above
    (subst (IsStrictlySortedBy text_cmp) e
    (lines_rise receipt_total distrust_total distrust_order record_first m valid))

-- The next record of a meaning is not refused if those before it are held.
welcome_record : (m k : Meaning) (x : Distrust) (later : List Distrust) (why : TakeError) → IsMeaning m
    → k.config ≡ m.config → m.records ≡ k.records ++ x ∷ later → RefusesEntry k (Record x) why → ⊥
welcome_record m k x later UnknownDomain valid same more h =
    h (subst (λ c. HasDomain c x.domain) (sym same)
    (all_back (λ (y : Distrust). HasDomain m.config y.domain) k.records (x ∷ later)
    (subst (AllByRecursion (λ (y : Distrust). HasDomain m.config y.domain)) more valid.domains)).0)
welcome_record m k x later WrongEndpoint valid same more h = h
welcome_record m k x later BelowFloor valid same more h = h
welcome_record m k x later Full valid same more h =
    let longer : length m.records ≡ length k.records + length (x ∷ later) = ap length more ∙ length-append k.records (x ∷ later) in
    let full = h.full in
    let few = valid.few_records in
    omega (arith, longer, full, few, ap record_limit same)
welcome_record m k x later NoTakeMemory valid same more h = h
welcome_record m k x later OtherConfig valid same more h = h

-- The next receipt of a meaning fits.
fits_next : (m k : Meaning) (r : Receipt) (later : List Receipt) → IsMeaning m → k.config ≡ m.config → m.held ≡ k.held ++ r ∷ later → IsFitting k.config r
fits_next m k r later valid same more =
    subst (λ c. IsFitting c r) (sym same) (all_back (IsFitting m.config) k.held (r ∷ later) (subst (AllByRecursion (IsFitting m.config)) more valid.fitting)).0

-- The next receipt of a meaning is refused only for lack of memory.
welcome_receipt : (m k : Meaning) (r : Receipt) (later : List Receipt) (why : TakeError) → IsConfiguration k.config
    → IsMeaning m → k.config ≡ m.config → m.held ≡ k.held ++ r ∷ later → why ≢ NoTakeMemory
    → RefusesEntry k (AReceipt r) why → ⊥
welcome_receipt m k r later UnknownDomain is valid same more ample h = let fits = fits_next m k r later valid same more
    in h fits.relationship fits.has fits.domain
welcome_receipt m k r later WrongEndpoint is valid same more ample h = fits_right k.config r is (fits_next m k r later valid same more) h
welcome_receipt m k r later BelowFloor is valid same more ample h = fits_above k.config r (fits_next m k r later valid same more) h
welcome_receipt m k r later Full is valid same more ample h =
    let longer : length m.held ≡ length k.held + length (r ∷ later) = ap length more ∙ length-append k.held (r ∷ later) in
    let full = h.full in
    let few = valid.few in
    omega (arith, longer, full, few, ap receipt_limit same)
welcome_receipt m k r later NoTakeMemory is valid same more ample h = ample refl
welcome_receipt m k r later OtherConfig is valid same more ample h = h

-- A record's line may be in a format that has records.
wanted_record : (format : Format) (m : Meaning) (ys later : List Distrust) (x : Distrust) → FitsFormat format m
    → m.records ≡ ys ++ x ∷ later → IsDistrust x → IsWanted (wanted_of format) (Record x)
wanted_record First m [] later x fits more is = absurd (cc)
wanted_record First m (y ∷ ys) later x fits more is = absurd (cc)
wanted_record Second m ys later x fits more is = is

-- A receipt's line may be in each format.
wanted_receipt : (format : Format) (r : Receipt) → IsReceipt r → IsWanted (wanted_of format) (AReceipt r)
wanted_receipt First r is = is
wanted_receipt Second r is = is

-- The line of the next record is good.
good_record : (format : Format) (m k : Meaning) (text : List ℕ) (later : List (List ℕ)) → IsMeaning m → FitsFormat format m
    → k.config ≡ m.config → held_lines m ≡ held_lines k ++ text ∷ later
    → IsNextRecord m.records k.records text → IsGood format k text
good_record format m k text later valid fits same e next =
    let is : IsDistrust next.it = (all_back IsDistrust k.records (next.it ∷ next.later) (subst (AllByRecursion IsDistrust) next.more valid.distrusts)).0 in
    record {
      entry = Record next.it;
      is = record { is = wanted_record format m k.records next.later next.it fits next.more is; spelt = next.spelt };
      above = rises m k text later valid e (subst (IsAbove []) (sym next.spelt) (above_nothing (Record next.it)));
      short = elim (cases_lt 346 (length text)) [
        | inl long ↦ absurd (no_long_record text long next.it (record { is = is; text = next.spelt }))
        | inr short ↦ omega (arith, short)
      ];
      third = subst IsThird (sym next.spelt) (third_record next.it);
      welcome = λ why ample. welcome_record m k next.it next.later why valid same next.more;
    }

-- The line of the next receipt is good.
good_receipt : (format : Format) (m k : Meaning) (text : List ℕ) (later : List (List ℕ)) → IsConfiguration k.config
    → IsMeaning m → k.config ≡ m.config → held_lines m ≡ held_lines k ++ text ∷ later
    → IsNextReceipt m.held k.held text → IsGood format k text
good_receipt format m k text later configured valid same e next =
    let is : IsReceipt next.it = (all_back IsReceipt k.held (next.it ∷ next.later) (subst (AllByRecursion IsReceipt) next.more valid.receipts)).0 in
    record {
      entry = AReceipt next.it;
      is = record { is = wanted_receipt format next.it is; spelt = next.spelt };
      above = rises m k text later valid e (subst (IsAbove []) (sym next.spelt) (above_nothing (AReceipt next.it)));
      short = let same_length = ap length next.spelt in let short = length-line next.it is in omega (arith, same_length, short);
      third = subst IsThird (sym next.spelt) (third_line next.it);
      welcome = λ why ample. welcome_receipt m k next.it next.later why configured valid same next.more ample;
    }

-- A line that is held after all those of another meaning has no error there.
pub no_fault_of_held : (format : Format) (m k : Meaning) (text : List ℕ) (later : List (List ℕ)) (e : SyncError)
    → IsConfiguration k.config → IsMeaning m → IsMeaning k → FitsFormat format m → k.config ≡ m.config
    → held_lines m ≡ held_lines k ++ text ∷ later → e ≢ NoMemory → RefusesPlace format k text e → ⊥
no_fault_of_held format m k text later e configured valid other fits same lines ample h =
    elim (next_held m.records k.records m.held k.held text later valid.distrusts other.distrusts valid.receipts other.receipts lines) [
      | inl next ↦ no_fault_of_good format k text e (good_record format m k text later valid fits same lines next) ample h
      | inr next ↦ no_fault_of_good format k text e (good_receipt format m k text later configured valid same lines next) ample h
    ]

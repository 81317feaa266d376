-- The lines of what is new: which items of another set are not in this one, and what they make with
-- it.
use Rattle.std.proofs.Common.{◌≡◌, ℕ, ◌+◌, ◌≤◌, inl, inr, List, [], ◌∷◌, ◌++◌, length, map, flat_map, refl, sym, ap, ◌∙◌, subst, arith}
use Rattle.std.proofs.Common.{◌<◌, drop, drop-cons, add-one, get_or}
use Rattle.std.proofs.Common.{append_assoc, append-nil}
use Rattle.std.specs.declared.cmp.Ordering.{Ordering}
use Rattle.std.specs.declared.cmp.Ordering.TheVariants.{Less}
use Rattle.std.specs.List.{AllByRecursion, Contains}
use Rattle.std.specs.List.Sorted.{IsStrictlySortedBy}
use Rattle.std.proofs.lemmas.Grind.{flat_map-append}
use Rattle.std.proofs.lemmas.List.{length-append, map-append}
use Rattle.receipt_core.specs.declared.distrust.Distrust.{Distrust}
use Rattle.receipt_core.specs.Acceptance.{Meaning, IsMeaning}
use Rattle.receipt_core.specs.Receipt.{Receipt, IsDistrust, IsReceipt, receipt_cmp, distrust_cmp}
use Rattle.receipt_core.specs.Rising.{with_item, with_items}
use Rattle.receipt_core.specs.Sets.{AreSets, Always}
use Rattle.closure_core.specs.Refusals.{all_receipts}
use Rattle.closure_core.proofs.RisingFacts.{each_from, each_has, not_again, with_items_keeps}
use Rattle.closure_core.proofs.UnionFacts.{receipt_sets, record_sets}
use Rattle.replica_core.proofs.RisingListFacts.{rising_cons, rising_head, rising_tail, all_append, all_front, all_back}
use Rattle.replica_core.specs.Absorbing.{of_receipts, of_records, with_entry, with_entries}
use Rattle.replica_core.specs.declared.entry.Entry.{Entry}
use Rattle.replica_core.specs.declared.entry.Entry.TheVariants.{Record, Receipt as AReceipt}
use Rattle.replica_texts.specs.Entries.{entry_line}
use Rattle.replica_texts.specs.SoleLines.{IsWellFormed}
use Rattle.replica_journal.specs.Journal.{entry_text}
use Rattle.jwk_set.specs.declared.authority.KeyId.{KeyId}
use Rattle.distrust_view.specs.declared.given_keys.GivenKeys.{GivenKeys}
use Rattle.fedbundle.specs.Distrust.{records_for}
use Rattle.std.proofs.Common.{Result, Ok, Err, IfOk}
use Rattle.std.specs.declared.alloc.AllocError.{AllocError}
use Rattle.local_answers.specs.declared.new_lines.NewKeys.{NewKeys}
use Rattle.local_answers.specs.Journalling.{AreLinesOfKeys, AreLinesOfOther, HoldsEntry, IsLineIfNew}
use Rattle.local_answers.specs.Inside.NewLineSteps.{AreReceiptLines, AreRecordLines, IsSifted, SiftsKeys, SiftsReceipts, SiftsRecords, keys_left}
use Rattle.receipt_core.specs.Limits.{most_receipts}
use Rattle.receipt_core.proofs.LimitFacts.{receipt_limit-most}

-- ---- lists without one of their items

-- what holds of all items holds of all but one
all_without : {X : Type 0} (P : X → Type 0) (xs ys : List X) (x : X) → AllByRecursion P (xs ++ x ∷ ys) → AllByRecursion P (xs ++ ys)
all_without P xs ys x h = all_append P xs ys (all_front P xs (x ∷ ys) h) (all_back P xs (x ∷ ys) h).1

-- a sorted list is sorted without one of its items
rising_without : {X : Type 0} (cmp : X → X → Ordering) (xs ys : List X) (x : X) → IsStrictlySortedBy cmp (xs ++ x ∷ ys) → IsStrictlySortedBy cmp (xs ++ ys)
rising_without cmp [] ys x h = rising_tail cmp x ys h
rising_without cmp (z ∷ zs) ys x h =
    rising_cons cmp z (zs ++ ys) (all_without (λ y. cmp z y ≡ Less) zs ys x (rising_head cmp z (zs ++ x ∷ ys) h))
    (rising_without cmp zs ys x (rising_tail cmp z (zs ++ x ∷ ys) h))

-- the front of a sorted list is sorted
rising_front : {X : Type 0} (cmp : X → X → Ordering) (xs ys : List X) → IsStrictlySortedBy cmp (xs ++ ys) → ys ≡ [] → IsStrictlySortedBy cmp xs
rising_front cmp xs ys h none = subst (IsStrictlySortedBy cmp) (ap (λ l. xs ++ l) none ∙ append-nil xs) h

-- adding two lists of items is adding one after the other
with_items_append : {X : Type 0} (cmp : X → X → Ordering) (xs ys set : List X) → with_items cmp (xs ++ ys) set ≡ with_items cmp ys (with_items cmp xs set)
with_items_append cmp [] ys set = refl
with_items_append cmp (x ∷ xs) ys set = with_items_append cmp xs ys (with_item cmp x set)

-- ---- which items are new

-- before the first item none is known to be new
pub sift_begin : {X : Type 0} (P : X → Type 0) (cmp : X → X → Ordering) (set all : List X) → IsStrictlySortedBy cmp all → AllByRecursion P all
    → IsSifted P cmp set all all []
sift_begin P cmp set all rising form = record { joined = refl; rising = rising; form = form; fresh = tt }

-- an item of the set is not new
pub sift_held : {X : Type 0} (P Q : X → Type 0) (cmp : X → X → Ordering) → AreSets Q cmp → (set all rest later new : List X) (x : X)
    → IsStrictlySortedBy cmp set → rest ≡ x ∷ later → Contains set x → IsSifted P cmp set all rest new → IsSifted P cmp set all later new
sift_held P Q cmp sets set all rest later new x rising e has sifted =
    let kept : Contains (with_items cmp new set) x = with_items_keeps sets.total new set x has in
    let same : with_item cmp x (with_items cmp new set) ≡ with_items cmp new set =
    sets.present x (with_items cmp new set) (sets.all_rise new set rising) kept in
    let parts : new ++ rest ≡ new ++ x ∷ later = ap (λ l. new ++ l) e in
    record {
      joined = with_items_append cmp new later set ∙ sym (ap (with_items cmp later) same) ∙ sym (with_items_append cmp new (x ∷ later) set)
          ∙ sym (ap (λ l. with_items cmp l set) parts) ∙ sifted.joined;
      rising = rising_without cmp new later x (subst (IsStrictlySortedBy cmp) parts sifted.rising);
      form = all_without P new later x (subst (AllByRecursion P) parts sifted.form);
      fresh = sifted.fresh;
    }

-- an item that is not of the set is new
pub sift_new : {X : Type 0} (P : X → Type 0) (cmp : X → X → Ordering) (set all rest later new : List X) (x : X)
    → rest ≡ x ∷ later → (Contains set x → ⊥) → IsSifted P cmp set all rest new → IsSifted P cmp set all later (new ++ x ∷ [])
sift_new P cmp set all rest later new x e lacks sifted =
    let parts : new ++ rest ≡ (new ++ x ∷ []) ++ later = ap (λ l. new ++ l) e ∙ sym (append_assoc new (x ∷ []) later) in
    record {
      joined = sym (ap (λ l. with_items cmp l set) parts) ∙ sifted.joined;
      rising = subst (IsStrictlySortedBy cmp) parts sifted.rising;
      form = subst (AllByRecursion P) parts sifted.form;
      fresh = all_append (λ y. Contains set y → ⊥) new (x ∷ []) sifted.fresh (lacks, tt);
    }

-- items that are all new make a set longer by their number
new_count : {X : Type 0} (P : X → Type 0) (cmp : X → X → Ordering) → AreSets P cmp → (xs set : List X) → AllByRecursion P xs → AllByRecursion P set
    → IsStrictlySortedBy cmp xs → AllByRecursion (λ x. Contains set x → ⊥) xs → length (with_items cmp xs set) ≡ length set + length xs
new_count P cmp sets [] set form those rising fresh = omega arith
new_count P cmp sets (x ∷ xs) set form those rising fresh =
    let longer : length (with_item cmp x set) ≡ length set + 1 = sets.longer x set form.0 those fresh.0 in
    let later : AllByRecursion (λ y. Contains (with_item cmp x set) y → ⊥) xs =
    each_from (λ y. Contains (with_item cmp x set) y → ⊥) xs (λ y has there. elim ((sets.members x y set form.0 those).0 there) [
      | inl same ↦ not_again sets.total x xs (rising_head cmp x xs rising) (subst (Contains xs) (sym same) has)
      | inr old ↦ each_has (λ z. Contains set z → ⊥) xs y fresh.1 has old
    ]) in
    let rest : length (with_items cmp xs (with_item cmp x set)) ≡ length (with_item cmp x set) + length xs =
    new_count P cmp sets xs (with_item cmp x set) form.1 (sets.keeps x set form.0 those) (rising_tail cmp x xs rising) later in
    omega arith

-- ---- their lines

-- the lines with that of one more
lines_more : {X : Type 0} (entry : X → Entry) (new : List X) (x : X) (text line more : List ℕ) → text ≡ flat_map entry_text (map entry new)
    → line ≡ entry_text (entry x) → more ≡ text ++ line → more ≡ flat_map entry_text (map entry (new ++ x ∷ []))
lines_more entry new x text line more e f g =
    g ∙ (λ i. e i ++ f i) ∙ ap (λ l. flat_map entry_text (map entry new) ++ l) (sym (append-nil (entry_text (entry x))))
    ∙ sym (flat_map-append entry_text (map entry new) (map entry (x ∷ [])))
    ∙ sym (ap (flat_map entry_text) (map-append entry new (x ∷ [])))

-- before the first receipt
pub receipts_begin : (m other : Meaning) (all : List Receipt) (text : List ℕ) → IsMeaning other → all ≡ other.held → text ≡ []
    → SiftsReceipts m all all text 0
receipts_begin m other all text is e none =
    let few : 0 + length all ≤ most_receipts = omega (arith, ap length e, is.few, receipt_limit-most other.config) in
    record {
      new = [];
      sifted = sift_begin IsReceipt receipt_cmp m.held all (subst (IsStrictlySortedBy receipt_cmp) (sym e) is.rising)
          (subst (AllByRecursion IsReceipt) (sym e) is.receipts);
      spelt = none;
      counted = refl;
      few = few;
    }

-- a receipt that is held has no line
pub receipt_held : (m : Meaning) (all rest later : List Receipt) (r : Receipt) (text : List ℕ) (count : ℕ) → IsStrictlySortedBy receipt_cmp m.held
    → SiftsReceipts m all rest text count → rest ≡ r ∷ later → Contains m.held r → SiftsReceipts m all later text count
receipt_held m all rest later r text count rising so_far e has =
    let size = ap length e in
    let few = so_far.few in
    record {
      new = so_far.new;
      sifted = sift_held IsReceipt IsReceipt receipt_cmp receipt_sets m.held all rest later so_far.new r rising e has so_far.sifted;
      spelt = so_far.spelt;
      counted = so_far.counted;
      few = omega arith;
    }

-- a receipt that is not held has one
pub receipt_new : (m : Meaning) (all rest later : List Receipt) (r : Receipt) (text line more : List ℕ) (count : ℕ)
    → SiftsReceipts m all rest text count → rest ≡ r ∷ later → (Contains m.held r → ⊥) → line ≡ entry_text (AReceipt r) → more ≡ text ++ line
    → SiftsReceipts m all later more (count + 1)
receipt_new m all rest later r text line more count so_far e lacks is grown =
    let size = ap length e in
    let few = so_far.few in
    let counted = so_far.counted in
    record {
      new = so_far.new ++ r ∷ [];
      sifted = sift_new IsReceipt receipt_cmp m.held all rest later so_far.new r e lacks so_far.sifted;
      spelt = lines_more AReceipt so_far.new r text line more so_far.spelt is grown;
      counted = omega (arith, length-append so_far.new (r ∷ []));
      few = omega arith;
    }

-- when nothing is left
pub receipts_end : (m other : Meaning) (rest : List Receipt) (text : List ℕ) (count : ℕ) → IsMeaning m
    → SiftsReceipts m other.held rest text count → rest ≡ [] → AreReceiptLines m other text count
receipts_end m other rest text count is so_far e =
    let new = so_far.new in
    let sifted = so_far.sifted in
    let form = all_front IsReceipt new rest sifted.form in
    let all : with_items receipt_cmp new m.held ≡ all_receipts m other =
    sym (ap (λ l. with_items receipt_cmp l m.held) (ap (λ l. new ++ l) e ∙ append-nil new)) ∙ sifted.joined in
    let size = new_count IsReceipt receipt_cmp receipt_sets new m.held form is.receipts (rising_front receipt_cmp new rest sifted.rising e) sifted.fresh in
    record {
      new = new;
      form = form;
      fresh = sifted.fresh;
      spelt = so_far.spelt;
      all = all;
      counted = sym (ap length all) ∙ size ∙ ap (λ n. length m.held + n) (sym so_far.counted);
    }

-- before the first record
pub records_begin : (m other : Meaning) (all : List Distrust) (text : List ℕ) → IsMeaning other → all ≡ other.records → text ≡ []
    → SiftsRecords m all all text
records_begin m other all text is e none = record {
  new = [];
  sifted = sift_begin IsDistrust distrust_cmp m.records all (subst (IsStrictlySortedBy distrust_cmp) (sym e) is.records_rising)
      (subst (AllByRecursion IsDistrust) (sym e) is.distrusts);
  spelt = none;
}

-- a record that is held has no line
pub record_held : (m : Meaning) (all rest later : List Distrust) (x : Distrust) (text : List ℕ) → IsStrictlySortedBy distrust_cmp m.records
    → SiftsRecords m all rest text → rest ≡ x ∷ later → Contains m.records x → SiftsRecords m all later text
record_held m all rest later x text rising so_far e has = record {
  new = so_far.new;
  sifted = sift_held IsDistrust Always distrust_cmp record_sets m.records all rest later so_far.new x rising e has so_far.sifted;
  spelt = so_far.spelt;
}

-- a record that is not held has one
pub record_new : (m : Meaning) (all rest later : List Distrust) (x : Distrust) (text line more : List ℕ)
    → SiftsRecords m all rest text → rest ≡ x ∷ later → (Contains m.records x → ⊥) → line ≡ entry_text (Record x) → more ≡ text ++ line
    → SiftsRecords m all later more
record_new m all rest later x text line more so_far e lacks is grown = record {
  new = so_far.new ++ x ∷ [];
  sifted = sift_new IsDistrust distrust_cmp m.records all rest later so_far.new x e lacks so_far.sifted;
  spelt = lines_more Record so_far.new x text line more so_far.spelt is grown;
}

-- when nothing is left
pub records_end : (m other : Meaning) (rest : List Distrust) (text : List ℕ) → SiftsRecords m other.records rest text → rest ≡ [] → AreRecordLines m other text
records_end m other rest text so_far e = record {
  new = so_far.new;
  form = all_front IsDistrust so_far.new rest so_far.sifted.form;
  fresh = so_far.sifted.fresh;
  spelt = so_far.spelt;
  all = sym (ap (λ l. with_items distrust_cmp l m.records) (ap (λ l. so_far.new ++ l) e ∙ append-nil so_far.new)) ∙ so_far.sifted.joined;
}

-- ---- both together

-- entries taken one after another
entries_append : (xs ys : List Entry) (m : Meaning) → with_entries (xs ++ ys) m ≡ with_entries ys (with_entries xs m)
entries_append [] ys m = refl
entries_append (x ∷ xs) ys m = entries_append xs ys (with_entry x m)

-- receipts taken one after another
entries_receipts : (rs : List Receipt) (m : Meaning) → with_entries (of_receipts rs) m ≡ record m { held = with_items receipt_cmp rs m.held }
entries_receipts [] m = refl
entries_receipts (r ∷ rs) m = entries_receipts rs (with_entry (AReceipt r) m)

-- records taken one after another
entries_records : (xs : List Distrust) (m : Meaning) → with_entries (of_records xs) m ≡ record m { records = with_items distrust_cmp xs m.records }
entries_records [] m = refl
entries_records (x ∷ xs) m = entries_records xs (with_entry (Record x) m)

-- what is so of each receipt is so of each as an entry
all_receipt_entries : (P : Entry → Type 0) (rs : List Receipt) → AllByRecursion (λ r. P (AReceipt r)) rs → AllByRecursion P (of_receipts rs)
all_receipt_entries P [] h = tt
all_receipt_entries P (r ∷ rs) h = (h.0, all_receipt_entries P rs h.1)

all_record_entries : (P : Entry → Type 0) (xs : List Distrust) → AllByRecursion (λ x. P (Record x)) xs → AllByRecursion P (of_records xs)
all_record_entries P [] h = tt
all_record_entries P (x ∷ xs) h = (h.0, all_record_entries P xs h.1)

-- what the other holds and m does not, with m, is the union
pub other_lines : (m other : Meaning) (front back text : List ℕ) (count : ℕ) → AreReceiptLines m other front count → AreRecordLines m other back
    → text ≡ front ++ back → AreLinesOfOther m other text count
other_lines m other front back text count rs xs e = record {
  entries = of_receipts rs.new ++ of_records xs.new;
  lines = record {
    each = all_append IsWellFormed (of_receipts rs.new) (of_records xs.new) (all_receipt_entries IsWellFormed rs.new rs.form)
        (all_record_entries IsWellFormed xs.new xs.form);
    fresh = all_append (λ e. HoldsEntry m e → ⊥) (of_receipts rs.new) (of_records xs.new)
        (all_receipt_entries (λ e. HoldsEntry m e → ⊥) rs.new rs.fresh) (all_record_entries (λ e. HoldsEntry m e → ⊥) xs.new xs.fresh);
    spelt = e ∙ (λ i. rs.spelt i ++ xs.spelt i) ∙ sym (flat_map-append entry_text (of_receipts rs.new) (of_records xs.new));
  };
  union = entries_append (of_receipts rs.new) (of_records xs.new) m ∙ ap (with_entries (of_records xs.new)) (entries_receipts rs.new m)
      ∙ entries_records xs.new (record m { held = with_items receipt_cmp rs.new m.held })
      ∙ (λ i. record { config = m.config; held = rs.all i; records = xs.all i });
  count = rs.counted;
}

-- ---- one entry

-- the line of an entry that is not held
pub line_new : (m : Meaning) (entry : Entry) (text : List ℕ) → IsWellFormed entry → (HoldsEntry m entry → ⊥) → text ≡ entry_text entry
    → IsLineIfNew m entry text
line_new m entry text form lacks is = record {
  whole = inr is;
  entries = entry ∷ [];
  lines = record { each = (form, tt); fresh = (lacks, tt); spelt = is ∙ sym (append-nil (entry_text entry)) };
  meaning = refl;
}

-- none, if it is held
pub line_held : (m : Meaning) (entry : Entry) (text : List ℕ) → IsMeaning m → HoldsEntry m entry → text ≡ [] → IsLineIfNew m entry text
line_held m (AReceipt r) text is has none = record {
  whole = inl none;
  entries = [];
  lines = record { each = tt; fresh = tt; spelt = none };
  meaning = sym (ap (λ l. record m { held = l }) (receipt_sets.present r m.held is.rising has));
}
line_held m (Record x) text is has none = record {
  whole = inl none;
  entries = [];
  lines = record { each = tt; fresh = tt; spelt = none };
  meaning = sym (ap (λ l. record m { records = l }) (record_sets.present x m.records is.records_rising has));
}

-- ---- no lines

some_bytes : (line rest : List ℕ) → [] ≡ (line ++ 10 ∷ []) ++ rest → ⊥
some_bytes [] rest e = cc
some_bytes (b ∷ line) rest e = cc

pub no_entries : (entries : List Entry) → [] ≡ flat_map entry_text entries → entries ≡ []
no_entries [] e = refl
no_entries (entry ∷ entries) e = absurd (some_bytes (entry_line entry) (flat_map entry_text entries) e)

-- ---- the records for keys

-- the rest of a list begins with the next item
pub next_left : {X : Type 0} (xs : List X) (k : ℕ) (x : X) → k < length xs → x ≡ get_or xs k x → drop k xs ≡ x ∷ drop (k + 1) xs
next_left xs k x low is = drop-cons xs k x low ∙ (λ i. sym is i ∷ drop (sym (add-one k) i) xs)

-- a key that is distrusted has no line
pub key_held : (m : Meaning) (domain : List ℕ) (all rest later : List KeyId) (key : KeyId) (text : List ℕ) (new : List KeyId)
    → IsMeaning m → rest ≡ key ∷ later → Contains m.records (record { domain = domain; key = key })
    → SiftsKeys m (keys_left domain all rest) text new → SiftsKeys m (keys_left domain all later) text new
key_held m domain all rest later key text new is e has so_far =
    let x : Distrust = record { domain = domain; key = key } in
    let front = records_for domain new in
    let kept : Contains (with_items distrust_cmp front m.records) x = with_items_keeps record_sets.total front m.records x has in
    let same : with_item distrust_cmp x (with_items distrust_cmp front m.records) ≡ with_items distrust_cmp front m.records =
    record_sets.present x (with_items distrust_cmp front m.records) (record_sets.all_rise front m.records is.records_rising) kept in
    let split : (ks : List KeyId) → with_items distrust_cmp (records_for domain (new ++ ks)) m.records
    ≡ with_items distrust_cmp (records_for domain ks) (with_items distrust_cmp front m.records) =
    λ ks. ap (λ l. with_items distrust_cmp l m.records) (map-append (λ (k : KeyId). record { domain = domain; key = k }) new ks)
    ∙ with_items_append distrust_cmp front (records_for domain ks) m.records in
    record {
      joined = split later ∙ sym (ap (with_items distrust_cmp (records_for domain later)) same) ∙ sym (split (key ∷ later))
          ∙ sym (ap (λ (ks : List KeyId). with_items distrust_cmp (records_for domain (new ++ ks)) m.records) e) ∙ so_far.joined;
      lines = so_far.lines;
    }

-- when nothing is left
keys_end : (m : Meaning) (given : GivenKeys) (text : List ℕ) (new : List KeyId)
    → SiftsKeys m (keys_left given.domain given.keys.items []) text new → AreLinesOfKeys m given text new
keys_end m given text new so_far = record {
  lines = so_far.lines;
  all = entries_records (records_for given.domain new) m
      ∙ ap (λ (l : List Distrust). record m { records = l }) (
      sym (ap (λ (ks : List KeyId). with_items distrust_cmp (records_for given.domain ks) m.records) (append-nil new)) ∙ so_far.joined
      );
}

-- the same for what a call gives
pub lines_ended : (m : Meaning) (given : GivenKeys) (all : List KeyId) (result : Result NewKeys AllocError) → all ≡ given.keys.items
    → IfOk result (λ new. SiftsKeys m (keys_left given.domain all []) new.text.items new.keys.items)
    → IfOk result (λ new. AreLinesOfKeys m given new.text.items new.keys.items)
lines_ended m given all (Ok new) is so_far = keys_end m given new.text.items new.keys.items
    (subst (λ (ks : List KeyId). SiftsKeys m (keys_left given.domain ks []) new.text.items new.keys.items) is so_far)
lines_ended m given all (Err e) is so_far = tt

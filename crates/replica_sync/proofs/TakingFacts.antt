-- The lines of an answer, taken one by one.
use Rattle.std.proofs.Common.{◌≡◌, ℕ, ◌+◌, List, [], ◌∷◌, ◌++◌, length, refl, sym, ap, ◌∙◌, subst, arith, length-append}
use Rattle.std.specs.List.Sorted.{IsStrictlySortedBy}
use Rattle.receipt_core.specs.Receipt.{IsReceipt, IsDistrust}
use Rattle.replica_core.specs.State.{State, no_state}
use Rattle.replica_core.proofs.RisingListFacts.{rising_nil}
use Rattle.replica_texts.specs.Snapshots.{last_of}
use Rattle.replica_texts.specs.Entries.{IsNextEntry, IsWanted}
use Rattle.replica_core.specs.declared.entry.Entry.{Entry}
use Rattle.replica_core.specs.declared.entry.Entry.TheVariants.{Record, Receipt as AReceipt}
use Rattle.replica_texts.specs.declared.entry_line.Wanted.{Wanted}
use Rattle.replica_texts.specs.declared.entry_line.Wanted.TheVariants.{Records, Receipts, Either}
use Rattle.replica_texts.proofs.HeldFacts.{text_cmp, last_pushed}
use Rattle.replica_texts.specs.Gives.{content_lines, IsBegun, IsContent, Wants}
use Rattle.replica_texts.specs.Inside.Gathering.{pushed}
use Rattle.replica_sync.specs.Inside.NextLines.{IsNextOf}
use Rattle.replica_texts.proofs.ContentFacts.{HasPlace, all_pushed, lines_pushed, rising_pushed}

-- ---- this much of an answer

-- The line that comes next by the numbers is the one that is wanted.
pub wants : (wanted : Wanted) (count distrusts : ℕ) (content : State) (receipts records receipts_then records_then : ℕ)
    → IsNextOf receipts records wanted receipts_then records_then
    → length content.held + receipts ≡ count → length content.records + records ≡ distrusts → Wants count distrusts content wanted
wants Records count distrusts content receipts records receipts_then records_then h p q = let one = h.0 in omega arith
wants Receipts count distrusts content receipts records receipts_then records_then h p q = let none = h.0 in let one = h.2 in (omega arith, omega arith)
wants Either count distrusts content receipts records receipts_then records_then h p q = absurd h

-- An entry that is wanted may come next.
has_place : (wanted : Wanted) (entry : Entry) (count distrusts : ℕ) (content : State) → IsWanted wanted entry
    → IsBegun count distrusts content → Wants count distrusts content wanted → HasPlace entry content
has_place Records (Record x) count distrusts content is begun w = begun.order w
has_place Records (AReceipt r) count distrusts content is begun w = absurd is
has_place Receipts (Record x) count distrusts content is begun w = absurd is
has_place Receipts (AReceipt r) count distrusts content is begun w = tt
has_place Either entry count distrusts content is begun w = absurd w

-- Receipts and records of their form, with one more that is wanted, are of their form.
valid_pushed : (wanted : Wanted) (entry : Entry) (content : State) → IsWanted wanted entry → IsContent content → IsContent (pushed entry content)
valid_pushed Records (Record x) content is valid = record { receipts = valid.receipts; records = all_pushed IsDistrust content.records x valid.records is }
valid_pushed Records (AReceipt r) content is valid = absurd is
valid_pushed Receipts (Record x) content is valid = absurd is
valid_pushed Receipts (AReceipt r) content is valid = record { receipts = all_pushed IsReceipt content.held r valid.receipts is; records = valid.records }
valid_pushed Either (Record x) content is valid = record { receipts = valid.receipts; records = all_pushed IsDistrust content.records x valid.records is }
valid_pushed Either (AReceipt r) content is valid = record { receipts = all_pushed IsReceipt content.held r valid.receipts is; records = valid.records }

-- With one entry more that is wanted it is still a beginning of the answer.
begun_pushed : (wanted : Wanted) (entry : Entry) (count distrusts : ℕ) (content : State) → IsWanted wanted entry
    → IsBegun count distrusts content → Wants count distrusts content wanted
    → IsStrictlySortedBy text_cmp (content_lines (pushed entry content)) → IsBegun count distrusts (pushed entry content)
begun_pushed Records (Record x) count distrusts content is begun w rising =
    let longer = length-append content.records (x ∷ []) in
    record {
      valid = valid_pushed Records (Record x) content is begun.valid;
      records = omega (arith, longer);
      receipts = begun.receipts;
      order = λ fewer. begun.order w;
      rising = rising;
    }
begun_pushed Records (AReceipt r) count distrusts content is begun w rising = absurd is
begun_pushed Receipts (Record x) count distrusts content is begun w rising = absurd is
begun_pushed Receipts (AReceipt r) count distrusts content is begun w rising =
    let longer = length-append content.held (r ∷ []) in
    let whole = w.0 in
    let room = w.1 in
    record {
      valid = valid_pushed Receipts (AReceipt r) content is begun.valid;
      records = begun.records;
      receipts = omega (arith, longer);
      order = λ fewer. absurd (omega arith);
      rising = rising;
    }
begun_pushed Either entry count distrusts content is begun w rising = absurd w

-- how many are still to come
pub record Counted (content : State) (entry : Entry) (receipts records receipts_then records_then : ℕ) : Type 0 where
  pub held : length (pushed entry content).held + receipts_then ≡ length content.held + receipts
  pub records_held : length (pushed entry content).records + records_then ≡ length content.records + records
  pub one_more : length (pushed entry content).records + length (pushed entry content).held ≡ length content.records + length content.held + 1

-- One line more is one fewer to come.
counted : (wanted : Wanted) (entry : Entry) (content : State) (receipts records receipts_then records_then : ℕ)
    → IsWanted wanted entry → IsNextOf receipts records wanted receipts_then records_then
    → Counted content entry receipts records receipts_then records_then
counted Records (Record x) content receipts records receipts_then records_then is h =
    let longer = length-append content.records (x ∷ []) in
    let one = h.0 in
    let same = h.1 in
    record { held = omega arith; records_held = omega (arith, longer); one_more = omega (arith, longer) }
counted Records (AReceipt r) content receipts records receipts_then records_then is h = absurd is
counted Receipts (Record x) content receipts records receipts_then records_then is h = absurd is
counted Receipts (AReceipt r) content receipts records receipts_then records_then is h =
    let longer = length-append content.held (r ∷ []) in
    let none = h.0 in
    let still = h.1 in
    let one = h.2 in
    record { held = omega (arith, longer); records_held = omega arith; one_more = omega (arith, longer) }
counted Either entry content receipts records receipts_then records_then is h = absurd h

-- Nothing is a beginning of every answer.
pub begun_none : (count distrusts : ℕ) → IsBegun count distrusts no_state
begun_none count distrusts = record {
  valid = record { receipts = tt; records = tt };
  records = omega arith;
  receipts = omega arith;
  order = λ h. refl;
  rising = rising_nil text_cmp;
}

-- what one line more makes of a beginning of an answer
pub record BegunMore (count distrusts : ℕ) (content : State) (receipts_then records_then : ℕ) (text : List ℕ) (entry : Entry) : Type 0 where
  pub begun : IsBegun count distrusts (pushed entry content)
  pub place : HasPlace entry content
  pub lines : content_lines (pushed entry content) ≡ content_lines content ++ text ∷ []
  pub last : text ≡ last_of (content_lines (pushed entry content))
  pub receipts_due : length (pushed entry content).held + receipts_then ≡ count
  pub records_due : length (pushed entry content).records + records_then ≡ distrusts
  pub one_more : length (pushed entry content).records + length (pushed entry content).held ≡ length content.records + length content.held + 1

-- The next line makes the beginning longer by what it says.
pub begun_more : (wanted : Wanted) (count distrusts : ℕ) (content : State) (receipts records receipts_then records_then : ℕ) (text : List ℕ) (entry : Entry)
    → IsBegun count distrusts content → length content.held + receipts ≡ count → length content.records + records ≡ distrusts
    → IsNextOf receipts records wanted receipts_then records_then → IsNextEntry wanted (last_of (content_lines content)) text entry
    → BegunMore count distrusts content receipts_then records_then text entry
begun_more wanted count distrusts content receipts records receipts_then records_then text entry begun due records_due order next =
    let w = wants wanted count distrusts content receipts records receipts_then records_then order due records_due in
    let place = has_place wanted entry count distrusts content next.is.is begun w in
    let lines : content_lines (pushed entry content) ≡ content_lines content ++ text ∷ [] =
    lines_pushed entry content place ∙ ap (λ (l : List ℕ). content_lines content ++ l ∷ []) (sym next.is.spelt) in
    let rising : IsStrictlySortedBy text_cmp (content_lines (pushed entry content)) =
    subst (IsStrictlySortedBy text_cmp) (sym lines) (rising_pushed (content_lines content) text begun.rising next.above) in
    let c = counted wanted entry content receipts records receipts_then records_then next.is.is order in
    record {
      begun = begun_pushed wanted entry count distrusts content next.is.is begun w rising;
      place = place;
      lines = lines;
      last = sym (ap last_of lines ∙ last_pushed (content_lines content) text);
      receipts_due = c.held ∙ due;
      records_due = c.records_held ∙ records_due;
      one_more = c.one_more;
    }

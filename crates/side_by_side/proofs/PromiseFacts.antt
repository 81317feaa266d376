-- What is held after all that came.
use Rattle.std.proofs.Common.{◌≡◌, ◌⊎◌, inl, inr, List, [], ◌∷◌, ◌++◌, ℕ, map, sym, ap, ◌∙◌, subst, arith}
use Rattle.std.specs.Prelude.{Contains}
use Rattle.std.specs.declared.cmp.Ordering.{Ordering}
use Rattle.std.specs.declared.cmp.Ordering.TheVariants.{Less, Equal}
use Rattle.std.specs.Cmp.{IsTotalOrder, tied_itself}
use Rattle.std.specs.List.Sorted.{IsStrictlySortedBy}
use Rattle.std.proofs.lemmas.List.Elements.{Contains-append_left, Contains-append_right, Contains-append_cases}
use Rattle.fed_config.specs.Configuration.{Configuration}
use Rattle.receipt_core.specs.Receipt.{receipt_cmp, distrust_cmp}
use Rattle.receipt_core.specs.Acceptance.{Meaning, IsMeaning}
use Rattle.receipt_core.specs.Limits.{receipt_limit, record_limit}
use Rattle.closure_core.specs.Count.{AreDifferent}
use Rattle.closure_core.proofs.CountFacts.{no_longer}
use Rattle.replica_core.specs.Absorbing.{with_entries}
use Rattle.replica_core.specs.declared.entry.Entry.{Entry}
use Rattle.replica_core.specs.declared.entry.Entry.TheVariants.{Record, Receipt as AReceipt}
use Rattle.replica_core.proofs.ContainsFacts.{each-from, map-from, map-to}
use Rattle.replica_core.proofs.RisingListFacts.{rising_head, rising_tail}
use Rattle.replica_texts.specs.Entries.{entry_line}
use Rattle.replica_texts.specs.SoleLines.{IsWellFormed}
use Rattle.replica_journal.specs.Journal.{AreWellFormed}
use Rattle.side_by_side.specs.Offering.{FitsEntry, IsEntryHeld, IsFullFor}
use Rattle.side_by_side.specs.Promise.{AddsFitting, LinesSay}
use Rattle.side_by_side.proofs.EntryFacts.{SetLaws, all_cases, all_old, all_new, all_config, fits_held, one_entry}

-- ---- what is full

-- Items that rise are different.
different : {A : Type 0} (cmp : A → A → Ordering) → IsTotalOrder cmp → (xs : List A) → IsStrictlySortedBy cmp xs → AreDifferent xs
different cmp total [] rising = tt
different cmp total (x ∷ xs) rising = (
  λ has.
      let less : cmp x x ≡ Less = each-from (λ y. cmp x y ≡ Less) xs (rising_head cmp x xs rising) x has in
      let equal : cmp x x ≡ Equal = tied_itself total x in
      absurd (let both : Less ≡ Equal = sym less ∙ equal in cc),
  different cmp total xs (rising_tail cmp x xs rising),
)

-- What is full is full if no less is held.
full_more : SetLaws → (now new : Meaning) (e : Entry) → IsMeaning now → new.config ≡ now.config
    → ((d : Entry) → IsEntryHeld now d → IsEntryHeld new d) → IsFullFor now e → IsFullFor new e
full_more laws now new (Record x) is config keeps full =
    let few = no_longer now.records new.records (different distrust_cmp laws.records.total now.records is.records_rising) (λ y has. keeps (Record y) has) in
    let limit = ap record_limit config in
    omega (arith, few, limit, full)
full_more laws now new (AReceipt r) is config keeps full =
    let few = no_longer now.held new.held (different receipt_cmp laws.receipts.total now.held is.rising) (λ s has. keeps (AReceipt s) has) in
    let limit = ap receipt_limit config in
    omega (arith, few, limit, full)

-- ---- the laws

-- The lines of entries say them.
said_of : (entries : List Entry) (e : Entry) → AreWellFormed entries → Contains entries e → LinesSay (map entry_line entries) e
said_of entries e form has = record { form = each-from IsWellFormed entries form e has; line = map-to entry_line entries e has }

-- They say nothing else.
of_said : (entries : List Entry) (e : Entry) → AreWellFormed entries → LinesSay (map entry_line entries) e → Contains entries e
of_said entries e form says =
    let from = map-from entry_line entries (entry_line e) says.line in
    subst (Contains entries) (one_entry from.0 e (each-from IsWellFormed entries form from.0 from.1) says.form from.2) from.1

-- The law `own`.
pub own_law : SetLaws → (old new : Meaning) (entries : List Entry) → IsMeaning old → IsMeaning new → AreWellFormed entries
    → new ≡ with_entries entries old → AddsFitting old (LinesSay (map entry_line entries)) new
own_law laws old new entries is valid form same =
    let config : new.config ≡ old.config = ap (λ (m : Meaning). m.config) same ∙ all_config old entries in
    record {
      only = record {
        config = config;
        keeps = λ e has. subst (λ (m : Meaning). IsEntryHeld m e) (sym same) (all_old laws old entries e form is.receipts has);
        only = λ e has. elim (all_cases laws old entries e form is.receipts (subst (λ (m : Meaning). IsEntryHeld m e) same has)) [
          | inl came ↦ inr (said_of entries e form came, subst (λ (c : Configuration). FitsEntry c e) config (fits_held new e valid has))
          | inr before ↦ inl before
        ];
      };
      all = λ e says fits. inl (subst (λ (m : Meaning). IsEntryHeld m e) (sym same)
          (all_new laws old entries e form is.receipts (of_said entries e form says)));
    }

-- What is said by the first lines or by the later ones is said by both together.
said_both : (first later : List (List ℕ)) (e : Entry) → LinesSay first e ⊎ LinesSay later e → LinesSay (first ++ later) e
said_both first later e came = elim came [
  | inl says ↦ record { form = says.form; line = Contains-append_left first later (entry_line e) says.line }
  | inr says ↦ record { form = says.form; line = Contains-append_right first later (entry_line e) says.line }
]

both_said : (first later : List (List ℕ)) (e : Entry) → LinesSay (first ++ later) e → LinesSay first e ⊎ LinesSay later e
both_said first later e says = elim (Contains-append_cases first later (entry_line e) says.line) [
  | inl has ↦ inl (record { form = says.form; line = has })
  | inr has ↦ inr (record { form = says.form; line = has })
]

-- The law `both`.
pub both_law : SetLaws → (old now new : Meaning) (first later : List (List ℕ)) → IsMeaning now → AddsFitting old (LinesSay first) now
    → AddsFitting now (LinesSay later) new → AddsFitting old (LinesSay (first ++ later)) new
both_law laws old now new first later is p q = record {
  only = record {
    config = q.only.config ∙ p.only.config;
    keeps = λ e has. q.only.keeps e (p.only.keeps e has);
    only = λ e has. elim (q.only.only e has) [
      | inl before ↦ elim (p.only.only e before) [
        | inl older ↦ inl older
        | inr came ↦ inr (said_both first later e (inl came.0), came.1)
      ]
      | inr came ↦ inr (said_both first later e (inr came.0), subst (λ (c : Configuration). FitsEntry c e) p.only.config came.1)
    ];
  };
  all = λ e says fits. elim (both_said first later e says) [
    | inl came ↦ elim (p.all e came fits) [
      | inl has ↦ inl (q.only.keeps e has)
      | inr full ↦ inr (full_more laws now new e is q.only.config q.only.keeps full)
    ]
    | inr came ↦ q.all e came (subst (λ (c : Configuration). FitsEntry c e) (sym p.only.config) fits)
  ];
}

-- What is held after one more receipt, and after more records of distrust
use Rattle.std.proofs.Common.{◌≡◌, ℕ, ◌+◌, inl, inr, List, [], ◌∷◌, ◌++◌, length, map, Some, sym, ap, ◌∙◌, subst}
use Rattle.std.specs.Prelude.{Contains, slice_get, ◌↔◌}
use Rattle.std.specs.List.{AllByRecursion}
use Rattle.std.proofs.lemmas.List.{append_assoc, map_push, length-map}
use Rattle.std.proofs.lemmas.List.Elements.{Contains-append_left, Contains-push, Contains-push_cases}
use Rattle.fed_config.specs.declared.seed.Seed.{Seed}
use Rattle.receipt_core.specs.declared.distrust.Distrust.{Distrust}
use Rattle.receipt_core.specs.Receipt.{Receipt, pair_of, IsReceipt, receipt_cmp, with_receipt, distrust_cmp}
use Rattle.receipt_core.specs.Rising.{with_items}
use Rattle.receipt_core.specs.Order.{receipt_total, distrust_total}
use Rattle.receipt_core.specs.Sets.{AreSets, Always}
use Rattle.receipt_core.specs.Acceptance.{Meaning, IsMeaning, pair_of_seed}
use Rattle.receipt_core.proofs.LineFacts.{one_receipt, one_distrust}
use Rattle.receipt_core.proofs.RisingFacts.{AreSets-from_total}
use Rattle.closure_core.specs.Inside.Nodes.{pairs_of}
use Rattle.closure_parts.specs.Held.{HeldReceipts, meaning_of, HasAdded, IsBefore}
use Rattle.closure_parts.specs.Merge.{AreOld}
use Rattle.closure_parts.proofs.PlaceFacts.{slice_get-left, slice_get-right, slice_get-map_at}

-- One more receipt has its pair last.
pub pairs-push : (seeds : List Seed) (arrived : List Receipt) (r : Receipt) → pairs_of seeds (arrived ++ r ∷ []) ≡ pairs_of seeds arrived ++ pair_of r ∷ []
pairs-push seeds arrived r = ap (λ ps. map pair_of_seed seeds ++ ps) (map_push pair_of arrived r)
    ∙ sym (append_assoc (map pair_of_seed seeds) (map pair_of arrived) (pair_of r ∷ []))

module _ (seeds : List Seed) (arrivals : List Receipt) where
  -- A configured document is at its own number.
  pub pair-of_seed_node : (n : ℕ) (s : Seed) → slice_get seeds n ≡ Some s → slice_get (pairs_of seeds arrivals) n ≡ Some (pair_of_seed s)
  pair-of_seed_node n s at = slice_get-left (map pair_of_seed seeds) (map pair_of arrivals) n (pair_of_seed s) (slice_get-map_at pair_of_seed seeds n s at)

  -- A receipt's document comes after the configured ones, in order of arrival.
  pub pair-of_receipt_node : (k : ℕ) (r : Receipt) → slice_get arrivals k ≡ Some r → slice_get (pairs_of seeds arrivals) (length seeds + k) ≡ Some (pair_of r)
  pair-of_receipt_node k r at =
      ap (λ n. slice_get (pairs_of seeds arrivals) (n + k)) (sym (length-map seeds pair_of_seed))
      ∙ slice_get-right (map pair_of_seed seeds) (map pair_of arrivals) k
      ∙ slice_get-map_at pair_of arrivals k r at

-- Receipts of their form make sets: the order of lines distinguishes them.
receipt-sets : AreSets IsReceipt receipt_cmp
receipt-sets = AreSets-from_total IsReceipt receipt_cmp receipt_total one_receipt

-- Records of distrust make sets: their order distinguishes any two.
pub distrust-sets : AreSets Always distrust_cmp
distrust-sets = AreSets-from_total Always distrust_cmp distrust_total (λ a b p q. one_distrust a b)

-- What holds always holds of all items.
pub always-all : {A : Type 0} (xs : List A) → AllByRecursion Always xs
always-all [] = tt
always-all (x ∷ xs) = (tt, always-all xs)

-- the hoard with the receipt, which came last
abbrev pub with_arrival : HeldReceipts → Receipt → HeldReceipts
with_arrival h r = record h { arrived = h.arrived ++ r ∷ []; held = with_receipt r h.held }

-- With one more receipt, what is held is still what has arrived.
pub same-more : (h : HeldReceipts) (r : Receipt) → IsMeaning (meaning_of h) → IsReceipt r
    → ((s : Receipt) → Contains h.held s ↔ Contains h.arrived s) → (s : Receipt)
    → Contains (with_receipt r h.held) s ↔ Contains (h.arrived ++ r ∷ []) s
same-more h r valid form same s =
    let m = receipt-sets.members r s h.held form valid.receipts in (
      λ c. elim (m.0 c) [
        | inl e ↦ subst (Contains (h.arrived ++ r ∷ [])) e (Contains-push h.arrived r)
        | inr d ↦ Contains-append_left h.arrived (r ∷ []) s ((same s).0 d)
      ],
      λ c. m.1 (elim (Contains-push_cases h.arrived r s c) [ inl d ↦ inr ((same s).1 d) | inr e ↦ inl e ]),
    )

-- the hoard with these records added
abbrev pub with_mistrust : HeldReceipts → List Distrust → ℕ → HeldReceipts
with_mistrust h more capacity = record {
  config = h.config;
  arrived = h.arrived;
  held = h.held;
  records = with_items distrust_cmp more h.records;
  capacity = capacity;
}

-- A hoard that has more records is that one.
pub hoard-before : (old new : HeldReceipts) (more : List Distrust) → IsBefore old more new
    → new ≡ with_mistrust old more new.capacity
hoard-before old new more b =
    ap (λ c. let h : HeldReceipts = record { config = c; arrived = new.arrived; held = new.held; records = new.records; capacity = new.capacity } in h) b.config
    ∙ ap (λ a. let h : HeldReceipts = record { config = old.config; arrived = a; held = new.held; records = new.records; capacity = new.capacity } in
    h) b.arrived
    ∙ ap (λ a. let h : HeldReceipts = record { config = old.config; arrived = old.arrived; held = a; records = new.records; capacity = new.capacity } in
    h) b.held
    ∙ ap (λ a. let h : HeldReceipts = record { config = old.config; arrived = old.arrived; held = old.held; records = a; capacity = new.capacity } in
    h) b.records

-- Hoards with the same meaning, arrivals and capacity are the same.
pub hoard-same : (old new : HeldReceipts) → meaning_of new ≡ meaning_of old → new.arrived ≡ old.arrived → new.capacity ≡ old.capacity → new ≡ old
hoard-same old new meaning arrived capacity =
    ap (λ (m : Meaning). let h : HeldReceipts =
    record { config = m.config; arrived = new.arrived; held = m.held; records = m.records; capacity = new.capacity }
    in h) meaning
    ∙ ap (λ a. let h : HeldReceipts = record { config = old.config; arrived = a; held = old.held; records = old.records; capacity = new.capacity } in h) arrived
    ∙ ap (λ n. let h : HeldReceipts = record { config = old.config; arrived = old.arrived; held = old.held; records = old.records; capacity = n } in h) capacity

-- A record that was added is the one that the new hoard has more.
pub before-added : (old new : HeldReceipts) (x : Distrust) → HasAdded (meaning_of old) x (meaning_of new)
    → new.arrived ≡ old.arrived → IsBefore old (x ∷ []) new
before-added old new x a arrived = record {
  config = ap (λ (m : Meaning). m.config) a.meaning;
  arrived = arrived;
  held = ap (λ (m : Meaning). m.held) a.meaning;
  records = ap (λ (m : Meaning). m.records) a.meaning;
}

-- all records were held, if nothing has changed
pub all-old : (old new : Meaning) (records : List Distrust)
    → new ≡ record old { records = with_items distrust_cmp records old.records } → new ≡ old
    → AreOld old records
all-old old new records e same x has =
    subst (λ (xs : List Distrust). Contains xs x) (ap (λ (m : Meaning). m.records) (sym e ∙ same))
    ((distrust-sets.all_members records old.records x (always-all records)
    (always-all old.records)).1 (inl has))

-- What a closure holds after it takes, or gains all of another.
use Rattle.std.proofs.Common.{◌≡◌, ◌≢◌, ℕ, suc, ◌+◌, ◌<◌, ◌≤◌, ◌⊎◌, inl, inr, Bool, true, false, cond, ◌&&◌, ◌||◌, nat_le, List, [], ◌∷◌, ◌++◌, length}
use Rattle.std.proofs.Common.{length-append, take, drop, get_or, refl, sym, ap, ◌∙◌, subst, arith, append_assoc, append-nil, leb-true, le-leb}
use Rattle.std.proofs.Math.Seq.{take-suc, drop-cons}
use Rattle.std.proofs.lemmas.List.{take-append-drop}
use Rattle.std.specs.Prelude.{Contains, Ok, Err, Option, Some, Result, bytes_eq}
use Rattle.std.specs.List.{AllByRecursion, list_any, list_all}
use Rattle.std.specs.List.Sorted.{IsStrictlySortedBy}
use Rattle.std.specs.Cmp.{IsTotalOrder, tied_itself}
use Rattle.std.specs.declared.cmp.Ordering.{Ordering}
use Rattle.std.specs.declared.cmp.Ordering.TheVariants.{Less, Equal, Greater}
use Rattle.std.proofs.lemmas.Bool.{cases_Bool, and_parts, and_from}
use Rattle.std.proofs.lemmas.Slice.Eq.{bytes_eq-Decides}
use Rattle.spiffe_name.specs.SpiffeId.{Id}
use Rattle.fed_config.specs.Configuration.{Configuration, IsConfiguration, HasDomain, Reaches, config_id_of}
use Rattle.fed_config.specs.declared.floor.Floor.{Floor}
use Rattle.fed_config.specs.declared.relationship.Relationship.{Relationship}
use Rattle.fed_config.specs.declared.seed.Seed.{Seed}
use Rattle.receipt_core.specs.declared.distrust.Distrust.{Distrust}
use Rattle.receipt_core.specs.Order.{receipt_total, distrust_total}
use Rattle.receipt_core.specs.Receipt.{Receipt, receipt_cmp, distrust_cmp}
use Rattle.receipt_core.specs.Rising.{with_item, with_items}
use Rattle.receipt_core.specs.Acceptance.{IsFitting, Meaning, IsMeaning}
use Rattle.receipt_core.proofs.RisingFacts.{turned}
use Rattle.closure_core.specs.Changes.{HeldAndRoom as Closed, empty_of, TakesOk, TakesDistrust, HasRefused, HasRefusedMerge}
use Rattle.closure_core.specs.Refusals.{RefusesReceipt, RefusesDistrust, RefusesMerge, AreTooMany}
use Rattle.closure_core.specs.declared.error.TakeError.{TakeError}
use Rattle.closure_core.specs.declared.error.TakeError.TheVariants.{UnknownDomain, WrongEndpoint, BelowFloor, Full, NoMemory, ConfigDiffers}
use Rattle.closure_core.specs.declared.outcome.Refused.{Refused}
use Rattle.closure_core.specs.declared.outcome.Taken.{Taken}
use Rattle.closure_core.specs.declared.outcome.Taken.TheVariants.{New as TakenNew, Already as TakenAlready}
use Rattle.closure_core.specs.declared.outcome.Distrusted.{Distrusted}
use Rattle.closure_core.specs.declared.outcome.Distrusted.TheVariants.{New as DistrustedNew, Already as DistrustedAlready}
use Rattle.replica_core.specs.State.{no_state, joined, limits_of, is_within_limits, meaning_of_state}
use Rattle.replica_core.specs.Session.{state_of}
use Rattle.replica_core.specs.World.{same_id, is_reached, is_fitting, is_known}
use Rattle.replica_core.specs.Inside.ReplicasInMemory.{grown, CanHold, CanHoldRecords}
use Rattle.replica_core.proofs.ContainsFacts.{contains-cases, contains-here, contains-later, contains-none, each-from}
use Rattle.replica_core.proofs.RisingListFacts.{all_back, at_end, rising_head, rising_tail}
use Rattle.closure_core.proofs.FitFacts.{fits_right, fits_above}
use Rattle.receipt_core.specs.Limits.{receipt_limit, record_limit}

-- ---- what fits and what is known passes the tests of a world

-- If an item of the list passes, the test of the list does.
any-to : {X : Type 0} (p : X → Bool) (xs : List X) (x : X) → Contains xs x → p x ≡ true → list_any p xs ≡ true
any-to p [] x c e = absurd (contains-none x c)
any-to p (y ∷ ys) x c e =
    elim (contains-cases y ys x c) [
      | inl s ↦ ap (λ b. b || list_any p ys) (sym (ap p s) ∙ e)
      | inr d ↦ elim (cases_Bool (p y)) [
        | inl t ↦ ap (λ b. b || list_any p ys) t
        | inr f ↦ ap (λ b. b || list_any p ys) f ∙ any-to p ys x d e
      ]
    ]

-- The test of ids finds equal ids equal.
same-id-to : (a b : Id) → a ≡ b → same_id a b ≡ true
same-id-to a b e =
    and_from (bytes_eq a.text b.text && bytes_eq a.domain b.domain) (bytes_eq a.path b.path)
    (and_from (bytes_eq a.text b.text) (bytes_eq a.domain b.domain)
    ((bytes_eq-Decides a.text b.text).1 (ap (λ (i : Id). i.text) e))
    ((bytes_eq-Decides a.domain b.domain).1 (ap (λ (i : Id). i.domain) e)))
    ((bytes_eq-Decides a.path b.path).1 (ap (λ (i : Id). i.path) e))

-- If each item of the list passes, the test of the list does.
all-to : {X : Type 0} (p : X → Bool) (xs : List X) → ((x : X) → Contains xs x → p x ≡ true) → list_all p xs ≡ true
all-to p [] each = refl
all-to p (x ∷ xs) each = and_from (p x) (list_all p xs) (each x (contains-here x xs)) (all-to p xs (λ y has. each y (contains-later x xs y has)))

-- A rank that reaches a number passes the world's test.
reached-to : (sequence : ℕ) (rank : Option ℕ) → (n : ℕ) × (rank ≡ Some n) × (sequence ≤ n) → is_reached sequence rank ≡ true
reached-to sequence rank reaches =
    subst (λ (o : Option ℕ). is_reached sequence o ≡ true) (sym reaches.1) (le-leb sequence reaches.0 reaches.2)

-- A floor that is reached if it is of the domain passes the world's test.
floor-to : (f : Floor) (r : Receipt) → (f.domain ≡ r.domain → Reaches f.sequence r.document)
    → cond (bytes_eq f.domain r.domain) (is_reached f.sequence r.document.rank) true ≡ true
floor-to f r reaches = elim (cases_Bool (bytes_eq f.domain r.domain)) [
  | inl same ↦
      ap (λ b. cond b (is_reached f.sequence r.document.rank) true) same
      ∙ reached-to f.sequence r.document.rank (reaches ((bytes_eq-Decides f.domain r.domain).0 same))
  | inr other ↦ ap (λ b. cond b (is_reached f.sequence r.document.rank) true) other
]

-- A receipt that fits passes the world's test.
pub fits-to : (config : Configuration) (r : Receipt) → IsFitting config r → is_fitting config r ≡ true
fits-to config r fits =
    and_from (list_any (λ (o : Relationship). bytes_eq o.domain r.domain && same_id o.endpoint r.endpoint) config.relationships)
    (list_all (λ (f : Floor). cond (bytes_eq f.domain r.domain) (is_reached f.sequence r.document.rank) true) config.floors)
    (any-to (λ (o : Relationship). bytes_eq o.domain r.domain && same_id o.endpoint r.endpoint) config.relationships fits.relationship fits.has
    (and_from (bytes_eq fits.relationship.domain r.domain) (same_id fits.relationship.endpoint r.endpoint)
    ((bytes_eq-Decides fits.relationship.domain r.domain).1 fits.domain)
    (same-id-to fits.relationship.endpoint r.endpoint fits.endpoint)))
    (all-to (λ (f : Floor). cond (bytes_eq f.domain r.domain) (is_reached f.sequence r.document.rank) true) config.floors
    (λ f has. floor-to f r (fits.reaches f has)))

-- A test that finds one of three finds them.
known-to : (a b c : Bool) → (a ≡ true) ⊎ ((b ≡ true) ⊎ (c ≡ true)) → cond a true (cond b true c) ≡ true
known-to true b c h = refl
known-to false true c h = refl
known-to false false c (inl e) = absurd (let no : false ≡ true = e in cc)
known-to false false c (inr (inl e)) = absurd (let no : false ≡ true = e in cc)
known-to false false c (inr (inr e)) = e

-- A domain of the configuration passes the world's test.
pub knows-to : (config : Configuration) (domain : List ℕ) → HasDomain config domain → is_known config domain ≡ true
knows-to config domain h =
    known-to (list_any (λ (r : Relationship). bytes_eq r.domain domain) config.relationships)
    (list_any (λ (r : Relationship). bytes_eq r.endpoint.domain domain) config.relationships)
    (list_any (λ (s : Seed). bytes_eq s.domain domain) config.seeds)
    (elim h [
      | inl k ↦ inl (any-to (λ (r : Relationship). bytes_eq r.domain domain) config.relationships k.0 k.1 ((bytes_eq-Decides k.0.domain domain).1 k.2))
      | inr k ↦ inr (elim k [
        | inl l ↦ inl (any-to (λ (r : Relationship). bytes_eq r.endpoint.domain domain) config.relationships l.0 l.1
            ((bytes_eq-Decides l.0.endpoint.domain domain).1 l.2))
        | inr l ↦ inr (any-to (λ (s : Seed). bytes_eq s.domain domain) config.seeds l.0 l.1 ((bytes_eq-Decides l.0.domain domain).1 l.2))
      ])
    ])

-- ---- lists that rise

-- In a sorted list each item is above all before it.
above-seen : {A : Type 0} (cmp : A → A → Ordering) → IsTotalOrder cmp → (x : A) (seen later : List A)
    → IsStrictlySortedBy cmp (seen ++ x ∷ later) → AllByRecursion (λ y. cmp x y ≡ Greater) seen
above-seen cmp total x [] later rising = tt
above-seen cmp total x (y ∷ seen) later rising = (
  turned total y x (all_back (λ z. cmp y z ≡ Less) seen (x ∷ later) (rising_head cmp y (seen ++ x ∷ later) rising)).0,
  above-seen cmp total x seen later (rising_tail cmp y (seen ++ x ∷ later) rising),
)

-- In a sorted list no item comes twice.
not-seen : {A : Type 0} (cmp : A → A → Ordering) → IsTotalOrder cmp → (x : A) (seen later : List A)
    → IsStrictlySortedBy cmp (seen ++ x ∷ later) → Contains seen x → ⊥
not-seen cmp total x seen later rising c =
    let greater : cmp x x ≡ Greater = each-from (λ y. cmp x y ≡ Greater) seen (above-seen cmp total x seen later rising) x c in
    let tied : cmp x x ≡ Equal = tied_itself total x in
    cc

-- An item above all others of a set is added at its end.
next-one : {A : Type 0} (cmp : A → A → Ordering) → IsTotalOrder cmp → (x : A) (seen later : List A)
    → IsStrictlySortedBy cmp (seen ++ x ∷ later) → with_item cmp x seen ≡ seen ++ x ∷ []
next-one cmp total x seen later rising = at_end cmp x seen (above-seen cmp total x seen later rising)

-- Items that rise above a set are added at its end, in their order.
all-next : {A : Type 0} (cmp : A → A → Ordering) → IsTotalOrder cmp → (items seen : List A)
    → IsStrictlySortedBy cmp (seen ++ items) → with_items cmp items seen ≡ seen ++ items
all-next cmp total [] seen rising = sym (append-nil seen)
all-next cmp total (x ∷ items) seen rising =
    ap (λ set. with_items cmp items set) (next-one cmp total x seen items rising)
    ∙ all-next cmp total items (seen ++ x ∷ []) (subst (IsStrictlySortedBy cmp) (sym (append_assoc seen (x ∷ []) items)) rising)
    ∙ append_assoc seen (x ∷ []) items

-- ---- what refuses

-- what may be held is refused only if memory ran out
refusal-none : (old : Closed) (r : Receipt) (why : TakeError) → IsConfiguration old.meaning.config
    → RefusesReceipt old.meaning old.room r why → why ≢ NoMemory → IsFitting old.meaning.config r
    → length old.meaning.held < receipt_limit old.meaning.config → ⊥
refusal-none old r UnknownDomain is h other fits few = h fits.relationship fits.has fits.domain
refusal-none old r WrongEndpoint is h other fits few = fits_right old.meaning.config r is fits h
refusal-none old r BelowFloor is h other fits few = fits_above old.meaning.config r fits h
refusal-none old r Full is h other fits few = let full = h.full in omega arith
refusal-none old r NoMemory is h other fits few = other refl
refusal-none old r ConfigDiffers is h other fits few = h

-- The part before an item is shorter than the limit of the whole.
fewer : {A : Type 0} (seen : List A) (x : A) (later : List A) {n : ℕ} → length (seen ++ x ∷ later) ≤ n → length seen < n
fewer seen x later {n} few = let long : length (seen ++ x ∷ later) ≡ length seen + length (x ∷ later) =
    length-append seen (x ∷ later) in let more : length (x ∷ later) ≡ length later + 1 = omega arith in
    omega (arith, long, more, few)

-- ---- one receipt

-- A receipt that does not fit changes nothing.
pub unfit-taken : (old new : Closed) (r s : Receipt) (taken : Taken) → s ≡ r → TakesOk old s new taken
    → is_fitting old.meaning.config r ≡ false → new.meaning ≡ old.meaning
unfit-taken old new r s (TakenNew n) e h f =
    absurd (let fits : is_fitting old.meaning.config r ≡ true = fits-to old.meaning.config r (subst (IsFitting old.meaning.config) e h.fits) in cc)
unfit-taken old new r s TakenAlready e h f = ap (λ (c : Closed). c.meaning) h.same

-- The next receipt of a list that can be held comes last.
pub next-taken : (old new : Closed) (r s : Receipt) (taken : Taken) (later : List Receipt) → s ≡ r
    → TakesOk old s new taken → CanHold old.meaning.config (old.meaning.held ++ r ∷ later)
    → new.meaning ≡ record old.meaning { held = old.meaning.held ++ r ∷ [] }
next-taken old new r s (TakenNew n) later e h can =
    h.meaning ∙ ap (λ held. record old.meaning { held = held })
    (ap (λ t. with_item receipt_cmp t old.meaning.held) e
    ∙ next-one receipt_cmp receipt_total r old.meaning.held later can.rising)
next-taken old new r s TakenAlready later e h can =
    absurd (not-seen receipt_cmp receipt_total r old.meaning.held later can.rising (subst (Contains old.meaning.held) e h.held))

-- The next receipt of a list that can be held is refused only for lack of memory.
pub next-refused : (old new : Closed) (r s : Receipt) (refused : Refused) (later : List Receipt) → s ≡ r
    → IsConfiguration old.meaning.config → HasRefused old s new refused → refused.why ≢ NoMemory
    → CanHold old.meaning.config (old.meaning.held ++ r ∷ later) → ⊥
next-refused old new r s refused later e is h other can =
    let fits : IsFitting old.meaning.config s =
    subst (IsFitting old.meaning.config) (sym e)
    (all_back (IsFitting old.meaning.config) old.meaning.held (r ∷ later) can.fitting).0 in
    refusal-none old s refused.why is h.cause other fits (fewer old.meaning.held r later can.few)

-- ---- one record

-- A record of an unknown domain changes nothing.
pub unfit-distrusted : (old new : Meaning) (x : Distrust) (result : Result Distrusted TakeError)
    → TakesDistrust old x new result → is_known old.config x.domain ≡ false → new ≡ old
unfit-distrusted old new x (Ok (DistrustedNew n)) h f = absurd (let known : is_known old.config x.domain ≡ true = knows-to old.config x.domain h.domain in cc)
unfit-distrusted old new x (Ok DistrustedAlready) h f = h.meaning
unfit-distrusted old new x (Err why) h f = h.meaning

-- A record of a known domain is not refused while there is a place.
record-refused : (old : Meaning) (x : Distrust) (why : TakeError) → RefusesDistrust old x why → HasDomain old.config x.domain
    → length old.records < record_limit old.config → ⊥
record-refused old x UnknownDomain h known few = h known
record-refused old x WrongEndpoint h known few = h
record-refused old x BelowFloor h known few = h
record-refused old x Full h known few = let full = h.full in omega arith
record-refused old x NoMemory h known few = h
record-refused old x ConfigDiffers h known few = h

-- The next record of a list that can be held comes last.
pub next-distrusted : (old new : Meaning) (x : Distrust) (result : Result Distrusted TakeError) (later : List Distrust)
    → TakesDistrust old x new result → CanHoldRecords old.config (old.records ++ x ∷ later)
    → new ≡ record old { records = old.records ++ x ∷ [] }
next-distrusted old new x (Ok (DistrustedNew n)) later h can =
    h.meaning ∙ ap (λ records. record old { records = records }) (next-one distrust_cmp distrust_total x old.records later can.rising)
next-distrusted old new x (Ok DistrustedAlready) later h can = absurd (not-seen distrust_cmp distrust_total x old.records later can.rising h.held)
next-distrusted old new x (Err why) later h can =
    absurd (record-refused old x why h.cause
    (all_back (λ y. HasDomain old.config y.domain) old.records (x ∷ later) can.domains).0
    (fewer old.records x later can.few))

-- ---- all of another closure

-- Two meanings of one configuration are not merged for lack of memory, or because they are too
-- many.
merge-refused : (m other : Meaning) (why : TakeError) → IsConfiguration m.config
    → AllByRecursion (IsFitting m.config) other.held → AllByRecursion (λ x. HasDomain m.config x.domain) other.records
    → config_id_of m.config ≡ config_id_of other.config → RefusesMerge m other why → why ≢ NoMemory → AreTooMany m other
merge-refused m other UnknownDomain is fitting domains same h n =
    absurd (elim h.1 [
      | inl u ↦ let fits = each-from (IsFitting m.config) other.held fitting u.0 u.1 in u.2 fits.relationship fits.has fits.domain
      | inr u ↦ u.2 (each-from (λ x. HasDomain m.config x.domain) other.records domains u.0 u.1)
    ])
merge-refused m other WrongEndpoint is fitting domains same h n =
    absurd (fits_right m.config h.2.0 is (each-from (IsFitting m.config) other.held fitting h.2.0 h.2.1) h.2.2)
merge-refused m other BelowFloor is fitting domains same h n =
    absurd (fits_above m.config h.3.0 (each-from (IsFitting m.config) other.held fitting h.3.0 h.3.1) h.3.2)
merge-refused m other Full is fitting domains same h n = h.1
merge-refused m other NoMemory is fitting domains same h n = absurd (n refl)
merge-refused m other ConfigDiffers is fitting domains same h n = absurd (h same)

-- What is too many is not within the limits.
too-many : (a b most most_too : ℕ) → (most < a) ⊎ (most_too < b) → (nat_le a most && nat_le b most_too) ≡ false
too-many a b most most_too h =
    elim (cases_Bool (nat_le a most && nat_le b most_too)) [
      | inl t ↦
          let parts = and_parts (nat_le a most) (nat_le b most_too) t in
          let few : a ≤ most = leb-true a most parts.0 in
          let few_records : b ≤ most_too = leb-true b most_too parts.1 in
          absurd (elim h [ inl more ↦ omega arith | inr more ↦ omega arith ])
      | inr f ↦ f
    ]

-- If a merge is refused but not for lack of memory, both together are too many, so nothing is
-- gained.
pub grow-refused : (old new : Closed) (other : Meaning) (why : TakeError) → IsConfiguration other.config
    → IsMeaning other → HasRefusedMerge old other new why → old.meaning.config ≡ other.config → why ≢ NoMemory
    → new.meaning ≡ meaning_of_state old.meaning.config (grown (limits_of old.meaning.config) (state_of old.meaning) (state_of other))
grow-refused old new other why is valid h same n =
    let many = merge-refused old.meaning other why (subst IsConfiguration (sym same) is)
    (subst (λ (c : Configuration). AllByRecursion (IsFitting c) other.held) (sym same) valid.fitting)
    (subst (λ (c : Configuration). AllByRecursion (λ x. HasDomain c x.domain) other.records) (sym same) valid.domains) (ap config_id_of same) h.cause n in
    h.unchanged.meaning
    ∙ ap (λ b. meaning_of_state old.meaning.config (cond b (joined (state_of old.meaning) (state_of other)) (state_of old.meaning)))
    (sym (too-many (length (joined (state_of old.meaning) (state_of other)).held) (length (joined (state_of old.meaning) (state_of other)).records)
    (receipt_limit old.meaning.config) (record_limit old.meaning.config) many))

-- ---- copies

-- A closure without anything that gains all of a meaning holds that meaning.
grown-nothing : (m : Meaning) → IsMeaning m → meaning_of_state m.config (grown (limits_of m.config) no_state (state_of m)) ≡ m
grown-nothing m valid =
    let held : with_items receipt_cmp m.held [] ≡ m.held = all-next receipt_cmp receipt_total m.held [] valid.rising in
    let records : with_items distrust_cmp m.records [] ≡ m.records = all-next distrust_cmp distrust_total m.records [] valid.records_rising in
    let same : joined no_state (state_of m) ≡ state_of m = (λ i. record { held = held i; records = records i }) in
    let most = receipt_limit m.config in
    let most_too = record_limit m.config in
    let within : is_within_limits (limits_of m.config) (state_of m) ≡ true =
    and_from (nat_le (length m.held) most) (nat_le (length m.records) most_too)
    (le-leb (length m.held) most valid.few) (le-leb (length m.records) most_too valid.few_records) in
    ap (λ s. meaning_of_state m.config (cond (is_within_limits (limits_of m.config) s) s no_state)) same ∙ ap
    (λ b. meaning_of_state m.config (cond b (state_of m) no_state)) within

-- So a copy means what was copied.
pub copy-same : (m copy new : Meaning) → IsMeaning m → copy ≡ empty_of m.config
    → new ≡ meaning_of_state copy.config (grown (limits_of copy.config) (state_of copy) (state_of m)) → new ≡ m
copy-same m copy new valid e h =
    h ∙ ap (λ (c : Meaning). meaning_of_state c.config (grown (limits_of c.config) (state_of c) (state_of m))) e ∙ grown-nothing m valid

-- ---- one after another

-- A list is what comes before a place, the item there, and the rest.
front-split : {A : Type 0} (xs : List A) (k : ℕ) (x : A) → k < length xs → x ≡ get_or xs k x → take k xs ++ x ∷ drop (suc k) xs ≡ xs
front-split xs k x l e = ap (λ rest. take k xs ++ rest) (sym (drop-cons xs k x l ∙ ap (λ y. y ∷ drop (suc k) xs) (sym e))) ∙ take-append-drop k xs

-- The front that is longer by one has the item there at its end.
front-more : {A : Type 0} (xs : List A) (k : ℕ) (x : A) → k < length xs → x ≡ get_or xs k x → take (k + 1) xs ≡ take k xs ++ x ∷ []
front-more xs k x l e =
    let one : k + 1 ≡ suc k = omega arith in
    ap (λ n. take n xs) one ∙ take-suc xs k x l ∙ ap (λ y. take k xs ++ y ∷ []) (sym e)

-- The step of the loop that offers records.
pub record-passed : (first old new : Meaning) (xs : List Distrust) (k : ℕ) (x : Distrust) → k < length xs
    → x ≡ get_or xs k x → old ≡ record first { records = take k xs }
    → ((later : List Distrust) → CanHoldRecords old.config (old.records ++ x ∷ later) → new ≡ record old { records = old.records ++ x ∷ [] })
    → CanHoldRecords first.config xs → new ≡ record first { records = take (k + 1) xs }
record-passed first old new xs k x l e so next can =
    subst (λ (m : Meaning). (later : List Distrust) → CanHoldRecords m.config (m.records ++ x ∷ later)
    → new ≡ record m { records = m.records ++ x ∷ [] }) so next
    (drop (suc k) xs) (subst (CanHoldRecords first.config) (sym (front-split xs k x l e)) can)
    ∙ ap (λ records. record first { records = records }) (sym (front-more xs k x l e))

-- The step of the loop that offers receipts.
pub receipt-passed : (first old new : Meaning) (rs : List Receipt) (k : ℕ) (r : Receipt) → k < length rs
    → r ≡ get_or rs k r → old ≡ record first { held = take k rs }
    → ((later : List Receipt) → CanHold old.config (old.held ++ r ∷ later) → new ≡ record old { held = old.held ++ r ∷ [] })
    → CanHold first.config rs → new ≡ record first { held = take (k + 1) rs }
receipt-passed first old new rs k r l e so next can =
    subst (λ (m : Meaning). (later : List Receipt) → CanHold m.config (m.held ++ r ∷ later) → new ≡ record m { held = m.held ++ r ∷ [] }) so next
    (drop (suc k) rs) (subst (CanHold first.config) (sym (front-split rs k r l e)) can)
    ∙ ap (λ held. record first { held = held }) (sym (front-more rs k r l e))

-- When all records and receipts were offered, all of them are held.
pub gathered-all : (config : Configuration) (fresh between whole : Meaning) (rs : List Receipt) (xs : List Distrust)
    → CanHold config rs → CanHoldRecords config xs → fresh ≡ empty_of config
    → (fresh.records ≡ [] → CanHoldRecords fresh.config xs → between ≡ record fresh { records = xs })
    → (between.held ≡ [] → CanHold between.config rs → whole ≡ record between { held = rs })
    → whole ≡ record { config = config; held = rs; records = xs }
gathered-all config fresh between whole rs xs can knows e first second =
    let between-is : between ≡ record { config = config; held = []; records = xs } =
    subst (λ (m : Meaning). (m.records ≡ [] → CanHoldRecords m.config xs → between ≡ record m { records = xs })) e first refl knows in
    subst (λ (m : Meaning). (m.held ≡ [] → CanHold m.config rs → whole ≡ record m { held = rs })) between-is second refl can

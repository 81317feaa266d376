-- Which receipts remain under a new configuration, and how many.
use Rattle.std.proofs.Common.{◌≡◌, ◌⊎◌, ◌↔◌, ℕ, ◌+◌, ◌≤◌, List, [], ◌∷◌, length, map, flat_map, Bool, true, false}
use Rattle.std.proofs.Common.{Option, Some, None, Less, Equal, Greater, IsTrue, refl, sym, ap, ◌∙◌, subst, arith, inl, inr}
use Rattle.std.specs.declared.cmp.Ordering.{Ordering}
use Rattle.std.specs.Ordering.{nat_cmp, ordering_reverse, ordering_then}
use Rattle.std.specs.Cmp.{IsTotalOrder}
use Rattle.std.specs.Option.{option_cmp}
use Rattle.std.specs.List.{AllByRecursion, Contains}
use Rattle.std.specs.List.Sorted.{IsStrictlySortedBy}
use Rattle.std.proofs.lemmas.List.Elements.{Contains-append_cases, Contains-append_left, Contains-append_right}
use Rattle.bundle_doc.specs.Bundle.{Bundle}
use Rattle.fed_config.specs.Configuration.{AreDomains, Configuration, IsFloorOf, Reaches, ReachesFloor}
use Rattle.fed_config.specs.declared.floor.Floor.{Floor}
use Rattle.receipt_core.specs.Acceptance.{IsFitting, IsMeaning, Meaning}
use Rattle.receipt_core.specs.Order.{receipt_total}
use Rattle.receipt_core.specs.Receipt.{Receipt, receipt_cmp}
use Rattle.receipt_core.proofs.ChainFacts.{not_stated}
use Rattle.receipt_core.proofs.OrderFacts.{equal_bytes}
use Rattle.closure_core.specs.AcceptedList.{document_cmp}
use Rattle.closure_core.specs.Count.{AreDifferent}
use Rattle.closure_core.specs.Order.{document_total}
use Rattle.closure_core.proofs.ContainsFacts.{contains_cases, contains_first, contains_later, contains_none, mapped}
use Rattle.bundle_view.specs.Current.{IsCurrent, IsGreatest}
use Rattle.bundle_view.proofs.RisingListFacts.{not_below_itself, rising_first, rising_rest}
use Rattle.reseeding.specs.Reseeding.{FlooredDomain, IsNewConfig, IsRaised, IsRaisedBy, IsStayCount, floor_in, floor_of}
use Rattle.reseeding.specs.declared.new_floors.FloorChoice.TheVariants.{Kept, Raised}

-- ---- a domain gets one floor

-- two orders in turn tie only if the first does
first_tied : (a b : Ordering) → ordering_then a b ≡ Equal → a ≡ Equal
first_tied Less b h = absurd (cc)
first_tied Equal b h = refl
first_tied Greater b h = absurd (cc)

-- sequence numbers that tie are equal
same_number : (a b : Option ℕ) → option_cmp nat_cmp a b ≡ Equal → a ≡ b
same_number None None h = refl
same_number None (Some b) h = absurd (cc)
same_number (Some a) None h = absurd (cc)
same_number (Some a) (Some b) h = ap Some (equal_bytes a b h)

-- by how two documents compare, none of which is below the other
tied : (d e : Bundle) (o : Ordering) → document_cmp d e ≡ o → (document_cmp d e ≡ Less → ⊥) → (document_cmp e d ≡ Less → ⊥) → d.rank ≡ e.rank
tied d e Less is p q = absurd (p is)
tied d e Equal is p q = same_number d.rank e.rank (first_tied _ _ is)
tied d e Greater is p q = absurd (q (document_total.antisymm e d ∙ ap ordering_reverse is))

-- the current documents of a domain have one sequence number
pub same_current : (m : Meaning) (domain : List ℕ) (d e : Bundle) → IsGreatest m domain d → IsGreatest m domain e → d.rank ≡ e.rank
same_current m domain d e p q = tied d e (document_cmp d e) refl (p.greatest e q.accepted) (q.greatest d p.accepted)

-- a domain has one floor at most
one_floor : (c : Configuration) (domain : List ℕ) (a b : Option ℕ) → IsFloorOf c domain a → IsFloorOf c domain b → a ≡ b
one_floor c domain None None p q = refl
one_floor c domain None (Some b) p q = absurd (p q.0.0 q.0.1 q.0.2)
one_floor c domain (Some a) None p q = absurd (q p.0.0 p.0.1 p.0.2)
one_floor c domain (Some a) (Some b) p q = ap Some (sym (p.1 p.0.0 p.0.1 p.0.2) ∙ q.1 p.0.0 p.0.1 p.0.2)

-- by the current document, it gets one
raised_by_one : (m : Meaning) (domain : List ℕ) (x y : Option Bundle) (a b : Option ℕ) → IsCurrent m domain x → IsCurrent m domain y
    → IsRaisedBy m domain x a → IsRaisedBy m domain y b → a ≡ b
raised_by_one m domain None None a b p q r s = one_floor m.config domain a b r s
raised_by_one m domain None (Some e) a b p q r s = absurd (p e q.accepted)
raised_by_one m domain (Some d) None a b p q r s = absurd (q d p.accepted)
raised_by_one m domain (Some d) (Some e) a b p q r s = r ∙ same_current m domain d e p q ∙ sym s

one_raised : (m : Meaning) (f g : FlooredDomain) → f.domain ≡ g.domain → IsRaised m f → IsRaised m g → f.floor ≡ g.floor
one_raised m f g same p q =
    raised_by_one m g.domain p.current q.current f.floor g.floor (subst (λ d. IsCurrent m d p.current) same p.is) q.is
    (subst (λ d. IsRaisedBy m d p.current f.floor) same p.raised) q.raised

-- ---- the floors of a new configuration

-- what a list made of parts contains is in one of the parts
pub record IsOfPart {X Y : Type 0} (parts : X → List Y) (xs : List X) (y : Y) : Type 0 where
  pub item : X
  pub has : Contains xs item
  pub in_part : Contains (parts item) y

pub of_part : {X Y : Type 0} (parts : X → List Y) (xs : List X) (y : Y) → Contains (flat_map parts xs) y → IsOfPart parts xs y
of_part parts [] y has = absurd (contains_none y has)
of_part parts (x ∷ xs) y has = elim (Contains-append_cases (parts x) (flat_map parts xs) y has) [
  | inl here ↦ record { item = x; has = contains_first x xs; in_part = here }
  | inr there ↦
      let later = of_part parts xs y there in
      record { item = later.item; has = contains_later x xs later.item later.has; in_part = later.in_part }
]

-- each item's part is in the whole
pub part_in : {X Y : Type 0} (parts : X → List Y) (xs : List X) (x : X) (y : Y) → Contains xs x → Contains (parts x) y → Contains (flat_map parts xs) y
part_in parts [] x y has in_part = absurd (contains_none x has)
part_in parts (z ∷ xs) x y has in_part = elim (contains_cases z xs x has) [
  | inl same ↦ Contains-append_left (parts z) (flat_map parts xs) y (subst (λ w. Contains (parts w) y) (sym same) in_part)
  | inr later ↦ Contains-append_right (parts z) (flat_map parts xs) y (part_in parts xs x y later in_part)
]

-- the floor that a domain's part has is the one that it gets
pub floor_there : (domain : List ℕ) (floor : Option ℕ) (f : Floor) → Contains (floor_of domain floor) f
    → (f.domain ≡ domain) × (floor ≡ Some f.sequence)
floor_there domain None f has = absurd (contains_none f has)
floor_there domain (Some n) f has = elim (contains_cases (record { domain = domain; sequence = n }) [] f has) [
  | inl same ↦ (ap (λ (x : Floor). x.domain) (sym same), ap (λ (x : Floor). Some x.sequence) same)
  | inr none ↦ absurd (contains_none f none)
]

pub floor_of_some : (domain : List ℕ) (floor : Option ℕ) (n : ℕ) → floor ≡ Some n
    → Contains (floor_of domain floor) (record { domain = domain; sequence = n })
floor_of_some domain floor n some =
    subst (λ (x : Option ℕ). Contains (floor_of domain x) (record { domain = domain; sequence = n })) (sym some)
    (contains_first (record { domain = domain; sequence = n }) [])

-- Under a new configuration with raised floors a document reaches its domain's floor, if it reaches
-- the one that the domain gets.
pub reaches_new : (m : Meaning) (c : Configuration) (domain : List ℕ) (document : Bundle) (floor : Option ℕ) → IsNewConfig Raised m c
    → IsRaised m (record { domain = domain; floor = floor }) → ((n : ℕ) → floor ≡ Some n → Reaches n document) → ReachesFloor c domain document
reaches_new m c domain document floor new raised reaches f has same =
    let part = of_part floor_in new.floors.floored f (subst (λ (fs : List Floor). Contains fs f) new.floors.are has) in
    let there = floor_there part.item.domain part.item.floor f part.in_part in
    reaches f.sequence
    (sym (one_raised m part.item (record { domain = domain; floor = floor }) (sym there.0 ∙ same) (new.floors.each part.item part.has) raised)
    ∙ there.1)

-- the other way round, of a domain that the configuration has
new_reaches : (m : Meaning) (c : Configuration) (domain : List ℕ) (document : Bundle) (floor : Option ℕ) (new : IsNewConfig Raised m c)
    → IsRaised m (record { domain = domain; floor = floor }) → Contains (map (λ (f : FlooredDomain). f.domain) new.floors.floored) domain
    → ReachesFloor c domain document → (n : ℕ) → floor ≡ Some n → Reaches n document
new_reaches m c domain document floor new raised known reaches n some =
    let at = mapped (λ (f : FlooredDomain). f.domain) new.floors.floored domain known in
    let is : at.item.floor ≡ Some n =
    one_raised m at.item (record { domain = domain; floor = floor }) at.is (new.floors.each at.item at.has) raised ∙ some in
    reaches (record { domain = at.item.domain; sequence = n })
    (subst (λ (fs : List Floor). Contains fs (record { domain = at.item.domain; sequence = n })) (sym new.floors.are)
    (part_in floor_in new.floors.floored at.item (record { domain = at.item.domain; sequence = n }) at.has
    (floor_of_some at.item.domain at.item.floor n is)))
    at.is

-- ---- one receipt

-- the configuration has the domain of a receipt that fits
fitting_known : (m : Meaning) (domains : List (List ℕ)) (r : Receipt) → AreDomains m.config domains → IsFitting m.config r → Contains domains r.domain
fitting_known m domains r are fits = are.complete r.domain (inl (fits.relationship, fits.has, fits.domain))

-- a receipt that fits remains under a new configuration, if its document reaches its domain's
-- floor there
still_fits : (m : Meaning) (c : Configuration) (r : Receipt) → c.relationships ≡ m.config.relationships → ReachesFloor c r.domain r.document
    → IsFitting m.config r → IsFitting c r
still_fits m c r same reaches fits = record {
  relationship = fits.relationship;
  has = subst (λ rs. Contains rs fits.relationship) (sym same) fits.has;
  domain = fits.domain;
  endpoint = fits.endpoint;
  reaches = reaches;
}

-- With raised floors it remains exactly if it reaches the floor that its domain gets.
stays_raised : (m : Meaning) (r : Receipt) (floor : Option ℕ) (stated : Bool) → IsRaised m (record { domain = r.domain; floor = floor })
    → (IsTrue stated ↔ ((n : ℕ) → floor ≡ Some n → Reaches n r.document)) → (c : Configuration) → IsNewConfig Raised m c → IsFitting m.config r
    → IsTrue stated ↔ IsFitting c r
stays_raised m r floor stated raised is c new fits = (
  λ t. still_fits m c r new.relationships (reaches_new m c r.domain r.document floor new raised (is.0 t)) fits,
  λ fit. is.1 (new_reaches m c r.domain r.document floor new raised (fitting_known m _ r new.floors.domains fits) fit.reaches),
)

-- the same for the domain and the document that it lends
pub stays_lent : (m : Meaning) (r : Receipt) (domain : List ℕ) (document : Bundle) (floor : Option ℕ) (stated : Bool) → domain ≡ r.domain
    → document ≡ r.document → IsRaised m (record { domain = domain; floor = floor })
    → (IsTrue stated ↔ ((n : ℕ) → floor ≡ Some n → Reaches n document)) → (c : Configuration) → IsNewConfig Raised m c → IsFitting m.config r
    → IsTrue stated ↔ IsFitting c r
stays_lent m r domain document floor stated same is raised reports =
    stays_raised m r floor stated
    (subst (λ (name : List ℕ). IsRaised m (record { domain = name; floor = floor })) same raised)
    (subst (λ (d : Bundle). IsTrue stated ↔ ((n : ℕ) → floor ≡ Some n → Reaches n d)) is reports)

-- With the floors that are kept it remains.
stays_kept : (m : Meaning) (c : Configuration) (r : Receipt) → IsNewConfig Kept m c → IsFitting m.config r → IsFitting c r
stays_kept m c r new fits =
    still_fits m c r new.relationships (λ f has. fits.reaches f (subst (λ (fs : List Floor). Contains fs f) new.floors has)) fits

-- ---- how many

-- n items of the list have the property
abbrev Counts : {T : Type 0} → (T → Type 0) → List T → ℕ → Type 0
Counts P [] n = n ≡ 0
Counts P (x ∷ xs) n = ((P x → ⊥) × Counts P xs n) ⊎ ((k : ℕ) × (n ≡ k + 1) × P x × Counts P xs k)

-- these are the items of the list that have the property
record ArePicked {T : Type 0} (P : T → Type 0) (xs items : List T) : Type 0 where
  pub different : AreDifferent items
  pub within : (x : T) → Contains items x → Contains xs x
  pub hold : (x : T) → Contains items x → P x
  pub complete : (x : T) → Contains xs x → P x → Contains items x

record Picks {T : Type 0} (P : T → Type 0) (xs : List T) (n : ℕ) : Type 0 where
  pub items : List T
  pub are : ArePicked P xs items
  pub count : length items ≡ n

none_picked : {T : Type 0} (P : T → Type 0) → ArePicked P [] []
none_picked P = record {
  different = tt;
  within = λ x h. h;
  hold = λ x h. absurd (contains_none x h);
  complete = λ x h is. h;
}

passed_over : {T : Type 0} (P : T → Type 0) (x : T) (xs items : List T) → (P x → ⊥) → ArePicked P xs items → ArePicked P (x ∷ xs) items
passed_over P x xs items fails are = record {
  different = are.different;
  within = λ y h. contains_later x xs y (are.within y h);
  hold = are.hold;
  complete = λ y h is. elim (contains_cases x xs y h) [
    | inl same ↦ absurd (fails (subst P (sym same) is))
    | inr later ↦ are.complete y later is
  ];
}

one_picked : {T : Type 0} (P : T → Type 0) (x : T) (xs items : List T) → P x → (Contains xs x → ⊥) → ArePicked P xs items
    → ArePicked P (x ∷ xs) (x ∷ items)
one_picked P x xs items holds new are = record {
  different = (λ h. new (are.within x h), are.different);
  within = λ y h. elim (contains_cases x items y h) [
    | inl same ↦ subst (Contains (x ∷ xs)) same (contains_first x xs)
    | inr later ↦ contains_later x xs y (are.within y later)
  ];
  hold = λ y h. elim (contains_cases x items y h) [
    | inl same ↦ subst P same holds
    | inr later ↦ are.hold y later
  ];
  complete = λ y h is. elim (contains_cases x xs y h) [
    | inl same ↦ subst (Contains (x ∷ items)) same (contains_first x items)
    | inr later ↦ contains_later x items y (are.complete y later is)
  ];
}

picks : {T : Type 0} (P : T → Type 0) (xs : List T) (n : ℕ) → AreDifferent xs → Counts P xs n → Picks P xs n
picks P [] n different zero = record { items = []; are = none_picked P; count = sym zero }
picks P (x ∷ xs) n different (inl (fails, rest)) =
    let others = picks P xs n different.1 rest in
    record { items = others.items; are = passed_over P x xs others.items fails others.are; count = others.count }
picks P (x ∷ xs) n different (inr (k, is, holds, rest)) =
    let others = picks P xs k different.1 rest in
    let count = others.count in
    record {
      items = x ∷ others.items;
      are = one_picked P x xs others.items holds different.0 others.are;
      count = let size : length (x ∷ others.items) ≡ length others.items + 1 = omega arith in omega (arith, size, count, is);
    }

-- a sorted list has no item twice
rising_different : {T : Type 0} (cmp : T → T → Ordering) → IsTotalOrder cmp → (xs : List T) → IsStrictlySortedBy cmp xs → AreDifferent xs
rising_different cmp total [] rising = tt
rising_different cmp total (x ∷ xs) rising = (
  λ h. not_below_itself total x (rising_first cmp x xs x rising h),
  rising_different cmp total xs (rising_rest cmp x xs rising),
)

-- what was counted is how many remain
pub stay_count : (m : Meaning) (c : Configuration) (n : ℕ) → IsMeaning m → Counts (IsFitting c) m.held n → IsStayCount m c n
stay_count m c n valid counted =
    let stay = picks (IsFitting c) m.held n (rising_different receipt_cmp receipt_total m.held valid.rising) counted in
    record {
      items = stay.items;
      different = stay.are.different;
      exactly = λ r. (λ h. (stay.are.within r h, stay.are.hold r h), λ both. stay.are.complete r both.0 both.1);
      count = stay.count;
    }

-- all are counted, if each has the property
all_counted : {T : Type 0} (P Q : T → Type 0) → ((x : T) → P x → Q x) → (xs : List T) → AllByRecursion P xs → Counts Q xs (length xs)
all_counted P Q so [] all = refl
all_counted P Q so (x ∷ xs) all =
    let size : length (x ∷ xs) ≡ length xs + 1 = omega arith in
    inr (length xs, size, so x all.0, all_counted P Q so xs all.1)

pub all_stay : (m : Meaning) (c : Configuration) → IsMeaning m → IsNewConfig Kept m c → IsStayCount m c (length m.held)
all_stay m c valid new =
    stay_count m c (length m.held) valid
    (all_counted (IsFitting m.config) (IsFitting c) (λ r fits. stays_kept m c r new fits) m.held valid.fitting)

-- ---- one receipt after another

-- how far counting has come, with these receipts left
pub record StaySoFar (m : Meaning) (all rest : List Receipt) (n : ℕ) : Type 0 where
  pub fitting : AllByRecursion (IsFitting m.config) rest
  pub size : n + length rest ≤ length all
  pub counted : (c : Configuration) → IsNewConfig Raised m c → (k : ℕ) → Counts (IsFitting c) rest k → Counts (IsFitting c) all (n + k)

-- what is said of a receipt
abbrev pub ReportsStay : Meaning → Receipt → Bool → Type 0
ReportsStay m r stated = (c : Configuration) → IsNewConfig Raised m c → IsFitting m.config r → IsTrue stated ↔ IsFitting c r

pub stay_none : (m : Meaning) (all : List Receipt) → AllByRecursion (IsFitting m.config) all → StaySoFar m all all 0
stay_none m all fitting = record {
  fitting = fitting;
  size = omega arith;
  counted = λ c new k counts. subst (Counts (IsFitting c) all) (omega arith) counts;
}

stay_passed_at : (m : Meaning) (all : List Receipt) (r : Receipt) (later : List Receipt) (n : ℕ) → ReportsStay m r false
    → StaySoFar m all (r ∷ later) n → StaySoFar m all later n
stay_passed_at m all r later n stated so_far = record {
  fitting = so_far.fitting.1;
  size = let size = so_far.size in let one : length (r ∷ later) ≡ length later + 1 = omega arith in omega (arith, size, one);
  counted = λ c new k counts. so_far.counted c new k (inl (λ fits. not_stated (IsFitting c r) false (stated c new so_far.fitting.0) refl fits, counts));
}

stay_more_at : (m : Meaning) (all : List Receipt) (r : Receipt) (later : List Receipt) (n : ℕ) → ReportsStay m r true
    → StaySoFar m all (r ∷ later) n → StaySoFar m all later (n + 1)
stay_more_at m all r later n stated so_far = record {
  fitting = so_far.fitting.1;
  size = let size = so_far.size in let one : length (r ∷ later) ≡ length later + 1 = omega arith in omega (arith, size, one);
  counted = λ c new k counts. subst (Counts (IsFitting c) all) (omega arith)
      (so_far.counted c new (k + 1) (inr (k, refl, (stated c new so_far.fitting.0).0 refl, counts)));
}

-- one more receipt that does not remain
pub stay_passed : (m : Meaning) (all rest : List Receipt) (r : Receipt) (later : List Receipt) (n : ℕ) (stated : Bool) → rest ≡ r ∷ later
    → ReportsStay m r stated → stated ≡ false → StaySoFar m all rest n → StaySoFar m all later n
stay_passed m all rest r later n stated cut reports not so_far =
    stay_passed_at m all r later n (subst (ReportsStay m r) not reports) (subst (λ (rs : List Receipt). StaySoFar m all rs n) cut so_far)

-- one more that remains
pub stay_more : (m : Meaning) (all rest : List Receipt) (r : Receipt) (later : List Receipt) (n : ℕ) (stated : Bool) → rest ≡ r ∷ later
    → ReportsStay m r stated → stated ≡ true → StaySoFar m all rest n → StaySoFar m all later (n + 1)
stay_more m all rest r later n stated cut reports is so_far =
    stay_more_at m all r later n (subst (ReportsStay m r) is reports) (subst (λ (rs : List Receipt). StaySoFar m all rs n) cut so_far)

-- there is room for one more
pub stay_room : (m : Meaning) (all rest : List Receipt) (r : Receipt) (later : List Receipt) (n : ℕ) → rest ≡ r ∷ later
    → StaySoFar m all rest n → n + 1 ≤ length all
stay_room m all rest r later n cut so_far =
    let size = so_far.size in
    let cut_size : length rest ≡ length (r ∷ later) = ap length cut in
    let one : length (r ∷ later) ≡ length later + 1 = omega arith in
    omega (arith, size, cut_size, one)

-- With none left all were counted.
pub stay_all : (m : Meaning) (all rest : List Receipt) (n : ℕ) → IsMeaning m → all ≡ m.held → rest ≡ [] → StaySoFar m all rest n
    → (c : Configuration) → IsNewConfig Raised m c → IsStayCount m c n
stay_all m all rest n valid are none so_far c new =
    stay_count m c n valid
    (subst (λ (rs : List Receipt). Counts (IsFitting c) rs n) are
    (subst (Counts (IsFitting c) all) (omega arith)
    (so_far.counted c new 0 (subst (λ (rs : List Receipt). Counts (IsFitting c) rs 0) (sym none) refl))))

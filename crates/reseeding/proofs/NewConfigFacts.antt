-- The new configuration is one, and none of its floors is lower than before.
use Rattle.std.proofs.Common.{◌≡◌, ◌⊎◌, ℕ, ◌+◌, ◌<◌, ◌≤◌, ◌^◌, List, [], ◌∷◌, ◌++◌, length, map, flat_map, Option, Some, None, Less, Equal, Greater}
use Rattle.std.proofs.Common.{refl, sym, ap, ◌∙◌, subst, arith, inl, inr}
use Rattle.std.specs.Option.{IfSome}
use Rattle.std.specs.declared.cmp.Ordering.{Ordering}
use Rattle.std.specs.Ordering.{ordering_then}
use Rattle.std.specs.List.{AllByRecursion, Contains}
use Rattle.std.specs.List.Sorted.{IsStrictlySortedBy}
use Rattle.spiffe_name.specs.TrustDomain.{IsDomainText}
use Rattle.bundle_doc.specs.Bundle.{Bundle, Fits, IsBundle}
use Rattle.fed_config.specs.Configuration.{Configuration, HasDomain, IsConfiguration, IsFloor, IsFloorOf, IsRelationship, IsSeed}
use Rattle.fed_config.specs.Configuration.{ReachesFloor, domain_cmp, floor_cmp, relationship_cmp, seed_cmp}
use Rattle.fed_config.specs.Limits.{relationship_limit, seed_limit}
use Rattle.fed_config.specs.declared.floor.Floor.{Floor}
use Rattle.fed_config.specs.declared.seed.Seed.{Seed}
use Rattle.receipt_core.specs.declared.distrust.Distrust.{Distrust}
use Rattle.receipt_core.specs.Acceptance.{IsFitting, IsMeaning, IsMember, Leads, Meaning, pair_of_seed}
use Rattle.receipt_core.specs.Receipt.{IsReceipt, Pair, Receipt, pair_of}
use Rattle.receipt_core.proofs.RisingFacts.{Contains-from_has, Has-from_contains, all_from_has, each_has}
use Rattle.closure_core.specs.AcceptedList.{document_of}
use Rattle.closure_core.proofs.ContainsFacts.{contains_cases, contains_first, contains_map, contains_none, mapped}
use Rattle.bundle_view.specs.Current.{IsCurrent, IsGreatest}
use Rattle.bundle_view.proofs.RisingListFacts.{rising_append, rising_first, rising_none, rising_one, rising_rest}
use Rattle.reseeding.specs.Reseeding.{AreCurrentSeeds, AreRaisedFloors, FlooredDomain, IsNewConfig, IsRaisedBy, SeededDomain, floor_in, floor_of}
use Rattle.reseeding.specs.Reseeding.{seed_in, seed_of}
use Rattle.reseeding.specs.declared.new_floors.FloorChoice.{FloorChoice}
use Rattle.reseeding.specs.declared.new_floors.FloorChoice.TheVariants.{Kept, Raised}
use Rattle.reseeding.proofs.StayFacts.{floor_of_some, floor_there, of_part, part_in, reaches_new}

-- ---- what is accepted

-- the end of a chain is its beginning, or the pair of a receipt
last_of : (c : Configuration) (records : List Distrust) (held : List Receipt) (from : Pair) (chain : List Receipt) (to : Pair)
    → AllByRecursion (Contains held) chain → Leads c records from chain to
    → (from ≡ to) ⊎ ((r : Receipt) × Contains held r × IsFitting c r × (pair_of r ≡ to))
last_of c records held from [] to has leads = inl leads
last_of c records held from (r ∷ chain) to has leads = elim (last_of c records held (pair_of r) chain to has.1 leads.2) [
  | inl here ↦ inr (r, has.0, leads.0, here)
  | inr later ↦ inr later
]

-- what holds of each seed and of each held receipt holds of what is accepted
from_member : (P : Pair → Type 0) (m : Meaning) (p : Pair) → ((s : Seed) → Contains m.config.seeds s → P (pair_of_seed s))
    → ((r : Receipt) → Contains m.held r → IsFitting m.config r → P (pair_of r)) → IsMember m p → P p
from_member P m p seeds receipts is = elim (last_of m.config m.records m.held (pair_of_seed is.seed) is.chain p is.held is.leads) [
  | inl same ↦ subst P same (seeds is.seed is.configured)
  | inr last ↦ subst P last.3 (receipts last.0 last.1 last.2)
]

-- it reaches the floor of its domain
member_reaches : (m : Meaning) → IsConfiguration m.config → (domain : List ℕ) (d : Bundle) → IsMember m (document_of domain d)
    → ReachesFloor m.config domain d
member_reaches m is domain d member = from_member (λ p. ReachesFloor m.config p.domain p.document) m (document_of domain d)
    (λ s has. each_has (λ (s : Seed). ReachesFloor m.config s.domain s.document) m.config.seeds s is.each_seed_reaches
    (Has-from_contains m.config.seeds s has)) (λ r has fits. fits.reaches) member

-- it is a bundle that fits
member_bundle : (m : Meaning) → IsMeaning m → IsConfiguration m.config → (domain : List ℕ) (d : Bundle) → IsMember m (document_of domain d)
    → IsBundle d × Fits d
member_bundle m valid is domain d member = from_member (λ p. IsBundle p.document × Fits p.document) m (document_of domain d)
    (λ s has. let seed = each_has IsSeed m.config.seeds s is.each_seed (Has-from_contains m.config.seeds s has) in (seed.bundle, seed.fits))
    (λ r has fits. let receipt = each_has IsReceipt m.held r valid.receipts (Has-from_contains m.held r has) in (receipt.document, receipt.fits))
    member

-- a seed is accepted
seed_member : (m : Meaning) (s : Seed) → Contains m.config.seeds s → IsMember m (pair_of_seed s)
seed_member m s has = record { seed = s; configured = has; chain = []; held = tt; leads = refl }

-- ---- no floor is lower than before

kept_number : (c : Configuration) (domain : List ℕ) (floor : Option ℕ) → IsFloorOf c domain floor → (f : Floor) → Contains c.floors f
    → f.domain ≡ domain → (n : ℕ) × (floor ≡ Some n) × (f.sequence ≤ n)
kept_number c domain None none f has same = absurd (none f has same)
kept_number c domain (Some n) at f has same = (n, refl, let e = at.1 f has same in omega (arith, e))

-- a domain with a floor gets one that is not lower
gets : (m : Meaning) → IsConfiguration m.config → (domain : List ℕ) (floor : Option ℕ) (current : Option Bundle) → IsCurrent m domain current
    → IsRaisedBy m domain current floor → (f : Floor) → Contains m.config.floors f → f.domain ≡ domain
    → (n : ℕ) × (floor ≡ Some n) × (f.sequence ≤ n)
gets m is domain floor None current raised f has same = kept_number m.config domain floor raised f has same
gets m is domain floor (Some d) current raised f has same =
    let reach = member_reaches m is domain d current.accepted f has same in (reach.0, raised ∙ reach.1, reach.2)

-- as `laws::raised_floors` says
pub no_lower : (m : Meaning) (c : Configuration) → IsMeaning m → IsConfiguration m.config → IsNewConfig Raised m c → (f : Floor)
    → Contains m.config.floors f → (g : Floor) × Contains c.floors g × (g.domain ≡ f.domain) × (f.sequence ≤ g.sequence)
no_lower m c valid is new f has =
    let known = (each_has (IsFloor m.config) m.config.floors f is.each_floor (Has-from_contains m.config.floors f has)).known in
    let part = mapped (λ (x : FlooredDomain). x.domain) new.floors.floored f.domain (new.floors.domains.complete f.domain known) in
    let raised = new.floors.each part.item part.has in
    let got = gets m is part.item.domain part.item.floor raised.current raised.is raised.raised f has (sym part.is) in
    let floor : Floor = record { domain = part.item.domain; sequence = got.0 } in (
      floor,
      subst (λ (fs : List Floor). Contains fs floor) (sym new.floors.are) (part_in floor_in new.floors.floored part.item floor part.has
          (floor_of_some part.item.domain part.item.floor got.0 got.1)),
      part.is,
      got.2,
    )

-- ---- lists made of parts

-- the parts of a sorted list, if each is sorted, are sorted together
rising_parts : {X Y : Type 0} (key : X → List ℕ) (parts : X → List Y) (cmp : Y → Y → Ordering) → ((x : X) → IsStrictlySortedBy cmp (parts x))
    → ((x z : X) (a b : Y) → domain_cmp (key x) (key z) ≡ Less → Contains (parts x) a → Contains (parts z) b → cmp a b ≡ Less)
    → (xs : List X) → IsStrictlySortedBy domain_cmp (map key xs) → IsStrictlySortedBy cmp (flat_map parts xs)
rising_parts key parts cmp one two [] rising = rising_none cmp
rising_parts key parts cmp one two (x ∷ xs) rising =
    rising_append cmp (parts x) (flat_map parts xs) (one x)
    (rising_parts key parts cmp one two xs (rising_rest domain_cmp (key x) (map key xs) rising))
    (λ a b first later. let part = of_part parts xs b later in
    two x part.item a b (rising_first domain_cmp (key x) (map key xs) (key part.item) rising (contains_map key xs part.item part.has))
    first part.in_part)

less_then : (o next : Ordering) → o ≡ Less → ordering_then o next ≡ Less
less_then Less next h = refl
less_then Equal next h = absurd (cc)
less_then Greater next h = absurd (cc)

between : (x z a b : List ℕ) → a ≡ x → b ≡ z → domain_cmp x z ≡ Less → domain_cmp a b ≡ Less
between x z a b p q below = subst (λ (d : List ℕ). domain_cmp d b ≡ Less) (sym p) (subst (λ (d : List ℕ). domain_cmp x d ≡ Less) (sym q) below)

-- ---- the seeds

-- the seed that a domain's part has is its current document
seed_there : (domain : List ℕ) (current : Option Bundle) (s : Seed) → Contains (seed_of domain current) s
    → (s.domain ≡ domain) × (current ≡ Some s.document)
seed_there domain None s has = absurd (contains_none s has)
seed_there domain (Some d) s has = elim (contains_cases (record { domain = domain; document = d }) [] s has) [
  | inl same ↦ (ap (λ (x : Seed). x.domain) (sym same), ap (λ (x : Seed). Some x.document) same)
  | inr none ↦ absurd (contains_none s none)
]

seed_of_some : (domain : List ℕ) (current : Option Bundle) (d : Bundle) → current ≡ Some d
    → Contains (seed_of domain current) (record { domain = domain; document = d })
seed_of_some domain current d some =
    subst (λ (x : Option Bundle). Contains (seed_of domain x) (record { domain = domain; document = d })) (sym some)
    (contains_first (record { domain = domain; document = d }) [])

seed_rises : (domain : List ℕ) (current : Option Bundle) → IsStrictlySortedBy seed_cmp (seed_of domain current)
seed_rises domain None = rising_none seed_cmp
seed_rises domain (Some d) = rising_one seed_cmp (record { domain = domain; document = d })

seed_between : (x z : SeededDomain) (a b : Seed) → domain_cmp x.domain z.domain ≡ Less → Contains (seed_in x) a → Contains (seed_in z) b
    → seed_cmp a b ≡ Less
seed_between x z a b below p q =
    less_then _ _ (between x.domain z.domain a.domain b.domain (seed_there x.domain x.current a p).0 (seed_there z.domain z.current b q).0 below)

-- a domain has one seed at most
more_seeds : (domain : List ℕ) (current : Option Bundle) (rest : List Seed) (names : List (List ℕ)) → length rest ≤ length names
    → length (seed_of domain current ++ rest) ≤ length (domain ∷ names)
more_seeds domain None rest names h = let one : length (domain ∷ names) ≡ length names + 1 = omega arith in omega (arith, h, one)
more_seeds domain (Some d) rest names h = omega (arith, h)

few_parts : (xs : List SeededDomain) → length (flat_map seed_in xs) ≤ length (map (λ (x : SeededDomain). x.domain) xs)
few_parts [] = omega arith
few_parts (x ∷ xs) = more_seeds x.domain x.current (flat_map seed_in xs) (map (λ (x : SeededDomain). x.domain) xs) (few_parts xs)

module _ (m : Meaning) (c : Configuration) (seeds : AreCurrentSeeds m c.seeds) where
  -- each new seed is the current document of a domain of the configuration before
  seed_is : (s : Seed) → Contains c.seeds s → IsGreatest m s.domain s.document × HasDomain m.config s.domain
  seed_is s has =
      let part = of_part seed_in seeds.seeded s (subst (λ (ss : List Seed). Contains ss s) seeds.are has) in
      let there = seed_there part.item.domain part.item.current s part.in_part in (
        subst (IsCurrent m s.domain) there.1 (subst (λ d. IsCurrent m d part.item.current) (sym there.0) (seeds.each part.item part.has)),
        subst (HasDomain m.config) (sym there.0) (seeds.domains.sound part.item.domain
            (contains_map (λ (x : SeededDomain). x.domain) seeds.seeded part.item part.has)),
      )

  -- a domain of which a document is accepted has a new seed
  has_current : (domain : List ℕ) (current : Option Bundle) → IsCurrent m domain current → (d : Bundle) → IsMember m (document_of domain d)
      → (e : Bundle) × (current ≡ Some e)
  has_current domain None is d member = absurd (is d member)
  has_current domain (Some e) is d member = (e, refl)

  has_seed : (domain : List ℕ) → HasDomain m.config domain → (d : Bundle) → IsMember m (document_of domain d)
      → (s : Seed) × Contains c.seeds s × (s.domain ≡ domain)
  has_seed domain known d member =
      let part = mapped (λ (x : SeededDomain). x.domain) seeds.seeded domain (seeds.domains.complete domain known) in
      let found = has_current part.item.domain part.item.current (seeds.each part.item part.has) d
      (subst (λ (x : List ℕ). IsMember m (document_of x d)) (sym part.is) member) in
      let seed : Seed = record { domain = part.item.domain; document = found.0 } in (
        seed,
        subst (λ (ss : List Seed). Contains ss seed) (sym seeds.are) (part_in seed_in seeds.seeded part.item seed part.has
            (seed_of_some part.item.domain part.item.current found.0 found.1)),
        part.is,
      )

-- ---- the new configuration is one

-- a domain of a configuration is the name of a trust domain
domain_text : (c : Configuration) → IsConfiguration c → (d : List ℕ) → HasDomain c d → IsDomainText d
domain_text c is d has = elim has [
  | inl own ↦ subst IsDomainText own.2 (each_has IsRelationship c.relationships own.0 is.each_relationship
      (Has-from_contains c.relationships own.0 own.1)).domain
  | inr more ↦ elim more [
    | inl endpoint ↦ subst IsDomainText endpoint.2 (each_has IsRelationship c.relationships endpoint.0 is.each_relationship
        (Has-from_contains c.relationships endpoint.0 endpoint.1)).endpoint.is_domain
    | inr seed ↦ subst IsDomainText seed.2 (each_has IsSeed c.seeds seed.0 is.each_seed (Has-from_contains c.seeds seed.0 seed.1)).domain
  ]
]

floor_rises : (domain : List ℕ) (floor : Option ℕ) → IsStrictlySortedBy floor_cmp (floor_of domain floor)
floor_rises domain None = rising_none floor_cmp
floor_rises domain (Some n) = rising_one floor_cmp (record { domain = domain; sequence = n })

floor_between : (x z : FlooredDomain) (a b : Floor) → domain_cmp x.domain z.domain ≡ Less → Contains (floor_in x) a → Contains (floor_in z) b
    → floor_cmp a b ≡ Less
floor_between x z a b below p q =
    between x.domain z.domain a.domain b.domain (floor_there x.domain x.floor a p).0 (floor_there z.domain z.floor b q).0 below

-- a number that a bundle has is below 2^64
small_rank : (d : Bundle) (n : ℕ) → IsBundle d → d.rank ≡ Some n → n < 2 ^ 64
small_rank d n is some = subst (λ (rank : Option ℕ). IfSome rank (λ k. k < 2 ^ 64)) some is.rank

module _ (m : Meaning) (c : Configuration) (valid : IsMeaning m) (is : IsConfiguration m.config) where
  -- the floor that a domain gets is below 2^64
  small : (domain : List ℕ) (floor : Option ℕ) (current : Option Bundle) → IsCurrent m domain current → IsRaisedBy m domain current floor
      → (n : ℕ) → floor ≡ Some n → n < 2 ^ 64
  small domain floor None current raised n some =
      let own = subst (IsFloorOf m.config domain) some raised in
      let old = each_has (IsFloor m.config) m.config.floors own.0.0 is.each_floor (Has-from_contains m.config.floors own.0.0 own.0.1) in
      subst (λ k. k < 2 ^ 64) (own.1 own.0.0 own.0.1 own.0.2) old.sequence
  small domain floor (Some d) current raised n some =
      small_rank d n (member_bundle m valid is domain d current.accepted).0 (sym raised ∙ some)

  module _ (same : c.relationships ≡ m.config.relationships) (seeds : AreCurrentSeeds m c.seeds) where
    known_before : (d : List ℕ) → HasDomain c d → HasDomain m.config d
    known_before d has = elim has [
      | inl own ↦ inl (own.0, subst (λ rs. Contains rs own.0) same own.1, own.2)
      | inr more ↦ elim more [
        | inl endpoint ↦ inr (inl (endpoint.0, subst (λ rs. Contains rs endpoint.0) same endpoint.1, endpoint.2))
        | inr seed ↦ subst (HasDomain m.config) seed.2 (seed_is m c seeds seed.0 seed.1).1
      ]
    ]

    known_after : (d : List ℕ) → HasDomain m.config d → HasDomain c d
    known_after d has = elim has [
      | inl own ↦ inl (own.0, subst (λ rs. Contains rs own.0) (sym same) own.1, own.2)
      | inr more ↦ elim more [
        | inl endpoint ↦ inr (inl (endpoint.0, subst (λ rs. Contains rs endpoint.0) (sym same) endpoint.1, endpoint.2))
        | inr seed ↦ inr (inr (has_seed m c seeds d (inr (inr seed)) seed.0.document
            (subst (λ (x : List ℕ). IsMember m (document_of x seed.0.document)) seed.2 (seed_member m seed.0 seed.1))))
      ]
    ]

    new_seed : (s : Seed) → Contains c.seeds s → IsSeed s
    new_seed s has =
        let current = seed_is m c seeds s has in
        let bundle = member_bundle m valid is s.domain s.document current.0.accepted in
        record { domain = domain_text m.config is s.domain current.1; bundle = bundle.0; fits = bundle.1 }

    kept_floor : (f : Floor) → IsFloor m.config f → IsFloor c f
    kept_floor f old = record { domain = old.domain; known = known_after f.domain old.known; sequence = old.sequence }

    raised_floor : AreRaisedFloors m c.floors → (f : Floor) → Contains c.floors f → IsFloor c f
    raised_floor floors f has =
        let part = of_part floor_in floors.floored f (subst (λ (fs : List Floor). Contains fs f) floors.are has) in
        let there = floor_there part.item.domain part.item.floor f part.in_part in
        let raised = floors.each part.item part.has in
        let known = subst (HasDomain m.config) (sym there.0) (floors.domains.sound part.item.domain
        (contains_map (λ (x : FlooredDomain). x.domain) floors.floored part.item part.has)) in
        record {
          domain = domain_text m.config is f.domain known;
          known = known_after f.domain known;
          sequence = small part.item.domain part.item.floor raised.current raised.is raised.raised f.sequence there.1;
        }

    -- it is a configuration, if its floors are floors of it
    with_floors : IsStrictlySortedBy floor_cmp c.floors → AllByRecursion (IsFloor c) c.floors
        → ((s : Seed) → Contains c.seeds s → ReachesFloor c s.domain s.document) → IsConfiguration c
    with_floors rising each reaches = record {
      rising_relationships = subst (IsStrictlySortedBy relationship_cmp) (sym same) is.rising_relationships;
      rising_seeds = subst (IsStrictlySortedBy seed_cmp) (sym seeds.are)
          (rising_parts (λ (x : SeededDomain). x.domain) seed_in seed_cmp (λ x. seed_rises x.domain x.current) seed_between
          seeds.seeded seeds.domains.rising);
      rising_floors = rising;
      each_relationship = subst (AllByRecursion IsRelationship) (sym same) is.each_relationship;
      each_seed = all_from_has IsSeed c.seeds (λ s h. new_seed s (Contains-from_has c.seeds s h));
      each_floor = each;
      each_seed_reaches = all_from_has (λ (s : Seed). ReachesFloor c s.domain s.document) c.seeds
          (λ s h. reaches s (Contains-from_has c.seeds s h));
      few_relationships = subst (λ rs. length rs ≤ relationship_limit) (sym same) is.few_relationships;
      few_seeds = subst (λ (ss : List Seed). length ss ≤ seed_limit) (sym seeds.are)
          (let few = few_parts seeds.seeded in
          let names = is.few_domains (map (λ (x : SeededDomain). x.domain) seeds.seeded) seeds.domains in omega (arith, few, names));
      few_domains = λ domains are. is.few_domains domains (record {
        rising = are.rising;
        sound = λ d h. known_before d (are.sound d h);
        complete = λ d h. are.complete d (known_after d h);
      });
    }

-- as `laws::new_configurations` says
pub new_is : (choice : FloorChoice) (m : Meaning) (c : Configuration) → IsMeaning m → IsConfiguration m.config → IsNewConfig choice m c
    → IsConfiguration c
new_is Kept m c valid is new =
    with_floors m c valid is new.relationships new.seeds
    (subst (IsStrictlySortedBy floor_cmp) (sym new.floors) is.rising_floors)
    (all_from_has (IsFloor c) c.floors (λ f h. kept_floor m c valid is new.relationships new.seeds f
    (each_has (IsFloor m.config) m.config.floors f is.each_floor
    (Has-from_contains m.config.floors f (subst (λ (fs : List Floor). Contains fs f) new.floors (Contains-from_has c.floors f h))))))
    (λ s has f own. member_reaches m is s.domain s.document (seed_is m c new.seeds s has).0.accepted f
    (subst (λ (fs : List Floor). Contains fs f) new.floors own))
new_is Raised m c valid is new =
    with_floors m c valid is new.relationships new.seeds
    (subst (IsStrictlySortedBy floor_cmp) (sym new.floors.are)
    (rising_parts (λ (x : FlooredDomain). x.domain) floor_in floor_cmp (λ x. floor_rises x.domain x.floor) floor_between
    new.floors.floored new.floors.domains.rising))
    (all_from_has (IsFloor c) c.floors (λ f h. raised_floor m c valid is new.relationships new.seeds new.floors f (Contains-from_has c.floors f h)))
    (λ s has. reaches_new m c s.domain s.document s.document.rank new
    (record { current = Some s.document; is = (seed_is m c new.seeds s has).0; raised = refl })
    (λ n some. (n, some, omega arith)))

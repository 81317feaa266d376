-- The configuration of a new start, how many receipts fit it, and which domains are refused.
use Rattle.std.specs.Prelude.{◌≡◌, ◌≢◌, ℕ, List, [], ◌∷◌, ◌++◌, map, flat_map, codes, Bool, false}
use Rattle.std.specs.Prelude.{Contains, Option, Some, None, IsSome, cond}
use Rattle.std.specs.Str.{bytes_eq}
use Rattle.bundle_doc.specs.Bundle.{Bundle, HasKeyId, canonical_text}
use Rattle.fed_config.specs.Configuration.{AreDomains, Configuration, IsFloorOf, config_text}
use Rattle.fed_config.specs.declared.floor.Floor.{Floor}
use Rattle.fed_config.specs.declared.seed.Seed.{Seed}
use Rattle.receipt_core.specs.Acceptance.{IsFitting, Meaning, IsMember}
use Rattle.receipt_core.specs.Receipt.{Receipt}
use Rattle.receipt_core.specs.declared.distrust.Distrust.{Distrust}
use Rattle.closure_core.specs.AcceptedList.{document_of}
use Rattle.closure_core.specs.Count.{IsCount}
use Rattle.bundle_view.specs.Current.{IsCurrent}
use Rattle.reseeding.specs.declared.doubt.SeedDoubt.{SeedDoubt}
use Rattle.reseeding.specs.declared.doubt.SeedDoubt.TheVariants.{DistrustedKey, Rival}
use Rattle.reseeding.specs.declared.doubt.SeedDoubt.TheVariants.{Unnumbered}
use Rattle.reseeding.specs.declared.new_floors.FloorChoice.{FloorChoice}
use Rattle.reseeding.specs.declared.new_floors.FloorChoice.TheVariants.{Kept, Raised}
use Rattle.reseeding.specs.declared.new_start.Reseeded.{Reseeded}
use Rattle.reseeding.specs.declared.new_start.Reseeded.TheVariants.{Refusals, Seeded}

-- ---- the doubt about a document as a seed

-- A key is distrusted in the domain, and an X.509 authority of the document has it.
pub record ListsDistrusted (m : Meaning) (domain : List ℕ) (d : Bundle) : Type 0 where
  pub given : Distrust
  pub held : Contains m.records given
  pub of_domain : given.domain ≡ domain
  pub lists : HasKeyId d.authorities given.key

-- Another accepted document of the domain has the same sequence number, or has none as this one:
-- only their texts decide which of them is current.
pub record HasRival (m : Meaning) (domain : List ℕ) (d : Bundle) : Type 0 where
  pub rival : Bundle
  pub accepted : IsMember m (document_of domain rival)
  pub same : rival.rank ≡ d.rank
  pub other : canonical_text rival ≢ canonical_text d

-- the doubt about the document: a distrusted key is named before a rival
abbrev pub IsDoubt : Meaning → List ℕ → Bundle → Option SeedDoubt → Type 0
IsDoubt m domain d None = (ListsDistrusted m domain d → ⊥) × (HasRival m domain d → ⊥)
IsDoubt m domain d (Some DistrustedKey) = ListsDistrusted m domain d
IsDoubt m domain d (Some Rival) = (ListsDistrusted m domain d → ⊥) × HasRival m domain d
    × IsSome d.rank
IsDoubt m domain d (Some Unnumbered) = (ListsDistrusted m domain d → ⊥) × HasRival m domain d
    × (d.rank ≡ None)

-- the same for a domain's current document, if there is one
abbrev pub IsDoubtOf : Meaning → List ℕ → Option Bundle → Option SeedDoubt → Type 0
IsDoubtOf m domain None why = why ≡ None
IsDoubtOf m domain (Some d) why = IsDoubt m domain d why

-- ---- the lines of the domains that are refused

abbrev pub doubt_text : SeedDoubt → List ℕ
doubt_text DistrustedKey = codes ": the current bundle lists a distrusted key\n"
doubt_text Rival = codes ": another bundle has the current one's sequence\n"
doubt_text Unnumbered = codes ": another bundle has no sequence either\n"

-- whether the domain is the one that is allowed in spite of a doubt, if one is
abbrev pub is_allowed : Option (List ℕ) → List ℕ → Bool
is_allowed None domain = false
is_allowed (Some allowed) domain = bytes_eq allowed domain

abbrev pub refused_domain_line : List ℕ → SeedDoubt → List ℕ
refused_domain_line domain why = codes "refused " ++ (domain ++ doubt_text why)

-- the domain's line, if it has one
abbrev pub refusal_of : Option (List ℕ) → List ℕ → Option SeedDoubt → List ℕ
refusal_of allowed domain None = []
refusal_of allowed domain (Some why) =
    cond (is_allowed allowed domain) [] (refused_domain_line domain why)

-- a domain, its current document and the doubt about that
pub record JudgedDomain : Type 0 where
  pub domain : List ℕ
  pub current : Option Bundle
  pub doubt : Option SeedDoubt

pub record IsJudged (m : Meaning) (judged : JudgedDomain) : Type 0 where
  pub current : IsCurrent m judged.domain judged.current
  pub doubt : IsDoubtOf m judged.domain judged.current judged.doubt

abbrev pub refusal_line : Option (List ℕ) → JudgedDomain → List ℕ
refusal_line allowed judged = refusal_of allowed judged.domain judged.doubt

-- a line for each domain of the configuration with a doubt about its current document, except the
-- allowed one, sorted
pub record IsRefusalText (m : Meaning) (allowed : Option (List ℕ)) (text : List ℕ) : Type 0 where
  pub judged : List JudgedDomain
  pub domains : AreDomains m.config (map (λ s. s.domain) judged)
  pub each : (s : JudgedDomain) → Contains judged s → IsJudged m s
  pub is : text ≡ flat_map (refusal_line allowed) judged

-- ---- the seeds of the new configuration

abbrev pub seed_of : List ℕ → Option Bundle → List Seed
seed_of domain None = []
seed_of domain (Some d) = record { domain = domain; document = d } ∷ []

-- a domain and its current document
pub record SeededDomain : Type 0 where
  pub domain : List ℕ
  pub current : Option Bundle

abbrev pub seed_in : SeededDomain → List Seed
seed_in s = seed_of s.domain s.current

-- the current document of each domain of the configuration that has one, sorted
pub record AreCurrentSeeds (m : Meaning) (seeds : List Seed) : Type 0 where
  pub seeded : List SeededDomain
  pub domains : AreDomains m.config (map (λ s. s.domain) seeded)
  pub each : (s : SeededDomain) → Contains seeded s → IsCurrent m s.domain s.current
  pub are : seeds ≡ flat_map seed_in seeded

-- ---- the floors of the new configuration

-- The floor that a domain gets, by its current document: the sequence number of that, if it has
-- one; without a current document the floor that the domain has, if it has one.
abbrev pub IsRaisedBy : Meaning → List ℕ → (current : Option Bundle) → (floor : Option ℕ) → Type 0
IsRaisedBy m domain None floor = IsFloorOf m.config domain floor
IsRaisedBy m domain (Some d) floor = floor ≡ d.rank

-- a domain and the floor that it gets
pub record FlooredDomain : Type 0 where
  pub domain : List ℕ
  pub floor : Option ℕ

pub record IsRaised (m : Meaning) (f : FlooredDomain) : Type 0 where
  pub current : Option Bundle
  pub is : IsCurrent m f.domain current
  pub raised : IsRaisedBy m f.domain current f.floor

abbrev pub floor_of : List ℕ → Option ℕ → List Floor
floor_of domain None = []
floor_of domain (Some n) = record { domain = domain; sequence = n } ∷ []

abbrev pub floor_in : FlooredDomain → List Floor
floor_in f = floor_of f.domain f.floor

-- the floor of each domain of the configuration that gets one, sorted
pub record AreRaisedFloors (m : Meaning) (floors : List Floor) : Type 0 where
  pub floored : List FlooredDomain
  pub domains : AreDomains m.config (map (λ f. f.domain) floored)
  pub each : (f : FlooredDomain) → Contains floored f → IsRaised m f
  pub are : floors ≡ flat_map floor_in floored

-- the floors that the configuration has, or the raised ones
abbrev pub AreNewFloors : FloorChoice → Meaning → List Floor → Type 0
AreNewFloors Kept m floors = floors ≡ m.config.floors
AreNewFloors Raised m floors = AreRaisedFloors m floors

-- ---- the new configuration

-- the same relationships, the current documents as seeds, and the chosen floors
pub record IsNewConfig (choice : FloorChoice) (m : Meaning) (c : Configuration) : Type 0 where
  pub relationships : c.relationships ≡ m.config.relationships
  pub seeds : AreCurrentSeeds m c.seeds
  pub floors : AreNewFloors choice m c.floors

-- exactly n of the receipts that are held fit the configuration
abbrev pub IsStayCount : Meaning → Configuration → ℕ → Type 0
IsStayCount m c n = IsCount (λ (r : Receipt). Contains m.held r × IsFitting c r) n

-- its canonical text, and how many of the receipts that are held fit it
pub record MakesConfig (choice : FloorChoice) (m : Meaning) (text : List ℕ)
    (staying : ℕ) : Type 0 where
  pub config : Configuration
  pub is : IsNewConfig choice m config
  pub written : text ≡ config_text config
  pub stay : IsStayCount m config staying

-- ---- a call of `reseed`

-- No domain is refused, and this is the new configuration; or the lines of those that are.
abbrev pub Reseeds : Meaning → Option (List ℕ) → FloorChoice → Reseeded → Type 0
Reseeds m allowed choice (Seeded new) = IsRefusalText m allowed []
    × MakesConfig choice m new.text.items new.staying
Reseeds m allowed choice (Refusals text) = IsRefusalText m allowed text.items × (text.items ≢ [])

-- Floors: what they let through, and what they cost.
use Rattle.std.proofs.Common.{◌≡◌, ◌↔◌, ◌∙◌, ℕ, ◌≤◌, List, [], ◌∷◌, Some, None, Bool, true, false, IsTrue, refl, sym, subst, arith}
use Rattle.std.specs.Prelude.{Contains, MatchBool}
use Rattle.std.specs.List.{AllByRecursion}
use Rattle.bundle_doc.specs.Bundle.{Bundle}
use Rattle.fed_config.specs.Configuration.{Configuration, IsFloorOf, Reaches, ReachesFloor}
use Rattle.receipt_core.specs.declared.distrust.Distrust.{Distrust}
use Rattle.receipt_core.specs.Receipt.{Receipt, Pair, pair_of}
use Rattle.receipt_core.specs.Acceptance.{IsFitting, MissesFloor, Leads, Meaning, IsMeaning, IsMember, AreLetThrough, without_floors, pair_of_seed}
use Rattle.receipt_core.specs.RaisedFloors.{HasNoLower}
use Rattle.receipt_core.proofs.RisingFacts.{Has-from_contains, each_has}

-- ---- the floor of a domain

-- in a domain without a floor each document reaches it
pub no_floor : (c : Configuration) (domain : List ℕ) (document : Bundle) → IsFloorOf c domain None → ReachesFloor c domain document
no_floor c domain document none f has same = absurd (none f has same)

-- if a domain has a floor, to reach its number decides
pub floor_stated : (c : Configuration) (domain : List ℕ) (document : Bundle) (n : ℕ) (b : Bool)
    → IsFloorOf c domain (Some n) → (IsTrue b ↔ Reaches n document)
    → MatchBool b (ReachesFloor c domain document) (MissesFloor c domain document)
floor_stated c domain document n true floor stated = λ f has e. subst (λ k. Reaches k document) (sym (floor.1 f has e)) (stated.0 refl)
floor_stated c domain document n false floor stated = record {
  floor = floor.0.0;
  has = floor.0.1;
  of_domain = floor.0.2;
  below = λ reaches. let yes = stated.1 (subst (λ k. Reaches k document) (floor.1 floor.0.0 floor.0.1 floor.0.2) reaches) in cc;
}

-- what was found of an equal domain and an equal document holds
pub floor_at : (c : Configuration) (d e : List ℕ) (a b : Bundle) (found : Bool) → d ≡ e → a ≡ b
    → MatchBool found (ReachesFloor c d a) (MissesFloor c d a) → MatchBool found (ReachesFloor c e b) (MissesFloor c e b)
floor_at c d e a b found domain document h =
    subst (λ x. MatchBool found (ReachesFloor c e x) (MissesFloor c e x)) document
    (subst (λ x. MatchBool found (ReachesFloor c x a) (MissesFloor c x a)) domain h)

-- ---- what floors cost

-- without floors each document reaches its floor
none_to_reach : (c : Configuration) (domain : List ℕ) (document : Bundle) → ReachesFloor (without_floors c) domain document
none_to_reach c domain document f has same = absurd (Has-from_contains [] f has)

-- what fits, fits without floors
pub fits_without : (c : Configuration) (r : Receipt) → IsFitting c r → IsFitting (without_floors c) r
fits_without c r f = record {
  relationship = f.relationship;
  has = f.has;
  domain = f.domain;
  endpoint = f.endpoint;
  reaches = none_to_reach c r.domain r.document;
}

-- what fits without floors and reaches its floor, fits
pub fits_with : (c : Configuration) (r : Receipt) → IsFitting (without_floors c) r → ReachesFloor c r.domain r.document → IsFitting c r
fits_with c r f reaches = record {
  relationship = f.relationship;
  has = f.has;
  domain = f.domain;
  endpoint = f.endpoint;
  reaches = reaches;
}

-- a receipt fits exactly if it fits without floors and reaches its floor, as `laws::floors` says
pub fitting_split : (c : Configuration) (r : Receipt) → IsFitting c r ↔ (IsFitting (without_floors c) r × ReachesFloor c r.domain r.document)
fitting_split c r = (λ f. (fits_without c r f, f.reaches), λ h. fits_with c r h.0 h.1)

-- a chain of held receipts is one of receipts that the floors let through, and leads on without floors
chain_through : (c : Configuration) (records : List Distrust) (held through : List Receipt) (from : Pair) (chain : List Receipt) (to : Pair)
    → AreLetThrough c held through → AllByRecursion (Contains held) chain → Leads c records from chain to
    → AllByRecursion (Contains through) chain × Leads (without_floors c) records from chain to
chain_through c records held through from [] to lets has leads = (tt, leads)
chain_through c records held through from (r ∷ chain) to lets has leads =
    let rest = chain_through c records held through (pair_of r) chain to lets has.1 leads.2 in
    (((lets r).1 (has.0, leads.0.reaches), rest.0), (fits_without c r leads.0, leads.1, rest.1))

-- the other way round
chain_back : (c : Configuration) (records : List Distrust) (held through : List Receipt) (from : Pair) (chain : List Receipt) (to : Pair)
    → AreLetThrough c held through → AllByRecursion (Contains through) chain → Leads (without_floors c) records from chain to
    → AllByRecursion (Contains held) chain × Leads c records from chain to
chain_back c records held through from [] to lets has leads = (tt, leads)
chain_back c records held through from (r ∷ chain) to lets has leads =
    let rest = chain_back c records held through (pair_of r) chain to lets has.1 leads.2 in
    let let_through = (lets r).0 has.0 in
    ((let_through.0, rest.0), (fits_with c r leads.0 let_through.1, leads.1, rest.1))

-- what the floors let through is accepted without them, and nothing else, as `laws::floors` says
pub accepted_through : (m : Meaning) (through : List Receipt) → AreLetThrough m.config m.held through → (p : Pair)
    → IsMember m p ↔ IsMember (record { config = without_floors m.config; held = through; records = m.records }) p
accepted_through m through lets p = (
  λ is.
      let chain = chain_through m.config m.records m.held through (pair_of_seed is.seed) is.chain p lets is.held is.leads in
      record { seed = is.seed; configured = is.configured; chain = is.chain; held = chain.0; leads = chain.1 },
  λ is.
      let chain = chain_back m.config m.records m.held through (pair_of_seed is.seed) is.chain p lets is.held is.leads in
      record { seed = is.seed; configured = is.configured; chain = is.chain; held = chain.0; leads = chain.1 },
)

-- all that a replica holds is let through, as `laws::floors` says
pub all_through : (m : Meaning) → IsMeaning m → AreLetThrough m.config m.held m.held
all_through m valid r = (λ has. (has, (each_has (IsFitting m.config) m.held r valid.fitting (Has-from_contains m.held r has)).reaches), λ both. both.0)

-- ---- two sets of floors

-- what reaches a number reaches a lower one
reaches_lower : (low high : ℕ) (document : Bundle) → low ≤ high → Reaches high document → Reaches low document
reaches_lower low high document below reaches = (reaches.0, reaches.1, let above = reaches.2 in omega (arith, below, above))

-- what reaches the higher floors reaches the lower ones
reaches_before : (low high : Configuration) (domain : List ℕ) (document : Bundle) → AllByRecursion (HasNoLower high.floors) low.floors
    → ReachesFloor high domain document → ReachesFloor low domain document
reaches_before low high domain document each reaches f has same =
    let above = each_has (HasNoLower high.floors) low.floors f each (Has-from_contains low.floors f has) in
    reaches_lower f.sequence above.floor.sequence document above.no_lower (reaches above.floor above.has (above.of_domain ∙ same))

-- what fits under higher floors fits under lower ones, as `laws::floors` says
pub fits_before : (low high : Configuration) → high.relationships ≡ low.relationships → AllByRecursion (HasNoLower high.floors) low.floors
    → (r : Receipt) → IsFitting high r → IsFitting low r
fits_before low high same each r f = record {
  relationship = f.relationship;
  has = subst (λ rs. Contains rs f.relationship) same f.has;
  domain = f.domain;
  endpoint = f.endpoint;
  reaches = reaches_before low high r.domain r.document each f.reaches;
}

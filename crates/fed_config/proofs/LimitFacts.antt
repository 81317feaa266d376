-- Nothing else in a configuration depends on its limits.
use Rattle.std.proofs.Common.{◌≡◌, refl, List, ℕ, [], ◌∷◌}
use Rattle.std.specs.List.{AllByRecursion}
use Rattle.fed_config.specs.Configuration.{Configuration, AreDomains, IsConfiguration, IsFloor, config_id_of, config_text}
use Rattle.fed_config.specs.declared.floor.Floor.{Floor}
use Rattle.fed_config.specs.declared.limits.Limits.{Limits}

-- its domains are the same
pub AreDomains-limits : (c : Configuration) (limits : Limits) (domains : List (List ℕ)) → AreDomains c domains
    → AreDomains (record c { limits = limits }) domains
AreDomains-limits c limits domains h = record { rising = h.rising; sound = h.sound; complete = h.complete }

AreDomains-other : (c : Configuration) (limits : Limits) (domains : List (List ℕ)) → AreDomains (record c { limits = limits }) domains
    → AreDomains c domains
AreDomains-other c limits domains h = record { rising = h.rising; sound = h.sound; complete = h.complete }

each_floor : (c : Configuration) (limits : Limits) (floors : List Floor) → AllByRecursion (IsFloor c) floors
    → AllByRecursion (IsFloor (record c { limits = limits })) floors
each_floor c limits [] h = tt
each_floor c limits (f ∷ floors) h =
    (record { domain = h.0.domain; known = h.0.known; sequence = h.0.sequence }, each_floor c limits floors h.1)

-- it is a configuration with any limits
pub IsConfiguration-limits : (c : Configuration) (limits : Limits) → IsConfiguration c → IsConfiguration (record c { limits = limits })
IsConfiguration-limits c limits h = record {
  rising_relationships = h.rising_relationships;
  rising_seeds = h.rising_seeds;
  rising_floors = h.rising_floors;
  each_relationship = h.each_relationship;
  each_seed = h.each_seed;
  each_floor = each_floor c limits c.floors h.each_floor;
  each_seed_reaches = h.each_seed_reaches;
  few_relationships = h.few_relationships;
  few_seeds = h.few_seeds;
  few_domains = λ domains are. h.few_domains domains (AreDomains-other c limits domains are);
}

-- its digest is the same
pub no_limits : (c : Configuration) (limits : Limits) → config_id_of (record c { limits = limits }) ≡ config_id_of c
unfolding config_id_of config_text
no_limits c limits = refl

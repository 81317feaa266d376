-- The new configuration, out of its parts.
use Rattle.std.proofs.Common.{◌≡◌, ℕ, List, length, sym, ap, subst}
use Rattle.fed_config.specs.Configuration.{Configuration}
use Rattle.fed_config.specs.declared.floor.Floor.{Floor}
use Rattle.receipt_core.specs.Acceptance.{IsMeaning, Meaning}
use Rattle.reseeding.specs.Reseeding.{AreNewFloors, AreRaisedFloors, IsNewConfig, IsStayCount, MakesConfig}
use Rattle.reseeding.specs.Inside.Domains.{IsWrittenWith}
use Rattle.reseeding.specs.declared.new_floors.FloorChoice.{FloorChoice}
use Rattle.reseeding.specs.declared.new_floors.FloorChoice.TheVariants.{Kept, Raised}
use Rattle.reseeding.proofs.StayFacts.{all_stay}

makes_config : (choice : FloorChoice) (m : Meaning) (floors : List Floor) (text : List ℕ) (staying : ℕ) → IsWrittenWith m floors text
    → AreNewFloors choice m floors → ((c : Configuration) → IsNewConfig choice m c → IsStayCount m c staying)
    → MakesConfig choice m text staying
makes_config choice m floors text staying writes are count =
    let is : IsNewConfig choice m writes.config = record {
      relationships = writes.relationships;
      seeds = writes.seeds;
      floors = subst (AreNewFloors choice m) (sym writes.has) are;
    } in
    record { config = writes.config; is = is; written = writes.written; stay = count writes.config is }

-- with the floors that are kept
pub makes_kept : (m : Meaning) (lent : Configuration) (text : List ℕ) (staying : ℕ) → IsMeaning m → lent ≡ m.config
    → IsWrittenWith m lent.floors text → staying ≡ length m.held → MakesConfig Kept m text staying
makes_kept m lent text staying valid same writes all =
    makes_config Kept m lent.floors text staying writes (ap (λ (c : Configuration). c.floors) same)
    (λ c new. subst (IsStayCount m c) (sym all) (all_stay m c valid new))

-- with raised ones
pub makes_raised : (m : Meaning) (floors : List Floor) (text : List ℕ) (staying : ℕ) → AreRaisedFloors m floors → IsWrittenWith m floors text
    → ((c : Configuration) → IsNewConfig Raised m c → IsStayCount m c staying) → MakesConfig Raised m text staying
makes_raised m floors text staying are writes count = makes_config Raised m floors text staying writes are count

-- Why a receipt does not fit: each cause leaves no room for the others, nor for a receipt that fits.
use Rattle.std.proofs.Common.{◌≡◌, ap, sym, ◌∙◌}
use Rattle.fed_config.specs.Configuration.{Configuration, IsConfiguration}
use Rattle.fed_config.specs.declared.relationship.Relationship.{Relationship}
use Rattle.receipt_core.specs.Receipt.{Receipt}
use Rattle.receipt_core.specs.Acceptance.{IsFitting}
use Rattle.receipt_core.proofs.SearchFacts.{one_relationship}
use Rattle.closure_core.specs.Refusals.{IsOfUnknownDomain, IsOfWrongEndpoint, IsBelowFloor}

-- A receipt that fits is of a known domain.
pub fits_known : (c : Configuration) (r : Receipt) → IsFitting c r → IsOfUnknownDomain c r → ⊥
fits_known c r fits unknown = unknown fits.relationship fits.has fits.domain

-- A receipt that fits has no wrong endpoint: a domain has one relationship.
pub fits_right : (c : Configuration) (r : Receipt) → IsConfiguration c → IsFitting c r → IsOfWrongEndpoint c r → ⊥
fits_right c r is fits wrong =
    let one : fits.relationship ≡ wrong.relationship =
    one_relationship c fits.relationship wrong.relationship is fits.has wrong.has (fits.domain ∙ sym wrong.domain) in
    wrong.other (sym (ap (λ (x : Relationship). x.endpoint) one) ∙ fits.endpoint)

-- A receipt that fits is not below a floor.
pub fits_above : (c : Configuration) (r : Receipt) → IsFitting c r → IsBelowFloor c r → ⊥
fits_above c r fits low = low.misses.below (fits.reaches low.misses.floor low.misses.has low.misses.of_domain)

-- A receipt with a wrong endpoint is of a known domain.
pub wrong_known : (c : Configuration) (r : Receipt) → IsOfWrongEndpoint c r → IsOfUnknownDomain c r → ⊥
wrong_known c r wrong unknown = unknown wrong.relationship wrong.has wrong.domain

-- A receipt below a floor is of a known domain.
pub low_known : (c : Configuration) (r : Receipt) → IsBelowFloor c r → IsOfUnknownDomain c r → ⊥
low_known c r low unknown = unknown low.relationship low.has low.domain

-- A receipt below a floor has no wrong endpoint.
pub low_right : (c : Configuration) (r : Receipt) → IsConfiguration c → IsBelowFloor c r → IsOfWrongEndpoint c r → ⊥
low_right c r is low wrong =
    let one : low.relationship ≡ wrong.relationship =
    one_relationship c low.relationship wrong.relationship is low.has wrong.has (low.domain ∙ sym wrong.domain) in
    wrong.other (sym (ap (λ (x : Relationship). x.endpoint) one) ∙ low.endpoint)

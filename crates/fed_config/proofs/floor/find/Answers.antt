use Rattle.std.proofs.Common.{◌≡◌, sym, subst, get_or, ℕ, List, Equal, refl, rules}
use Rattle.std.specs.Ordering.{nat_cmp}
use Rattle.std.specs.List.{Contains}
use Rattle.std.specs.Cmp.Lexicographic.{slice_cmp}
use Rattle.std.proofs.lemmas.Map.Lookups.{exact_bytes}
use Rattle.std.proofs.lemmas.Fn.{always_returns_same}
use Rattle.fed_config.proofs.DomainFacts.{domain_not_found}
use Rattle.fed_config.proofs.floor.find.Goals as goal

pub returns-in-Ok : goal.returns-in-Ok
returns-in-Ok c =
    let here : get_or c.args.domains.now c.in-Ok.place c.index-domains-place.result ≡ c.index-domains-place.result = sym c.index-domains-place.is in
    let tied : slice_cmp nat_cmp (get_or c.args.domains.now c.in-Ok.place c.index-domains-place.result) c.args.name.now
    ≡ Equal = c.in-Ok.ensures.position (λ d. slice_cmp nat_cmp d c.args.name.now)
    (always_returns_same _ _ _ (λ a r q k. search rules)) c.index-domains-place.result in
    let same : c.index-domains-place.result ≡ c.args.name.now = exact_bytes c.index-domains-place.result c.args.name.now
    (subst (λ (d : List ℕ). slice_cmp nat_cmp d c.args.name.now ≡ Equal) here tied) in
    (same, subst (Contains c.args.domains.now) same (c.in-Ok.place, c.in-Ok.ensures.bound, here))

pub returns-in-Err : goal.returns-in-Err
returns-in-Err c = λ d h.
    domain_not_found c.args.domains.now c.args.name.now c.in-Err.field-0 c.requires
    (c.in-Err.ensures.position (λ d. slice_cmp nat_cmp d c.args.name.now)
    (always_returns_same _ _ _ (λ a r q k. search rules))) c.args.name.now h.1 refl

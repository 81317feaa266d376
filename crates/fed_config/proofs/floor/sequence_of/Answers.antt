use Rattle.std.proofs.Common.{◌≡◌, sym, ap, subst, ◌∙◌, get_or, Equal, rules}
use Rattle.std.specs.Ordering.{nat_cmp}
use Rattle.std.specs.List.{Contains}
use Rattle.std.specs.Cmp.Lexicographic.{slice_cmp}
use Rattle.std.proofs.lemmas.Map.Lookups.{exact_bytes}
use Rattle.std.proofs.lemmas.Fn.{always_returns_same}
use Rattle.fed_config.specs.declared.floor.Floor.{Floor}
use Rattle.fed_config.proofs.DomainFacts.{floor_not_found, same_floor}
use Rattle.fed_config.proofs.floor.sequence_of.Goals as goal

pub returns-in-Ok : goal.returns-in-Ok
returns-in-Ok c =
    let here : get_or c.args.floors.now c.in-Ok.place c.index-floors-place.result ≡ c.index-floors-place.result = sym c.index-floors-place.is in
    let tied : slice_cmp nat_cmp (get_or c.args.floors.now c.in-Ok.place c.index-floors-place.result).domain c.args.domain.now
    ≡ Equal = c.in-Ok.ensures.position (λ f. slice_cmp nat_cmp f.domain c.args.domain.now)
    (always_returns_same _ _ _ (λ a r q k. search rules)) c.index-floors-place.result in
    let domain : c.index-floors-place.result.domain ≡ c.args.domain.now = exact_bytes c.index-floors-place.result.domain c.args.domain.now
    (subst (λ (f : Floor). slice_cmp nat_cmp f.domain c.args.domain.now ≡ Equal) here tied) in
    let has : Contains c.args.floors.now c.index-floors-place.result = (c.in-Ok.place, c.in-Ok.ensures.bound, here) in (
      (c.index-floors-place.result, has, domain),
      λ f other named. ap (λ (g : Floor). g.sequence)
          (same_floor c.args.floors.now f c.index-floors-place.result c.requires other has (named ∙ sym domain) ∙ sym here),
    )

pub returns-in-Err : goal.returns-in-Err
returns-in-Err c =
    floor_not_found c.args.floors.now c.args.domain.now c.in-Err.field-0 c.requires
    (c.in-Err.ensures.position (λ f. slice_cmp nat_cmp f.domain c.args.domain.now)
    (always_returns_same _ _ _ (λ a r q k. search rules)))

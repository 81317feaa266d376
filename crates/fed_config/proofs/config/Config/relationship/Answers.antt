use Rattle.std.proofs.Common.{◌≡◌, sym, ap, subst, ◌∙◌, get_or, length, ◌<◌, Equal, rules}
use Rattle.std.specs.Ordering.{nat_cmp}
use Rattle.std.specs.List.{Contains}
use Rattle.std.specs.List.Sorted.{IsStrictlySortedBy}
use Rattle.std.specs.Cmp.Lexicographic.{slice_cmp}
use Rattle.std.proofs.lemmas.Map.Lookups.{exact_bytes}
use Rattle.std.proofs.lemmas.Fn.{always_returns_same}
use Rattle.fed_config.specs.declared.relationship.Relationship.{Relationship}
use Rattle.fed_config.specs.Configuration.{relationship_cmp}
use Rattle.fed_config.proofs.DomainFacts.{relationship_not_found}
use Rattle.fed_config.proofs.config.Config.relationship.Goals as goal

pub returns-in-Ok : goal.returns-in-Ok
returns-in-Ok c =
    let lent : c.deref.result.now ≡ c.args.self.now.relationships = c.deref.ensures.value ∙ ap (λ v. v.relationships) c.self.view_is in
    let kept : c.self.inside.relationships.items ≡ c.args.self.now.relationships = ap (λ v. v.relationships) c.self.view_is in
    let within : c.in-Ok.place < length c.args.self.now.relationships = subst (λ l. c.in-Ok.place < length l) lent c.in-Ok.ensures.bound in
    let here : get_or c.args.self.now.relationships c.in-Ok.place c.index.result.now ≡ c.index.result.now =
    subst (λ l. get_or l c.in-Ok.place c.index.result.now ≡ c.index.result.now) kept (sym c.index.ensures) in
    let tied : slice_cmp nat_cmp (get_or c.deref.result.now c.in-Ok.place c.index.result.now).domain c.args.domain.now
    ≡ Equal = c.in-Ok.ensures.position (λ r. slice_cmp nat_cmp r.domain c.args.domain.now)
    (always_returns_same _ _ _ (λ a r q k. search rules)) c.index.result.now in
    let same : get_or c.deref.result.now c.in-Ok.place c.index.result.now ≡ c.index.result.now =
    subst (λ l. get_or l c.in-Ok.place c.index.result.now ≡ c.index.result.now) (sym lent) here in (
      (c.in-Ok.place, within, here),
      exact_bytes c.index.result.now.domain c.args.domain.now
          (subst (λ (r : Relationship). slice_cmp nat_cmp r.domain c.args.domain.now ≡ Equal) same tied),
    )

pub returns-in-Err : goal.returns-in-Err
returns-in-Err c =
    let lent : c.deref.result.now ≡ c.args.self.now.relationships = c.deref.ensures.value ∙ ap (λ v. v.relationships) c.self.view_is in
    let rising : IsStrictlySortedBy relationship_cmp c.deref.result.now =
    subst (IsStrictlySortedBy relationship_cmp) (sym c.deref.ensures.value) c.self.invariant.is.rising_relationships
    in
    let none = relationship_not_found c.deref.result.now c.args.domain.now c.in-Err.field-0 rising
    (c.in-Err.ensures.position (λ r. slice_cmp nat_cmp r.domain c.args.domain.now)
    (always_returns_same _ _ _ (λ a r q k. search rules))) in
    λ r has same. none r (subst (λ l. Contains l r) (sym lent) has) same

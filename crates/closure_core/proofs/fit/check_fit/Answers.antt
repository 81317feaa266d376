use Rattle.std.proofs.Common.{◌≡◌, ◌∙◌, ℕ, Bool, true, false, not, nat_eq, List, None, refl, sym, ap, subst}
use Rattle.std.specs.Option.{option_copied}
use Rattle.std.specs.Cmp.Lexicographic.{same_text}
use lib.Pointwise.{pointwise}
use Rattle.bundle_doc.specs.Bundle.{Bundle}
use Rattle.fed_config.specs.Configuration.{IsRelationshipOf, ReachesFloor}
use Rattle.spiffe_name.specs.SpiffeId.{Id, IsId}
use Rattle.spiffe_name.proofs.IdFacts.{one_value}
use Rattle.receipt_core.specs.Acceptance.{MissesFloor}
use Rattle.closure_core.proofs.fit.check_fit.Goals as goal

-- A negation that is false has a true inside.
turned_not : (b : Bool) → false ≡ not b → true ≡ b
turned_not true e = refl
turned_not false e = absurd (cc)

pub returns-in_default-clause-fits : goal.returns-in_default-clause-fits
returns-in_default-clause-fits c = λ x has e.
    let none : IsRelationshipOf c.args.config.now c.domain.result.now None =
    subst (λ o. IsRelationshipOf c.args.config.now c.domain.result.now (option_copied o)) c.in_default.is
    c.relationship.ensures in
    none x has (e ∙ sym c.domain.ensures.domain)

pub returns-then-reaches_floor-clause-fits : goal.returns-then-reaches_floor-clause-fits
returns-then-reaches_floor-clause-fits c =
    let texts : c.as_str.result.now ≡ c.as_str-2.result.now =
    same_text c.as_str.result.now c.as_str-2.result.now (turned_not (pointwise nat_eq c.as_str.result.now c.as_str-2.result.now) c.if-ne.ensures) in
    record {
      relationship = c.in-Some.relationship.now;
      has = c.in-Some.ensures.0;
      domain = c.in-Some.ensures.1 ∙ c.domain.ensures.domain;
      endpoint = one_value c.in-Some.relationship.now.endpoint c.args.receipt.now.endpoint c.as_str.ensures.valid
          (subst (λ (e : Id). IsId e) c.endpoint.ensures c.as_str-2.ensures.valid)
          (sym c.as_str.ensures.text ∙ texts ∙ c.as_str-2.ensures.text ∙ ap (λ (e : Id). e.text) c.endpoint.ensures);
      reaches = subst (λ (d : Bundle). ReachesFloor c.args.config.now c.args.receipt.now.domain d) c.document.ensures
          (subst (λ (n : List ℕ). ReachesFloor c.args.config.now n c.document.result.now) c.domain-2.ensures.domain c.if-reaches_floor.ensures);
    }

pub returns-else-reaches_floor-clause-fits : goal.returns-else-reaches_floor-clause-fits
returns-else-reaches_floor-clause-fits c =
    let texts : c.as_str.result.now ≡ c.as_str-2.result.now =
    same_text c.as_str.result.now c.as_str-2.result.now (turned_not (pointwise nat_eq c.as_str.result.now c.as_str-2.result.now) c.if-ne.ensures) in
    record {
      relationship = c.in-Some.relationship.now;
      has = c.in-Some.ensures.0;
      domain = c.in-Some.ensures.1 ∙ c.domain.ensures.domain;
      endpoint = one_value c.in-Some.relationship.now.endpoint c.args.receipt.now.endpoint c.as_str.ensures.valid
          (subst (λ (e : Id). IsId e) c.endpoint.ensures c.as_str-2.ensures.valid)
          (sym c.as_str.ensures.text ∙ texts ∙ c.as_str-2.ensures.text ∙ ap (λ (e : Id). e.text) c.endpoint.ensures);
      misses = subst (λ (d : Bundle). MissesFloor c.args.config.now c.args.receipt.now.domain d) c.document.ensures
          (subst (λ (n : List ℕ). MissesFloor c.args.config.now n c.document.result.now) c.domain-2.ensures.domain c.if-reaches_floor.ensures);
    }

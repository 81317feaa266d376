use Rattle.std.proofs.Common.{sym, ap₂, ◌∙◌, bytes_eq}
use Rattle.fed_config.specs.declared.relationship.Relationship.{Relationship}
use Rattle.fed_config.proofs.SingleFacts.{single_more, not_single, single_all}
use Rattle.fed_config.proofs.sets.are_single.Goals as goal

pub returns-then-eq : goal.returns-then-eq
returns-then-eq c = (
  λ h. absurd (cc),
  λ h. absurd (not_single c.args.relationships.now c.loop-place.place c.index-relationships-place.result
      c.index-relationships-place-in-loop-place.result h c.loop-place.auto.place c.loop-place-test.true
      c.index-relationships-place.is c.index-relationships-place-in-loop-place.is
      (ap₂ (λ (x y : Relationship). bytes_eq x.domain y.domain) c.index-relationships-place.is
      c.index-relationships-place-in-loop-place.is ∙ sym c.eq.ensures ∙ c.if-eq.true)),
)

pub loop-place-preserved : goal.loop-place-preserved
loop-place-preserved c = single_more c.args.relationships.now c.loop-place.place c.index-relationships-place.result
    c.index-relationships-place-in-loop-place.result c.requires c.loop-place.auto.place c.loop-place-test.true
    c.index-relationships-place.is c.index-relationships-place-in-loop-place.is
    (ap₂ (λ (x y : Relationship). bytes_eq x.domain y.domain) c.index-relationships-place.is
    c.index-relationships-place-in-loop-place.is ∙ sym c.eq.ensures ∙ c.if-eq.false) c.loop-place.invariant

pub returns : goal.returns
returns c = single_all c.args.relationships.now c.loop-place.place c.loop-place-test.false c.loop-place.invariant

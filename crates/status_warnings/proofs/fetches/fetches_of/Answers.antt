use Rattle.std.proofs.Common.{◌∙◌, List, ap, subst}
use Rattle.std.specs.List.{AllZip}
use Rattle.fed_config.specs.Configuration.{Configuration}
use Rattle.fed_config.specs.declared.relationship.Relationship.{Relationship}
use Rattle.json_text.proofs.PartFacts.{zip_end, zip_next}
use Rattle.status_warnings.specs.Fetches.{IsFetch}
use Rattle.status_warnings.specs.declared.seen.Fetch.{Fetch}
use Rattle.status_warnings.proofs.fetches.fetches_of.Goals as goal

pub loop-relationship-preserved : goal.loop-relationship-preserved
loop-relationship-preserved g c =
    zip_next (λ r f. IsFetch (g.C.Closure.state c.args.closure.now).meaning c.args.log.now r.domain f)
    c.relationships-relationship-items.result.now c.loop-relationship.relationship-index c.relationship-item.result c.loop-relationship.fetches.items _
    c.push.new.self.items c.loop-relationship-test.true c.relationship-item.is c.loop-relationship.invariant c.in_ok-fetch_of.ensures
    c.in_ok-push.ensures.items

pub returns : goal.returns
returns g c =
    let Is = λ (r : Relationship) (f : Fetch). IsFetch (g.C.Closure.state c.args.closure.now).meaning c.args.log.now r.domain f in
    subst (λ (all : List Relationship). AllZip Is all c.loop-relationship.fetches.items)
    (c.relationships-relationship-items.ensures ∙ ap (λ (k : Configuration). k.relationships) c.config.ensures.config)
    (zip_end Is c.relationships-relationship-items.result.now c.loop-relationship.relationship-index c.loop-relationship.fetches.items
    c.loop-relationship-test.false c.loop-relationship.invariant)

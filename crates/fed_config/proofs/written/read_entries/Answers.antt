use Rattle.std.proofs.Common.{inr, refl, sym, subst}
use Rattle.std.specs.List.{AllZip}
use Rattle.std.proofs.lemmas.Result.{err_from_is_err_and}
use Rattle.serde_json.specs.View.{view}
use Rattle.fed_config.specs.Inside.Entries.{seed_text}
use Rattle.fed_config.specs.Written.{SaysRelationshipText, SaysSeedText}
use Rattle.fed_config.proofs.WrittenFacts.{narrower, relationships_of, seeds_of, says}
use Rattle.fed_config.proofs.written.read_entries.Goals as goal

pub returns-in_err-floors-clause-said : goal.returns-in_err-floors-clause-said
returns-in_err-floors-clause-said c =
    let p = err_from_is_err_and c.from_residual.result c.from_residual.ensures.1 in
    rw (p.1, p.2) (narrower _ _ _ (λ h. (h.0.floors, h.1.floors)) c.in_err-floors.ensures.said)

pub returns-in_default-array_of-clause-said : goal.returns-in_default-array_of-clause-said
returns-in_default-array_of-clause-said c = inr (refl, λ h. c.in_default-array_of.ensures h.1.seeds h.1.has_seeds)

pub returns-in_err-read_relationships-clause-said : goal.returns-in_err-read_relationships-clause-said
returns-in_err-read_relationships-clause-said c =
    let p = err_from_is_err_and c.from_residual-in_err-read_relationships.result c.from_residual-in_err-read_relationships.ensures.1 in
    rw (p.1, p.2)
    (narrower _ _ _ (λ h. let found = relationships_of _ c.in-Some.relationships.now.items c.in-Some.ensures h in (
      found.0,
      subst (λ l. AllZip (λ value t. SaysRelationshipText (view value) t) l found.0)
          (sym c.deref.ensures.value) found.1,
    )) c.in_err-read_relationships.ensures)

pub returns-in_err-read_seeds-clause-said : goal.returns-in_err-read_seeds-clause-said
returns-in_err-read_seeds-clause-said c =
    let p = err_from_is_err_and c.from_residual-in_err-read_seeds.result c.from_residual-in_err-read_seeds.ensures.1 in
    rw (p.1, p.2)
    (narrower _ _ _ (λ h. let found = seeds_of _ c.in-Some-array_of.seeds.now.items c.in-Some-array_of.ensures h in (
      found.0,
      subst (λ l. AllZip (λ value t. SaysSeedText (view value) t) l found.0) (sym c.deref-2.ensures.value)
          found.1,
    )) c.in_err-read_seeds.ensures)

pub returns-clause-said : goal.returns-clause-said
returns-clause-said c =
    says _ c.in-Some.relationships.now.items c.in-Some-array_of.seeds.now.items c.in_ok-read_relationships.field-0.items
    c.in_ok-read_seeds.field-0.items c.in_ok-floors.floors.items c.in_ok-floors.ensures.said c.in-Some.ensures
    c.in-Some-array_of.ensures
    (subst (λ l. AllZip (λ value t. SaysRelationshipText (view value) t) l c.in_ok-read_relationships.field-0.items)
    c.deref.ensures.value c.in_ok-read_relationships.ensures)
    (subst (λ l. AllZip (λ value e. SaysSeedText (view value) (seed_text e)) l c.in_ok-read_seeds.field-0.items)
    c.deref-2.ensures.value c.in_ok-read_seeds.ensures)

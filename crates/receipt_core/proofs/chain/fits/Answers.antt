use Rattle.std.proofs.Common.{◌∙◌, sym, refl, false}
use Rattle.receipt_core.proofs.ChainFacts.{stated_no, not_stated}
use Rattle.receipt_core.proofs.FloorFacts.{floor_at}
use Rattle.receipt_core.proofs.SearchFacts.{fits_stated, misfit_stated}
use Rattle.receipt_core.proofs.chain.fits.Goals as goal

pub returns-then-is_same_id : goal.returns-then-is_same_id
returns-then-is_same_id c =
    fits_stated c.args.config.now c.in-Some.relationship.now c.args.receipt.now c.reaches_floor.result
    c.in-Some.ensures.0 (c.in-Some.ensures.1 ∙ c.domain.ensures.domain)
    (c.is_same_id.ensures.0 c.if-is_same_id.true ∙ c.endpoint.ensures)
    (floor_at c.args.config.now c.domain-then-is_same_id.result.now c.args.receipt.now.domain c.document.result.now c.args.receipt.now.document
    c.reaches_floor.result c.domain-then-is_same_id.ensures.domain c.document.ensures c.reaches_floor.ensures)

pub returns-else-is_same_id : goal.returns-else-is_same_id
returns-else-is_same_id c =
    stated_no _ false refl (misfit_stated c.args.config.now c.in-Some.relationship.now c.args.receipt.now c.domains.ensures.form
    c.in-Some.ensures.0 (c.in-Some.ensures.1 ∙ c.domain.ensures.domain)
    (λ same. not_stated _ c.is_same_id.result c.is_same_id.ensures c.if-is_same_id.false (same ∙ sym c.endpoint.ensures)))

pub returns-in-None : goal.returns-in-None
returns-in-None c = stated_no _ false refl (λ f. c.in-None.ensures f.relationship f.has (f.domain ∙ sym c.domain.ensures.domain))

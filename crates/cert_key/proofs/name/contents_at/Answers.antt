use Rattle.std.proofs.Common.{sym, subst}
use Rattle.cert_key.proofs.ContentFacts.{Reads, after_short, reads_more}
use Rattle.cert_key.proofs.name.contents_at.Goals as goal

pub elements-smaller : goal.elements-smaller
elements-smaller c =
    after_short c.args.tag c.elements.rest.now _ c.elements.invariant.fits c.in-Some.ensures

pub elements-preserved : goal.elements-preserved
elements-preserved c =
    subst (λ xs. Reads c.args.tag c.args.bytes.now xs c.in-Some.element.after.now) (sym c.in_ok-push.ensures.items)
    (reads_more c.args.tag c.args.bytes.now c.elements.contents.items c.elements.rest.now _ c.elements.invariant c.in-Some.ensures)

use Rattle.std.proofs.Common.{◌≡◌, ◌+◌, refl, subst}
use Rattle.bundle_doc.specs.Bundle.{doc_id_of}
use Rattle.key_view.specs.Inside.Listed.{AddsListed}
use Rattle.key_view.proofs.ListingFacts.{listings_more}
use Rattle.key_view.proofs.listings.accepted_listings.Goals as goal

pub loop-earlier-preserved : goal.loop-earlier-preserved
loop-earlier-preserved c =
    let id : c.id.result.0 ≡ doc_id_of c.args.domain.now c.index-accepted-earlier.result = cc in
    let authorities : c.authorities.result.now ≡ c.index-accepted-earlier.result.authorities = cc in
    listings_more c.args.domain.now c.args.accepted.now c.loop-earlier.earlier c.index-accepted-earlier.result c.id.result (c.loop-earlier.earlier + 1)
    c.loop-earlier.listings c.list_document.new.listings c.loop-earlier-test.true c.index-accepted-earlier.is c.loop-earlier.invariant id refl
    (subst (λ xs. AddsListed c.id.result (c.loop-earlier.earlier + 1) xs c.loop-earlier.listings c.list_document.new.listings) authorities
    c.in_ok-list_document.ensures)

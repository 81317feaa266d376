use Rattle.key_view.proofs.ListingFacts.{listed_all, listed_more, listed_none}
use Rattle.key_view.proofs.listings.list_document.Goals as goal

pub loop-authority-init : goal.loop-authority-init
loop-authority-init c = listed_none c.args.document.id c.args.document.number c.args.listings.now c.requires

pub loop-authority-preserved : goal.loop-authority-preserved
loop-authority-preserved c =
    listed_more c.args.document.id c.args.document.number c.args.authorities.now c.loop-authority.authority-index c.authority-item.result _ _ _
    c.loop-authority-test.true c.authority-item.is c.loop-authority.invariant c.in_ok-list_authority.ensures

pub returns : goal.returns
returns c =
    listed_all c.args.document.id c.args.document.number c.args.authorities.now c.loop-authority.authority-index _ _
    c.loop-authority-test.false c.loop-authority.invariant

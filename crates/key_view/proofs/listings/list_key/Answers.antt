use Rattle.key_view.proofs.ListingFacts.{key_listed}
use Rattle.key_view.proofs.listings.list_key.Goals as goal

pub returns : goal.returns
returns c =
    key_listed c.args.document.id c.args.document.number c.args.key c.args.listings.now c.remove-before.new.self c.insert.new.self
    c.remove-before.result c.in_ok-listing.listing c.remove-before.ensures.value c.remove-before.ensures.updates.0 c.in_ok-insert.ensures.updates.0
    c.in_ok-listing.ensures.ids c.in_ok-listing.ensures.last

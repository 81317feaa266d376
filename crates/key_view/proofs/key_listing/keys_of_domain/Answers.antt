use Rattle.key_view.proofs.ListingFacts.{entries_listed}
use Rattle.key_view.proofs.key_listing.keys_of_domain.Goals as goal

pub returns-clause-is : goal.returns-clause-is
returns-clause-is g c =
    let are = rw c.as_slice-2.ensures.value at c.in_ok-listings.ensures in
    let known = rw c.as_slice.ensures.value at c.in_ok-known.ensures in
    let zip = rw c.as_slice-3.ensures.value at c.in_ok-key_entries.ensures in
    rw c.in_ok-try_clone.ensures (record {
      accepted = c.in_ok-accepted.accepted.items;
      are_accepted = c.in_ok-accepted.ensures;
      each = entries_listed _ _ _ _ _ _ are (rw known at zip);
    })

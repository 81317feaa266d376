use Rattle.std.proofs.Common.{length, ap, ◌∙◌, arith}
use Rattle.std.proofs.lemmas.List.{length_push}
use Rattle.wait_index.proofs.ListingFacts.{IsListing-grow}
use Rattle.wait_index.proofs.node_set.NodeSet.add_node.Goals as goal

pub invariant_of-self-clause-listed : goal.invariant_of-self-clause-listed
invariant_of-self-clause-listed c =
    let s = c.args.self.now in
    rw c.push_reserved.ensures.items (IsListing-grow s.items.items s.places.items s.listed)

pub invariant_of-self-clause-roomy : goal.invariant_of-self-clause-roomy
invariant_of-self-clause-roomy c =
    let s = c.args.self.now in
    omega (arith, ap length c.push_reserved.ensures.items ∙ length_push s.places.items 0, c.requires.items_room)

use Rattle.std.proofs.Common.{◌≡◌, [], ◌∷◌, ◌++◌, arith}
use Rattle.std.proofs.lemmas.List.{length-set}
use Rattle.wait_index.proofs.ListingFacts.{IsListing-pop}
use Rattle.wait_index.proofs.label_set.LabelSet.take_last.Goals as goal

pub invariant_of-self-clause-listed : goal.invariant_of-self-clause-listed
invariant_of-self-clause-listed c =
    let s = c.args.self.now in
    let items : s.items.items ≡ c.take_last.new.self.items ++ c.index-label.result ∷ [] = cc in
    IsListing-pop c.take_last.new.self.items s.places.items c.index-label.result (rw (← items) s.listed)

pub invariant_of-self-clause-roomy : goal.invariant_of-self-clause-roomy
invariant_of-self-clause-roomy c =
    let s = c.args.self.now in
    omega (arith, length-set s.places.items c.index-label.result 0, c.take_last.ensures.capacity, s.roomy)

pub invariant_of-self-clause-few : goal.invariant_of-self-clause-few
invariant_of-self-clause-few c =
    let s = c.args.self.now in
    omega (arith, length-set s.places.items c.index-label.result 0, s.few)

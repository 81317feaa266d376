use Rattle.std.proofs.Common.{◌≡◌, ◌+◌, [], ◌∷◌, ◌++◌, length, arith}
use Rattle.std.proofs.lemmas.List.{length-set}
use Rattle.wait_index.proofs.ListingFacts.{fewer, IsListing-insert}
use Rattle.wait_index.proofs.node_set.NodeSet.insert.Goals as goal

pub push_reserved-requires : goal.push_reserved-requires
push_reserved-requires c =
    let s = c.args.self.now in
    omega (arith, s.items.ok.0, fewer s.items.items s.places.items c.args.node s.listed c.requires.node c.requires.absent, s.roomy)

pub overflow_cast-len : goal.overflow_cast-len
overflow_cast-len c =
    let s = c.args.self.now in
    omega (
      arith,
      c.len.ensures,
      c.push_reserved.ensures.len,
      s.items.ok.0,
      fewer s.items.items s.places.items c.args.node s.listed c.requires.node c.requires.absent,
      s.few,
    )

pub invariant_of-self-clause-listed : goal.invariant_of-self-clause-listed
invariant_of-self-clause-listed c =
    let s = c.args.self.now in
    let items : c.push_reserved.new.self.items ≡ s.items.items ++ c.args.node ∷ [] = cc in
    let len : c.len.result ≡ length s.items.items + 1 = omega (arith, c.len.ensures, c.push_reserved.ensures.len, s.items.ok.0) in
    rw (items, len) (IsListing-insert s.items.items s.places.items c.args.node s.listed c.requires.node c.requires.absent)

pub invariant_of-self-clause-roomy : goal.invariant_of-self-clause-roomy
invariant_of-self-clause-roomy c =
    let s = c.args.self.now in
    omega (arith, length-set s.places.items c.args.node c.len.result, c.push_reserved.ensures.capacity, s.roomy)

pub invariant_of-self-clause-few : goal.invariant_of-self-clause-few
invariant_of-self-clause-few c =
    let s = c.args.self.now in
    omega (arith, length-set s.places.items c.args.node c.len.result, s.few)

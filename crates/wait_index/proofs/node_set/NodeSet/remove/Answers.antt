use Rattle.std.proofs.Common.{◌≡◌, ℕ, true, ◌+◌, ◌-◌, ◌<◌, length, get_or, set, sym, ◌∙◌, ap, arith}
use Rattle.std.proofs.lemmas.List.{get_or_read, length-set}
use Rattle.wait_index.specs.declared.node_set.NodeSet.{NodeSet}
use Rattle.wait_index.specs.Inside.Listing.{holds}
use Rattle.wait_index.proofs.ListingFacts.{placed-from_holds, IsListing-swap, holds-swap}
use Rattle.wait_index.proofs.node_set.NodeSet.remove.Goals as goal

-- the place of a node that the set has
record Read (s : NodeSet) (node place : ℕ) : Type 0 where
  pub placed : 0 < place
  pub at : get_or s.places.items node 0 ≡ (place - 1) + 1
  pub in_list : place - 1 < length s.items.items

-- What was read for a node of the set is its place.
read_of : (s : NodeSet) (node place : ℕ) → node < length s.places.items → holds s.places.items node ≡ true
    → place ≡ get_or s.places.items node place → Read s node place
read_of s node place l h e =
    let is : place ≡ get_or s.places.items node 0 = get_or_read s.places.items node place l e 0 in
    let placed : 0 < place = omega (arith, is, placed-from_holds s.places.items node h) in
    let at : get_or s.places.items node 0 ≡ (place - 1) + 1 = omega (arith, is, placed) in
    record { placed = placed; at = at; in_list = s.listed.placed_within node (place - 1) at }

-- the last node of the list
last_of : (s : NodeSet) (len last node : ℕ) → 0 < length s.items.items → len ≡ length s.items.items
    → last ≡ get_or s.items.items (len - 1) last → node ≡ last
    → get_or s.items.items (length s.items.items - 1) 0 ≡ node
last_of s len last node l e r n =
    let at : len - 1 ≡ length s.items.items - 1 = omega (arith, e) in
    ap (λ k. get_or s.items.items k 0) (sym at) ∙ sym (get_or_read s.items.items (len - 1) last (omega (arith, l)) r 0) ∙ sym n

pub overflow_sub-len : goal.overflow_sub-len
overflow_sub-len c =
    let s = c.args.self.now in
    let r = read_of s c.args.node c.index.result.now c.requires.node c.requires.present c.index.ensures in
    omega (arith, c.len.ensures, s.items.ok.0, r.in_list)

pub index-last-requires : goal.index-last-requires
index-last-requires c =
    let s = c.args.self.now in
    let r = read_of s c.args.node c.index.result.now c.requires.node c.requires.present c.index.ensures in
    omega (arith, c.len.ensures, s.items.ok.0, r.in_list)

pub index_mut-requires : goal.index_mut-requires
index_mut-requires c =
    let s = c.args.self.now in
    let r = read_of s c.args.node c.index.result.now c.requires.node c.requires.present c.index.ensures in
    let last = last_of s c.len.result c.index-last.result.now c.index-2.result (omega (arith, r.in_list))
    (omega (arith, c.len.ensures, s.items.ok.0)) c.index-last.ensures c.index-2.ensures in
    omega (arith, last, s.places.ok.0, s.listed.within (length s.items.items - 1) (omega (arith, r.in_list)))

pub swap_remove-requires : goal.swap_remove-requires
swap_remove-requires c =
    let s = c.args.self.now in
    let r = read_of s c.args.node c.index.result.now c.requires.node c.requires.present c.index.ensures in
    omega (arith, s.items.ok.0, r.in_list)

pub invariant_of-self-clause-listed : goal.invariant_of-self-clause-listed
invariant_of-self-clause-listed c =
    let s = c.args.self.now in
    let r = read_of s c.args.node c.index.result.now c.requires.node c.requires.present c.index.ensures in
    let last = last_of s c.len.result c.index-last.result.now c.index-2.result (omega (arith, r.in_list))
    (omega (arith, c.len.ensures, s.items.ok.0)) c.index-last.ensures c.index-2.ensures in
    rw c.swap_remove.ensures.items
    (IsListing-swap s.items.items s.places.items c.args.node (c.index.result.now - 1) c.index-2.result s.listed r.at last c.swap_remove.result)

pub returns-clause-held : goal.returns-clause-held
returns-clause-held c =
    let s = c.args.self.now in
    let r = read_of s c.args.node c.index.result.now c.requires.node c.requires.present c.index.ensures in
    let last = last_of s c.len.result c.index-last.result.now c.index-2.result (omega (arith, r.in_list))
    (omega (arith, c.len.ensures, s.items.ok.0)) c.index-last.ensures c.index-2.ensures in
    holds-swap s.items.items s.places.items c.args.node (c.index.result.now - 1) c.index-2.result s.listed r.at last

pub invariant_of-self-clause-roomy : goal.invariant_of-self-clause-roomy
invariant_of-self-clause-roomy c =
    let s = c.args.self.now in
    let index = c.index.result.now - 1 + 1 in
    omega (
      arith,
      length-set s.places.items c.index-2.result index,
      length-set (set s.places.items c.index-2.result index) c.args.node 0,
      c.swap_remove.ensures.capacity,
      s.roomy,
    )

pub invariant_of-self-clause-few : goal.invariant_of-self-clause-few
invariant_of-self-clause-few c =
    let s = c.args.self.now in
    let index = c.index.result.now - 1 + 1 in
    omega (
      arith,
      length-set s.places.items c.index-2.result index,
      length-set (set s.places.items c.index-2.result index) c.args.node 0,
      s.few,
    )

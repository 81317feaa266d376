use Rattle.std.proofs.Common.{◌≡◌, ◌+◌, [], ◌∷◌, ◌++◌, length, get_or, arith}
use Rattle.std.proofs.lemmas.List.{get_or_read}
use Rattle.wait_index.proofs.LinkFacts.{AreLinked-push}
use Rattle.wait_index.proofs.edges.Edges.add.Goals as goal

pub invariant_of-self : goal.invariant_of-self
invariant_of-self c =
    let s = c.args.self.now in
    let e = c.args.edge in
    let edges : c.push_reserved.new.self.items ≡ s.edges.items ++ e ∷ [] = cc in
    let read : c.index.result.now ≡ get_or s.newest.items e.from 0 = get_or_read s.newest.items e.from c.index.result.now c.requires.owner c.index.ensures 0 in
    let earlier : c.push_reserved-2.new.self.items ≡ s.earlier.items ++ get_or s.newest.items e.from 0 ∷ [] = cc in
    let len : c.len.result ≡ length s.edges.items + 1 = omega (arith, c.len.ensures, c.push_reserved.ensures.len, s.edges.ok.0) in
    record { linked = rw (edges, len, earlier) (AreLinked-push s.edges.items e s.newest.items s.earlier.items c.requires.owner s.linked) }

use Rattle.std.proofs.Common.{◌≡◌, length, arith}
use Rattle.wait_index.specs.Inside.Tally.{net_of, tally_of}
use Rattle.wait_index.proofs.GrowthFacts.{Follows-root}
use Rattle.wait_index.proofs.marks.Marks.add_root.Goals as goal

pub follow_all-requires-clause-follows : goal.follow_all-requires-clause-follows
follow_all-requires-clause-follows c =
    let s = c.args.self.now in
    let cursor : c.len-cursor.result ≡ length s.marked.items.items = omega (arith, c.len-cursor.ensures, s.marked.items.ok.0) in
    rw (c.add_root.ensures.net, cursor)
    (Follows-root (net_of c.args.graph.now) c.args.node c.requires.node (tally_of s) (tally_of c.mark.new.self)
    c.requires.settled c.mark.ensures.marked c.mark.new.self.marked.listed)

use Rattle.std.proofs.Common.{arith}
use Rattle.wait_index.specs.Inside.Tally.{net_of, tally_of}
use Rattle.wait_index.proofs.FollowFacts.{Follows-nodes}
use Rattle.wait_index.proofs.marks.Marks.follow_all.Goals as goal

pub nodes-smaller : goal.nodes-smaller
nodes-smaller c =
    omega (
      arith,
      c.nodes-test.true,
      c.nodes.self.marked.items.ok.0,
      Follows-nodes (net_of c.args.graph.now) c.nodes.cursor 0 0 (tally_of c.nodes.self) c.nodes.invariant.follows,
    )

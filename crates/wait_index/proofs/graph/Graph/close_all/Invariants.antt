use Rattle.std.proofs.Common.{◌≡◌, take}
use Rattle.wait_index.specs.Inside.Capacity.{graph_capacity}
use Rattle.wait_index.specs.Inside.Tally.{net_of}
use Rattle.wait_index.specs.Net.{with_all_closed}
use Rattle.wait_index.proofs.graph.Graph.close_all.Given as goal

abbrev pub invariant-loop-label : goal.invariant-loop-label
invariant-loop-label l = (net_of l.self ≡ with_all_closed (net_of l.initial.self) (take l.label-index l.labels))
    × (graph_capacity l.self ≡ graph_capacity l.initial.self)

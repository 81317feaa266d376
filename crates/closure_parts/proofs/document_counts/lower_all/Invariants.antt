-- The nodes so far are counted no more.
use Rattle.std.proofs.Common.{◌≡◌, ◌+◌, take}
use Rattle.closure_core.specs.Inside.Flags.{raised_count}
use Rattle.closure_core.specs.Inside.Nodes.{flags_of}
use Rattle.closure_parts.specs.NodeCounts.{AddsNodes}
use Rattle.closure_parts.proofs.document_counts.lower_all.Given as goal

abbrev pub invariant-loop-node : goal.invariant-loop-node
invariant-loop-node l = record {
  takes : AddsNodes l.heads (take l.node-index l.nodes) l.counts l.initial.counts;
  count : raised_count (flags_of l.initial.counts) ≡ raised_count (flags_of l.counts) + l.count;
}

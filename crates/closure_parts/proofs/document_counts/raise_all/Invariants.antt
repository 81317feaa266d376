-- The nodes so far are counted.
use Rattle.std.proofs.Common.{◌≡◌, ◌+◌, take}
use Rattle.closure_core.specs.Inside.Flags.{raised_count}
use Rattle.closure_core.specs.Inside.Nodes.{flags_of}
use Rattle.closure_parts.specs.NodeCounts.{AddsNodes}
use Rattle.closure_parts.proofs.document_counts.raise_all.Given as goal

abbrev pub invariant-loop-node : goal.invariant-loop-node
invariant-loop-node l = record {
  adds : AddsNodes l.heads (take l.node-index l.nodes) l.initial.counts l.counts;
  count : raised_count (flags_of l.counts) ≡ raised_count (flags_of l.initial.counts) + l.count;
}

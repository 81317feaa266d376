use Rattle.std.proofs.Common.{◌≡◌, ◌+◌, ◌-◌, ◌<◌, length}
use Rattle.sorted_order.specs.Inside.Blocks.{length_before}
use Rattle.sorted_order.proofs.directory.locate_among.Given as goal

abbrev pub invariant-loop-within : goal.invariant-loop-within
invariant-loop-within l = record {
  listed : l.block < length l.blocks;
  whole : length_before l.blocks l.block + l.within ≡ l.at;
  earlier : 0 < l.at → 0 < l.within;
}

abbrev pub decreases-loop-within : goal.decreases-loop-within
decreases-loop-within l = length l.blocks - l.block

use Rattle.std.proofs.Common.{◌≡◌, ◌+◌, ◌-◌, ◌<◌, length, take}
use Rattle.std.specs.List.{sum}
use Rattle.sorted_order.proofs.sums.group_at.Given as goal

abbrev pub invariant-loop-group : goal.invariant-loop-group
invariant-loop-group l = record {
  listed : l.group < length l.sums;
  whole : sum (take l.group l.sums) + l.within ≡ l.at;
  earlier : 0 < l.at → 0 < l.within;
  later : 0 < l.group → 0 < l.within;
}

abbrev pub decreases-loop-group : goal.decreases-loop-group
decreases-loop-group l = length l.sums - l.group

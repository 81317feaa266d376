use Rattle.std.proofs.Common.{◌≡◌, ◌++◌, drop, flat_map}
use Rattle.health_pages.specs.LoopMetrics.{all_counts, counter_text}
use Rattle.health_pages.proofs.loop_counts.push_counts.Given as goal

abbrev pub invariant-counts : goal.invariant-counts
invariant-counts l =
    l.out.items ++ flat_map (counter_text l.counts) (drop l.count-index l.count-items) ≡ l.initial.out.items ++ flat_map (counter_text l.counts) all_counts

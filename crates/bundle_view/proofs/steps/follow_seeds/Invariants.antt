use Rattle.std.proofs.Common.{take}
use Rattle.bundle_view.specs.Inside.Search.{IsSearchBegun}
use Rattle.bundle_view.proofs.steps.follow_seeds.Given as goal

abbrev pub invariant-loop-seed : goal.invariant-loop-seed
invariant-loop-seed l = IsSearchBegun (take l.seed-index l.seeds) l.waiting l.visited l.steps.items

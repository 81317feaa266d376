use Rattle.std.proofs.Common.{◌≡◌, ◌≤◌, ◌++◌, length, flat_map, reverse, take}
use Rattle.fedbundle.specs.Explain.{step_line}
use Rattle.fedbundle.proofs.chain_text.push_steps.Given as goal

abbrev pub invariant-steps : goal.invariant-steps
invariant-steps l = record {
  within : l.left ≤ length l.chain;
  written : l.text.items ++ flat_map step_line (reverse (take l.left l.chain))
      ≡ l.initial.text.items ++ flat_map step_line (reverse l.chain);
}

abbrev pub decreases-steps : goal.decreases-steps
decreases-steps l = l.left

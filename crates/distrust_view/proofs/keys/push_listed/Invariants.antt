use Rattle.std.proofs.Common.{◌≡◌, ◌++◌, drop}
use Rattle.distrust_view.specs.DistrustEffect.{listed_lines}
use Rattle.distrust_view.proofs.keys.push_listed.Given as goal

abbrev pub invariant-loop-key : goal.invariant-loop-key
invariant-loop-key l = l.out.items ++ listed_lines l.domain (drop l.key-index l.keys) l.distrusted
    ≡ l.initial.out.items ++ listed_lines l.domain l.keys l.distrusted

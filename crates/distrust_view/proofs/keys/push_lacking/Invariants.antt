use Rattle.std.proofs.Common.{◌≡◌, ◌++◌, drop}
use Rattle.distrust_view.specs.DistrustEffect.{lacking_lines}
use Rattle.distrust_view.proofs.keys.push_lacking.Given as goal

abbrev pub invariant-loop-key : goal.invariant-loop-key
invariant-loop-key l = l.out.items ++ lacking_lines l.word l.domain (drop l.key-index l.keys) l.others
    ≡ l.initial.out.items ++ lacking_lines l.word l.domain l.keys l.others

use Rattle.std.proofs.Common.{◌≡◌, ◌++◌, drop, flat_map}
use Rattle.distrust_view.specs.DistrustEffect.{key_warning}
use Rattle.distrust_view.proofs.warning.push_key_warnings.Given as goal

abbrev pub invariant-loop-key : goal.invariant-loop-key
invariant-loop-key g l =
    l.out.items ++ flat_map (key_warning (g.C.Closure.state l.closure).meaning l.domain) (drop l.key-index l.keys)
    ≡ l.fn.out.items ++ flat_map (key_warning (g.C.Closure.state l.closure).meaning l.domain) l.keys

use Rattle.std.proofs.Common.{◌≡◌, ◌++◌, drop}
use Rattle.fedbundle.specs.Canon.{key_lines}
use Rattle.fedbundle.proofs.canon.push_keys.Given as goal

abbrev pub invariant-loop-authority : goal.invariant-loop-authority
invariant-loop-authority l = l.out.items ++ key_lines (drop l.authority-index l.authorities) ≡ l.initial.out.items ++ key_lines l.authorities

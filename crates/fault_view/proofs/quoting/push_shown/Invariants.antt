use Rattle.std.proofs.Common.{◌≡◌, ◌++◌, drop, flat_map}
use Rattle.fault_view.specs.Shown.{shown_byte}
use Rattle.fault_view.proofs.quoting.push_shown.Given as goal

abbrev pub invariant-loop-byte : goal.invariant-loop-byte
invariant-loop-byte l = l.out.items ++ flat_map shown_byte (drop l.byte-index l.text) ≡ l.initial.out.items ++ flat_map shown_byte l.text

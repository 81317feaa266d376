use Rattle.std.proofs.Common.{◌≡◌, ◌++◌, drop, flat_map, string_bytes}
use Rattle.cert_key.specs.Name.{later_arc}
use Rattle.cert_key.proofs.object_identifier.push_later_arcs.Given as goal

abbrev pub invariant-loop-number : goal.invariant-loop-number
invariant-loop-number l =
    string_bytes l.text ++ flat_map later_arc (drop l.number-index l.numbers)
    ≡ string_bytes l.fn.text ++ flat_map later_arc l.numbers

use Rattle.std.proofs.Common.{◌≡◌, ◌++◌, true, length, string_bytes}
use Rattle.cert_key.specs.Name.{escaped_from}
use Rattle.cert_key.proofs.attribute_text.push_escaped.Given as goal

abbrev pub invariant-bytes : goal.invariant-bytes
invariant-bytes l =
    string_bytes l.text ++ escaped_from l.is_first l.rest
    ≡ string_bytes l.fn.text ++ escaped_from true l.bytes

abbrev pub decreases-bytes : goal.decreases-bytes
decreases-bytes l = length l.rest

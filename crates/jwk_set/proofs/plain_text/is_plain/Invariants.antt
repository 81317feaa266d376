use Rattle.std.proofs.Common.{◌≡◌, take}
use Rattle.std.specs.List.{list_all}
use Rattle.jwk_set.specs.Json.{is_unescaped}
use Rattle.jwk_set.proofs.plain_text.is_plain.Given as goal

abbrev pub invariant-loop-byte : goal.invariant-loop-byte
invariant-loop-byte l = l.passed ≡ list_all is_unescaped (take l.byte-index l.text)

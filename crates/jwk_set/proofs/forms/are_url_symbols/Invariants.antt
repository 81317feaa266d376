use Rattle.std.proofs.Common.{◌≡◌, take}
use Rattle.std.specs.List.{list_all}
use Rattle.jwk_set.specs.Forms.{is_url_symbol as url_symbol}
use Rattle.jwk_set.proofs.forms.are_url_symbols.Given as goal

abbrev pub invariant-loop-b : goal.invariant-loop-b
invariant-loop-b l = l.passed ≡ list_all url_symbol (take l.b-index l.text)

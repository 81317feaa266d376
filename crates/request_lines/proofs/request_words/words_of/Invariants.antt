use Rattle.std.proofs.Common.{◌≡◌, map, string_bytes, take}
use Rattle.serde_json.specs.Data.{string}
use Rattle.serde_json.specs.View.{view}
use Rattle.request_lines.proofs.request_words.words_of.Given as goal

abbrev pub invariant-items : goal.invariant-items
invariant-items l = map view (take l.item-index l.item-items) ≡ map string (map string_bytes l.words.items)

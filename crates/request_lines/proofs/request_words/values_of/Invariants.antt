use Rattle.std.proofs.Common.{◌≡◌, map, take}
use Rattle.serde_json.specs.Data.{string}
use Rattle.serde_json.specs.View.{view}
use Rattle.request_lines.proofs.request_words.values_of.Given as goal

abbrev pub invariant-words : goal.invariant-words
invariant-words l = map view l.values.items ≡ map string (map (λ w. w.now) (take l.word-index l.words))

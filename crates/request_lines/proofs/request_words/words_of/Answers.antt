use Rattle.std.proofs.Common.{rules, map, option_map, ap, sym, ◌∙◌}
use Rattle.std.proofs.lemmas.List.{length-map}
use Rattle.serde_json.specs.View.{view}
use Rattle.request_lines.proofs.WordFacts.{item_at, not_of_words}
use Rattle.request_lines.proofs.request_words.words_of.Goals as goal

pub returns-in_default-as_str : goal.returns-in_default-as_str
returns-in_default-as_str c = not_of_words (view c.args.value.now) (map view c.in-Some.items.now.items) (search rules)
    c.items.item-index (view c.item-item.result) (search (rules, length-map))
    (item_at c.in-Some.items.now.items c.items.item-index c.item-item.result (search rules) (search rules))
    (sym c.as_str.ensures ∙ ap (option_map (λ s. s.now)) c.in_default-as_str.is)

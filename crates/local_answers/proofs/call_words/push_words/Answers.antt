use Rattle.std.proofs.Common.{◌++◌, sym, ap, ◌∙◌, map, drop, option_map, string_bytes, append-nil}
use Rattle.local_answers.proofs.CallWordFacts.{no_words_with}
use Rattle.local_answers.proofs.call_words.push_words.Goals as goal

pub returns-in_default : goal.returns-in_default
returns-in_default c =
    sym (ap (λ l. map string_bytes c.options.words.items ++ l) (no_words_with (option_map (λ t. t.now))
    (drop c.options.taken-index c.args.options.now) c.options.rest.now c.in_default.len_below) ∙ append-nil _) ∙ c.options.invariant

-- The arguments so far, with those for the options that are left, are all arguments.
use Rattle.std.proofs.Common.{◌≡◌, ◌++◌, drop, map, option_map, string_bytes}
use Rattle.local_answers.specs.RequestWords.{words_with}
use Rattle.local_answers.proofs.call_words.push_words.Given as goal

abbrev pub invariant-options : goal.invariant-options
invariant-options l = map string_bytes l.words.items ++ words_with (drop l.taken-index l.options) (map (option_map (λ t. t.now)) l.rest)
    ≡ map string_bytes l.fn.words.items ++ words_with l.options (map (option_map (λ t. t.now)) l.texts)

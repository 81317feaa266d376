-- The texts so far, with those of the arguments that are left, are those of all arguments.
use Rattle.std.proofs.Common.{◌≡◌, ◌++◌, drop, map}
use Rattle.std.specs.Prelude.{string_bytes}
use Rattle.local_answers.proofs.request_parts.texts_of_words.Given as goal

abbrev pub invariant-words : goal.invariant-words
invariant-words l = map (λ t. t.now) l.texts.items ++ map string_bytes (drop l.word-index l.words) ≡ map string_bytes l.words

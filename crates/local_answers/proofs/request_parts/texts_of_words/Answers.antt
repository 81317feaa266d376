use Rattle.std.proofs.Common.{◌∙◌, ◌∷◌, [], ap, map, sym}
use Rattle.std.proofs.lemmas.List.{map-append}
use Rattle.std.specs.Prelude.{string_bytes}
use Rattle.local_answers.proofs.PartFacts.{word_more}
use Rattle.local_answers.proofs.request_parts.texts_of_words.Goals as goal

pub words-preserved : goal.words-preserved
words-preserved c =
    word_more string_bytes c.args.words.now c.words.word-index c.word-item.result c.words-test.true c.word-item.is
    (map (λ t. t.now) c.words.texts.items) (map (λ t. t.now) c.push.new.self.items) c.as_str.result.now
    (ap (map (λ t. t.now)) c.in_ok-push.ensures.items ∙ map-append (λ t. t.now) c.words.texts.items (c.as_str.result ∷ []))
    (sym c.as_str.ensures.value)
    ∙ c.words.invariant

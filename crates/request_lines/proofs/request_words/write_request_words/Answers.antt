use Rattle.std.proofs.Common.{◌≤◌, Some, map, ap, sym, subst, ◌∙◌, arith}
use Rattle.serde_json.specs.Data.{depth}
use Rattle.serde_json.specs.Read.{max_depth}
use Rattle.serde_json.specs.Written.{compact_text, has_float}
use Rattle.request_lines.proofs.WordFacts.{words_are_flat, words_have_no_float}
use Rattle.request_lines.proofs.request_words.write_request_words.Goals as goal

pub returns-clause-text : goal.returns-clause-text
returns-clause-text c =
    let words = map (λ w. w.now) c.args.words.now in
    c.in_ok-text.ensures.text (ap has_float c.in_ok-value_of_words.ensures ∙ words_have_no_float words)
    ∙ ap compact_text c.in_ok-value_of_words.ensures

pub returns-clause-read_back : goal.returns-clause-read_back
returns-clause-read_back c =
    let words = map (λ w. w.now) c.args.words.now in
    c.in_ok-text.ensures.reads_back
    (subst (λ n. n ≤ max_depth) (sym (ap depth c.in_ok-value_of_words.ensures ∙ words_are_flat words)) (omega arith))
    ∙ ap Some c.in_ok-value_of_words.ensures

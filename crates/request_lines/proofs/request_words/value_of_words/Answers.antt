use Rattle.std.proofs.Common.{rules, ap}
use Rattle.serde_json.specs.Data.{array}
use Rattle.serde_json.specs.View.{items_of}
use Rattle.serde_json.specs.declared.value.Value.{the_lemmas}
use Rattle.request_lines.proofs.request_words.value_of_words.Goals as goal

pub returns : goal.returns
returns c =
    let e = ap (λ l. array (items_of l)) c.in_ok-values_of.ensures in
    search (rules, the_lemmas, e)

use Rattle.std.proofs.Common.{◌≡◌, ◌∙◌, ap, Some, List, ℕ}
use Rattle.serde_json.specs.Data.{array, item, string, no_items}
use Rattle.serde_json.specs.Find.{get, as_array}
use Rattle.serde_json.specs.View.{view, items_view}
use Rattle.jwk_set.proofs.ItemFacts.{not_alone}
use Rattle.jwk_set.proofs.element.only_text.Goals as goal

pub returns-in_err-only : goal.returns-in_err-only
returns-in_err-only c =
    rw c.from_residual-in_err-only.ensures (λ (text : List ℕ) (e : get c.args.name.now (view c.args.element.now) ≡ Some (array (item (string text) no_items))).
    let shape : view c.in_ok-get.field-0.now ≡ array (item (string text) no_items) = cc (c.in_ok-get.ensures, e) in
    let found : items_view c.in_ok-as_array.field-0.now.items ≡ item (string text) no_items = cc (c.in_ok-as_array.ensures, ap as_array shape) in
    not_alone c.in_ok-as_array.field-0.now.items (string text) (λ v same. c.in_err-only.ensures v (c.deref.ensures.value ∙ same)) found)

use Rattle.std.proofs.Common.{◌++◌, ◌∙◌, ap}
use Rattle.key_view.specs.KeysText.{same_keys}
use Rattle.key_view.proofs.keys_writer.same_keys_text.Goals as goal

pub returns : goal.returns
returns g c = record {
  keys = c.in_ok-keys.keys;
  of = c.in_ok-keys.ensures.of;
  are = c.in_ok-keys.ensures.is;
  is = c.in_ok-push_same_keys.ensures ∙ ap (λ t. t ++ same_keys c.in_ok-keys.keys) c.new-text.ensures.items;
}

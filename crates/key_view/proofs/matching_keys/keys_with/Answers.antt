use Rattle.key_view.proofs.MatchingFacts.{each_ok}
use Rattle.key_view.proofs.matching_keys.keys_with.Goals as goal

pub returns : goal.returns
returns g c = each_ok _ _ c.ids_with.result (rw c.as_slice.ensures.value at c.ids_with.ensures) (λ ids is. record {
  keys = c.in_ok-keys.keys;
  of = c.in_ok-keys.ensures.of;
  are = c.in_ok-keys.ensures.is;
  is = is;
})

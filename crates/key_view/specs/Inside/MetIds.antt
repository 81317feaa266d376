-- Which keys were met
use Rattle.std.specs.Prelude.{◌≡◌}
use Rattle.std.specs.BTreeSet.{contains}
use Rattle.jwk_set.specs.declared.authority.KeyId.{KeyId}
use Rattle.receipt_core.specs.Receipt.{key_cmp}
use Rattle.key_view.specs.declared.met_keys.MetKeys.{MetKeys}
use Rattle.key_view.specs.KnownKeys.{knows}

-- Its ids are those of its keys.
pub record HasIds (met : MetKeys) : Type 0 where
  pub same : (id : KeyId) → contains key_cmp met.ids id ≡ knows met.keys.items id

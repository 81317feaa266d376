use Rattle.std.proofs.Common.{◌++◌, ◌∙◌, ap, map, refl}
use Rattle.status_warnings.specs.SameKeys.{same_key_of}
use Rattle.status_warnings.proofs.same_keys.push_same_keys.Goals as goal

pub returns : goal.returns
returns g c = (
  map (same_key_of c.args.domain.now) c.in_ok-keys.keys.items,
  record { keys = c.in_ok-keys.keys.items; are = c.in_ok-keys.ensures; is = refl },
  c.in_ok-push_keys.ensures ∙ ap (λ ks. c.args.found.now.items ++ map (same_key_of c.args.domain.now) ks) c.as_slice.ensures.value,
)

use Rattle.std.proofs.Common.{sym, subst, map}
use Rattle.std.specs.Bool.{IsTrue}
use Rattle.std.specs.List.{Contains}
use Rattle.std.specs.Prelude.{◌↔◌}
use Rattle.replica_core.proofs.HaveFacts.{bytes_of, id_found}
use Rattle.replica_core.proofs.asking.is_named.Goals as goal

pub returns : goal.returns
returns c =
    subst (λ b. IsTrue b ↔ Contains (map bytes_of c.args.ids.now) c.args.id.now.0) (sym c.is_ok.ensures.value)
    (id_found c.args.ids.now c.args.id.now c.binary_search.result c.requires c.binary_search.ensures.bound c.binary_search.ensures.position)

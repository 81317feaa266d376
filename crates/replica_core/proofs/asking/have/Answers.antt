use Rattle.std.proofs.Common.{◌≡◌, ◌∙◌, ap, map, refl, subst, sym}
use Rattle.std.specs.List.Sorted.{IsStrictlySortedBy}
use Rattle.fed_config.specs.Configuration.{config_id_of}
use Rattle.replica_core.specs.State.{id_cmp, ids_named}
use Rattle.replica_core.specs.Session.{state_of}
use Rattle.replica_core.proofs.HaveFacts.{bytes_of, named-ids-rise, named_bytes}
use Rattle.replica_core.proofs.asking.have.Goals as goal

pub invariant_of-result : goal.invariant_of-result
invariant_of-result g c =
    let named : map bytes_of c.truncate.new.self.items ≡ ids_named (state_of (g.C.Closure.state c.args.closure.now).meaning) c.args.bucket =
    named_bytes _ _ _ c.truncate.ensures.items c.in_ok-ids.ensures in
    subst (IsStrictlySortedBy id_cmp) (sym named) (named-ids-rise (state_of (g.C.Closure.state c.args.closure.now).meaning) c.args.bucket)

pub returns-clause-ok : goal.returns-clause-ok
returns-clause-ok g c =
    let named : map bytes_of c.truncate.new.self.items ≡ ids_named (state_of (g.C.Closure.state c.args.closure.now).meaning) c.args.bucket =
    named_bytes _ _ _ c.truncate.ensures.items c.in_ok-ids.ensures in
    rw (named, c.digest.ensures ∙ ap config_id_of c.config.ensures.config) refl

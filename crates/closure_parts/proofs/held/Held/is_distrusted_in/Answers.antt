-- A record has the key and the number of the domain.
use Rattle.std.proofs.Common.{◌<◌, length, subst}
use Rattle.std.specs.Prelude.{◌↔◌, IsTrue}
use Rattle.closure_parts.specs.Held.{HeldReceipts, IsDistrustedIn, domains_of}
use Rattle.closure_core.specs.declared.record.Record.{Record}
use Rattle.closure_parts.proofs.ConfigFacts.{distrust_held}
use Rattle.closure_core.proofs.RisingFacts.{each_has}
use Rattle.closure_parts.proofs.held.Held.is_distrusted_in.Goals as goal

pub returns : goal.returns
returns c =
    let config = c.self.inside.config in
    let records = c.self.inside.records.records in
    let x : Record = record { key = c.args.key; domain = c.args.domain } in
    let held = λ (l : c.args.domain < length (domains_of config)).
    distrust_held config records x c.holds.result l c.self.invariant.within c.holds.ensures in
    subst (λ (h : HeldReceipts). IsTrue c.holds.result ↔ IsDistrustedIn h c.args.domain c.args.key) c.self.view_is (
      λ t.
          let l : c.args.domain < length (domains_of config) =
          each_has (λ (r : Record). r.domain < length (domains_of config)) records x
          c.self.invariant.within (c.holds.ensures.0 t) in
          record { within = l; shut = (held l).0 t },
      λ d. (held d.within).1 d.shut,
    )

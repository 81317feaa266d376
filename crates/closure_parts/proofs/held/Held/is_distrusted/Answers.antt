use Rattle.std.proofs.Common.{◌≡◌, ◌<◌, ℕ, [], sym, ap, subst, length, arith, ◌∙◌, get_or}
use Rattle.std.specs.Bool.{IsTrue}
use Rattle.std.specs.Prelude.{◌↔◌}
use Rattle.std.specs.List.{Contains}
use Rattle.receipt_core.specs.declared.distrust.Distrust.{Distrust}
use Rattle.closure_core.specs.Inside.Records.{distrust_by, distrusts_of}
use Rattle.closure_parts.specs.Held.{HeldReceipts, domains_of}
use Rattle.closure_parts.proofs.ConfigFacts.{place_few, place_below, place_is, distrust_held, distrust_lacks}
use Rattle.closure_parts.proofs.held.Held.is_distrusted.Goals as goal

pub record_of-requires : goal.record_of-requires
record_of-requires c =
    let few : c.in-Some.number < 1024 = place_few c.self.inside.config c.args.domain.now c.in-Some.number c.self.invariant.configuration c.in-Some.ensures in
    omega arith

pub returns-in-Some : goal.returns-in-Some
returns-in-Some c =
    let below : c.record_of.result.domain < length (domains_of c.self.inside.config) =
    subst (λ (n : ℕ). n < length (domains_of c.self.inside.config)) (sym c.record_of.ensures.domain)
    (place_below c.self.inside.config c.args.domain.now c.in-Some.number c.in-Some.ensures) in
    let domains : get_or (domains_of c.self.inside.config) c.record_of.result.domain [] ≡ c.args.domain.now =
    ap (λ (n : ℕ). get_or (domains_of c.self.inside.config) n []) c.record_of.ensures.domain
    ∙ place_is c.self.inside.config c.args.domain.now c.in-Some.number c.in-Some.ensures in
    let keys = c.record_of.ensures.key in
    let same : distrust_by (domains_of c.self.inside.config) c.record_of.result ≡ record {
      domain = c.args.domain.now;
      key = c.args.key;
    } = λ i. record { domain = domains i; key = record { 0 = keys i } } in
    subst (λ (h : HeldReceipts). IsTrue c.holds.result ↔ Contains h.records (record { domain = c.args.domain.now; key = c.args.key })) c.self.view_is
    (subst (λ (d : Distrust). IsTrue c.holds.result ↔ Contains (distrusts_of (domains_of c.self.inside.config) c.self.inside.records.records) d) same
    (distrust_held c.self.inside.config c.self.inside.records.records c.record_of.result c.holds.result below c.self.invariant.within c.holds.ensures))

pub returns-in-None : goal.returns-in-None
returns-in-None c = (
  λ t. absurd (cc),
  λ has. absurd (distrust_lacks c.self.inside.config c.self.inside.records.records
      (record { domain = c.args.domain.now; key = c.args.key }) c.self.invariant.within c.in-None.ensures
      (subst (λ (h : HeldReceipts). Contains h.records (record { domain = c.args.domain.now; key = c.args.key })) (sym c.self.view_is) has)),
)

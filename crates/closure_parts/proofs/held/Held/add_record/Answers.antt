use Rattle.std.proofs.Common.{◌≡◌, ◌<◌, ℕ, [], sym, ap, subst, length, arith, ◌∙◌, get_or}
use Rattle.receipt_core.specs.declared.distrust.Distrust.{Distrust}
use Rattle.receipt_core.specs.Receipt.{IsDigest}
use Rattle.sorted_order.specs.ArenaView.{in_order}
use Rattle.closure_core.specs.Inside.Records.{distrust_by}
use Rattle.closure_parts.specs.Held.{HeldReceipts, meaning_of, addition_result, AddsOrRefuses, domains_of}
use Rattle.closure_parts.proofs.ConfigFacts.{place_few, place_below, place_is, hoard_add, added_or_refused, meaning_with}
use Rattle.closure_parts.proofs.held.Held.add_record.Goals as goal

pub record_of-requires : goal.record_of-requires
record_of-requires c =
    let few : c.in-Some.number < 1024 = place_few c.self.inside.config c.args.domain.now c.in-Some.number c.self.invariant.configuration c.in-Some.ensures in
    omega arith

pub invariant_of-self : goal.invariant_of-self
invariant_of-self c =
    let below : c.record_of.result.domain < length (domains_of c.self.inside.config) =
    subst (λ (n : ℕ). n < length (domains_of c.self.inside.config)) (sym c.record_of.ensures.domain)
    (place_below c.self.inside.config c.args.domain.now c.in-Some.number c.in-Some.ensures) in
    hoard_add c.self.inside.config c.self.inside.receipts c.self.inside.buckets c.self.inside.records
    c.add.new.self c.record_of.result c.self.invariant below
    (subst IsDigest (sym c.record_of.ensures.key) c.record_of.ensures.form) c.add.result c.add.ensures

pub returns-clause-meaning : goal.returns-clause-meaning
returns-clause-meaning c =
    let below : c.record_of.result.domain < length (domains_of c.self.inside.config) =
    subst (λ (n : ℕ). n < length (domains_of c.self.inside.config)) (sym c.record_of.ensures.domain)
    (place_below c.self.inside.config c.args.domain.now c.in-Some.number c.in-Some.ensures) in
    let domains : get_or (domains_of c.self.inside.config) c.record_of.result.domain [] ≡ c.args.domain.now =
    ap (λ (n : ℕ). get_or (domains_of c.self.inside.config) n []) c.record_of.ensures.domain
    ∙ place_is c.self.inside.config c.args.domain.now c.in-Some.number c.in-Some.ensures in
    let keys = c.record_of.ensures.key in
    let same : distrust_by (domains_of c.self.inside.config) c.record_of.result ≡ record {
      domain = c.args.domain.now;
      key = c.args.key;
    } = λ i. record { domain = domains i; key = record { 0 = keys i } } in
    let answer = c.answer_of.ensures in
    subst (λ r. AddsOrRefuses (meaning_of c.args.self.now) (record { domain = c.args.domain.now; key = c.args.key })
    (meaning_with c.self.inside.config (in_order c.self.inside.receipts) c.add.new.self.records) r) (sym answer)
    (subst (λ (h : HeldReceipts). AddsOrRefuses (meaning_of h) (record { domain = c.args.domain.now; key = c.args.key })
    (meaning_with c.self.inside.config (in_order c.self.inside.receipts) c.add.new.self.records)
    (addition_result c.add.result)) c.self.view_is
    (subst (λ (d : Distrust). AddsOrRefuses
    (meaning_with c.self.inside.config (in_order c.self.inside.receipts) c.self.inside.records.records) d
    (meaning_with c.self.inside.config (in_order c.self.inside.receipts) c.add.new.self.records)
    (addition_result c.add.result)) same
    (added_or_refused c.self.inside.config (in_order c.self.inside.receipts) c.self.inside.records c.add.new.self
    c.record_of.result below c.self.invariant.within c.self.invariant.limit c.add.result c.add.ensures)))

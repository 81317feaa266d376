use Rattle.std.proofs.Common.{◌≡◌, true, false, sym, ◌∙◌, subst}
use Rattle.std.specs.Prelude.{Contains}
use Rattle.std.specs.BTreeSet.{contains}
use Rattle.std.proofs.lemmas.Bool.{both_ways}
use Rattle.receipt_core.specs.Receipt.{triple_cmp}
use Rattle.receipt_core.specs.declared.distrust.Distrust.{Distrust}
use Rattle.receipt_core.specs.declared.triple.Triple.{Triple}
use Rattle.replica_view.proofs.OfferFacts.{is_vouched, is_unvouched}
use Rattle.replica_view.proofs.receipt_status.status_of.Goals as goal

pub returns-then-contains : goal.returns-then-contains
returns-then-contains g c =
    let m = (g.C.Closure.state c.args.closure.now).meaning in
    is_vouched m c.args.offered.now c.args.receipt.now c.config-valid.ensures.valid c.requires.offered c.requires.held
    (λ has. both_ways c.is_distrusted.result c.if-is_distrusted.false
    (c.is_distrusted.ensures.1
    (subst (λ (x : Distrust). Contains m.records x) (λ i. record { domain = sym c.domain.ensures i; key = sym c.key.ensures i })
    (subst (λ (t : Triple). Contains m.records (record { domain = t.domain; key = t.key })) (sym c.need-need.ensures) has))))
    (subst (λ t. contains triple_cmp c.args.offered.now t ≡ true) c.need-need.ensures (sym c.contains.ensures ∙ c.if-contains.true))

pub returns-else-contains : goal.returns-else-contains
returns-else-contains g c =
    let m = (g.C.Closure.state c.args.closure.now).meaning in (
      is_unvouched m c.args.offered.now c.args.receipt.now c.config-valid.ensures.valid c.requires.offered c.requires.held
          (subst (λ t. contains triple_cmp c.args.offered.now t ≡ false) c.need-need.ensures (sym c.contains.ensures ∙ c.if-contains.false)),
      λ has. both_ways c.is_distrusted.result c.if-is_distrusted.false
          (c.is_distrusted.ensures.1
          (subst (λ (x : Distrust). Contains m.records x) (λ i. record { domain = sym c.domain.ensures i; key = sym c.key.ensures i })
          (subst (λ (t : Triple). Contains m.records (record { domain = t.domain; key = t.key })) (sym c.need-need.ensures) has))),
    )

-- The work is that of the one close.
use Rattle.std.proofs.Common.{subst}
use Rattle.receipt_core.specs.declared.distrust.Distrust.{Distrust}
use Rattle.trust_closure.specs.Inside.Indexed.{Indexed, indexed_of}
use Rattle.trust_closure.specs.Work.{Works}
use Rattle.trust_closure.proofs.closure.IndexedClosure.distrust.Goals as goal

pub returns-clause-work : goal.returns-clause-work
returns-clause-work c =
    let x : Distrust = record { domain = c.args.domain.now; key = c.args.key } in
    let after : Indexed = indexed_of c.retract.new.held c.retract.new.label_index c.self.inside.spare
    c.retract.new.work in
    subst (λ v. Works v x after c.retract.result) c.self.view_is
    (c.retract.ensures.work c.self.inside.spare)

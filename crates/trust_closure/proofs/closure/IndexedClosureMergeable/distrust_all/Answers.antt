-- The work is that of one close.
use Rattle.std.proofs.Common.{subst}
use Rattle.trust_closure.specs.Inside.Indexed.{Indexed, indexed_of}
use Rattle.trust_closure.specs.Work.{WorksOnce}
use Rattle.trust_closure.proofs.closure.IndexedClosureMergeable.distrust_all.Goals as goal

pub returns-clause-none_new : goal.returns-clause-none_new
returns-clause-none_new c =
    let inside = c.self.inside in
    let new = c.retract_all.new in
    let after : Indexed = indexed_of new.held new.label_index inside.spare new.work in
    (subst (λ v. WorksOnce v c.args.records after) c.self.view_is (c.retract_all.ensures.work inside.spare)).0

pub returns-clause-some_new : goal.returns-clause-some_new
returns-clause-some_new c =
    let inside = c.self.inside in
    let new = c.retract_all.new in
    let after : Indexed = indexed_of new.held new.label_index inside.spare new.work in
    (subst (λ v. WorksOnce v c.args.records after) c.self.view_is (c.retract_all.ensures.work inside.spare)).1

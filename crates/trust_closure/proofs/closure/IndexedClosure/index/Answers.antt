-- What is kept is an index of what is held.
use Rattle.std.proofs.Common.{subst}
use Rattle.trust_closure.specs.Inside.Indexed.{IsIndexOf}
use Rattle.trust_closure.proofs.IndexFacts.{index-of_kept}
use Rattle.trust_closure.proofs.closure.IndexedClosure.index.Goals as goal

pub returns-clause-is : goal.returns-clause-is
returns-clause-is c = subst IsIndexOf c.self.view_is
    (index-of_kept c.self.inside.held c.self.inside.pairs c.self.inside.label_index c.self.inside.spare
    c.self.inside.work c.self.invariant c.config-config.ensures.size)

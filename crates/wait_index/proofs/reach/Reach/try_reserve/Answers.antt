use Rattle.std.proofs.Common.{refl, subst}
use Rattle.wait_index.specs.Index.{Index}
use Rattle.wait_index.specs.Net.{ListsReached}
use Rattle.wait_index.proofs.ShownFacts.{lists, lists-grown}
use Rattle.wait_index.proofs.reach.Reach.try_reserve.Goals as goal

pub returns-then-covers-clause-reached : goal.returns-then-covers-clause-reached
returns-then-covers-clause-reached c =
    subst (λ (x : Index). ListsReached x.net x.marked) c.self.view_is (lists c.self.inside.graph c.self.inside.marks c.self.invariant.settled)

pub returns-in_err-try_reserve-clause-reached : goal.returns-in_err-try_reserve-clause-reached
returns-in_err-try_reserve-clause-reached c =
    lists-grown c.self.inside.graph c.try_reserve.new.self c.self.inside.marks c.self.inside.marks c.self.invariant.settled c.try_reserve.ensures.grows.net refl

pub returns-in_err-try_reserve-2-clause-reached : goal.returns-in_err-try_reserve-2-clause-reached
returns-in_err-try_reserve-2-clause-reached c =
    lists-grown c.self.inside.graph c.try_reserve.new.self c.self.inside.marks c.try_reserve-2.new.self
    c.self.invariant.settled c.try_reserve.ensures.grows.net c.try_reserve-2.ensures.grows.tally

pub returns-clause-reached : goal.returns-clause-reached
returns-clause-reached c =
    lists-grown c.self.inside.graph c.try_reserve.new.self c.self.inside.marks c.try_reserve-2.new.self
    c.self.invariant.settled c.try_reserve.ensures.grows.net c.try_reserve-2.ensures.grows.tally

pub returns-in_err-try_reserve-3-clause-reached : goal.returns-in_err-try_reserve-3-clause-reached
returns-in_err-try_reserve-3-clause-reached c =
    lists-grown c.self.inside.graph c.try_reserve.new.self c.self.inside.marks c.try_reserve-2.new.self
    c.self.invariant.settled c.try_reserve.ensures.grows.net c.try_reserve-2.ensures.grows.tally

-- More room leaves the work as it was.
use Rattle.trust_closure.proofs.IndexFacts.{same-work}
use Rattle.trust_closure.proofs.closure.IndexedClosureMergeable.make_room.Goals as goal

pub returns-clause-work : goal.returns-clause-work
returns-clause-work c =
    let e = c.try_reserve.ensures in
    same-work c.args.self.now c.try_reserve.new.self e.meaning e.arrived e.net e.marked

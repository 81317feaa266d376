use Rattle.std.proofs.Common.{length, ◌<◌, Some, ap, arith}
use Rattle.sorted_order.specs.ArenaView.{picked}
use Rattle.sorted_order.proofs.PickedFacts.{next_within, lend_next}
use Rattle.sorted_order.proofs.lent.LentIterator.next.Goals as goal

pub invariant_of-self-2 : goal.invariant_of-self-2
invariant_of-self-2 g c =
    let l = c.self.inside in
    next_within (length l.items.now) l.numbers c.next.new.self (Some c.in_ok-number.number) c.in_ok-number.ensures.steps c.self.invariant

pub returns-clause-steps : goal.returns-clause-steps
returns-clause-steps g c =
    let l = c.self.inside in
    lend_next l.items.now l.numbers c.next.new.self c.in_ok-number.number c.index-self-number.result c.args.self.now
    c.self.view_is c.in_ok-number.ensures.steps c.self.invariant

pub returns-clause-goes : goal.returns-clause-goes
returns-clause-goes g c =
    let l = c.self.inside in
    let steps = lend_next l.items.now l.numbers c.next.new.self c.in_ok-number.number c.index-self-number.result
    c.args.self.now c.self.view_is c.in_ok-number.ensures.steps c.self.invariant in
    let fewer : length (picked l.items.now c.next.new.self) < length c.args.self.now = omega (arith, ap length steps) in
    record { on = λ h. (tt, tt, fewer); keeps = tt; rests = λ h. tt }

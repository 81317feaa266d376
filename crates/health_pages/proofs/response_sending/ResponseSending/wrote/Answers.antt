use Rattle.std.proofs.Common.{◌<◌, length, ap, arith}
use Rattle.std.proofs.lemmas.List.{length-drop}
use Rattle.health_pages.specs.Sending.{left_of_body, left_of_response}
use Rattle.health_pages.proofs.SendingFacts.{head_is_next}
use Rattle.health_pages.proofs.response_sending.ResponseSending.wrote.Goals as goal

pub invariant_of-self-clause-head : goal.invariant_of-self-clause-head
invariant_of-self-clause-head c =
    let s = c.args.self.now in
    let left = length-drop s.head_sent s.response.head.items in
    let some : 0 < length (left_of_response s) = omega (arith, left, c.if-self-len.true, c.len.ensures) in
    let due = ap length (head_is_next (left_of_response s) (left_of_body s) some) in
    omega (arith, c.requires, due, left, c.if-self-len.true, c.len.ensures)

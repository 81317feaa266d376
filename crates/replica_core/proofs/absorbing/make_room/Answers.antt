-- Room was asked for what is new.
use Rattle.std.proofs.Common.{◌≡◌, List, subst, arith}
use Rattle.receipt_core.specs.Receipt.{Receipt}
use Rattle.replica_core.specs.Inside.FreePlaces.{CountsNew}
use Rattle.replica_core.proofs.RoomFacts.{made-room, beyond-all, unmade-room}
use Rattle.replica_core.proofs.absorbing.make_room.Goals as goal

pub returns-in-Some-clause-room : goal.returns-in-Some-clause-room
returns-in-Some-clause-room g c =
    let old = g.C.Closure.state c.args.closure.now in
    let held : c.receipts.result.now ≡ c.args.give.now.content.held = c.receipts.ensures in
    let counts : CountsNew old.meaning c.args.give.now.content.held c.new_receipts.result =
    subst (λ (rs : List Receipt). CountsNew old.meaning rs c.new_receipts.result) held c.new_receipts.ensures in
    made-room old (g.C.Closure.state c.try_reserve.new.self) c.args.give.now.content.held c.new_receipts.result
    (c.in-Some.receipts, c.in-Some.offers) c.try_reserve.result counts c.in-Some.is c.try_reserve.ensures.ok c.try_reserve.ensures.within

pub returns-in-None-clause-room : goal.returns-in-None-clause-room
returns-in-None-clause-room g c =
    let old = g.C.Closure.state c.args.closure.now in
    let held : c.receipts.result.now ≡ c.args.give.now.content.held = c.receipts.ensures in
    let counts : CountsNew old.meaning c.args.give.now.content.held c.new_receipts.result =
    subst (λ (rs : List Receipt). CountsNew old.meaning rs c.new_receipts.result) held c.new_receipts.ensures in
    let room = c.offers_room-room.ensures in
    let fits = c.offers_room-room.type_inv in
    unmade-room old old c.args.give.now.content.held c.ask_too_much.result c.ask_too_much.ensures.refused
    (beyond-all old c.args.give.now.content.held c.new_receipts.result counts c.in-None.is (omega (arith, room, fits)))

use Rattle.std.proofs.Common.{length, arith, ◌∙◌, ap}
use Rattle.std.specs.List.{concat, insert}
use Rattle.sorted_order.proofs.BlockFacts.{put_at, AreFilled-put, length-put}
use Rattle.sorted_order.proofs.SumFacts.{AreSums-put}
use Rattle.sorted_order.proofs.directory.put_number.Goals as goal

pub returns-clause-items : goal.returns-clause-items
returns-clause-items c =
    let room = c.make_room-block in
    ap concat c.put_into.ensures.items
    ∙ put_at room.new.blocks.items c.args.at room.result.0 room.result.1 c.args.number room.ensures.spot
    ∙ ap (λ xs. insert xs c.args.at c.args.number) room.ensures.items

pub returns-clause-filled : goal.returns-clause-filled
returns-clause-filled c =
    let room = c.make_room-block in
    rw c.put_into.ensures.items (AreFilled-put room.new.blocks.items room.result.0 room.result.1 c.args.number room.ensures.filled)

pub returns-clause-blocks : goal.returns-clause-blocks
returns-clause-blocks c =
    let room = c.make_room-block in
    omega (arith, ap length c.put_into.ensures.items, length-put room.new.blocks.items room.result.0 room.result.1 c.args.number, room.ensures.blocks)

pub returns-clause-some : goal.returns-clause-some
returns-clause-some c =
    let room = c.make_room-block in
    omega (arith, ap length c.put_into.ensures.items, length-put room.new.blocks.items room.result.0 room.result.1 c.args.number, room.ensures.spot.listed)

pub returns-clause-summed : goal.returns-clause-summed
returns-clause-summed c =
    let room = c.make_room-block in
    rw (c.put_into.ensures.items, c.count_one.ensures)
    (AreSums-put room.new.sums room.new.blocks.items room.result.0 room.result.1 c.args.number room.ensures.summed
    room.ensures.spot.listed room.ensures.spot.within)

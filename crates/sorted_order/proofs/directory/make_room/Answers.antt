use Rattle.std.proofs.Common.{◌≡◌, ◌+◌, suc, length, arith, ◌∙◌, ap}
use Rattle.std.specs.List.{concat}
use Rattle.sorted_order.proofs.BlockFacts.{full_from, has_spare, first_spot, second_spot, first_room, second_room}
use Rattle.sorted_order.proofs.BlockFacts.{concat-halved, AreFilled-halved, length-halved}
use Rattle.sorted_order.proofs.directory.make_room.Goals as goal

pub split-requires-clause-spare : goal.split-requires-clause-spare
split-requires-clause-spare c =
    let bs = c.args.blocks.now.items in
    let at = c.locate-block.result in
    let h = full_from bs c.as_slice.result.now c.args.at at.0 at.1 c.len-len.result c.index.result.now
    c.as_slice.ensures.value c.locate-block.ensures.spot c.index.ensures c.len-len.ensures.len
    c.len-len.ensures.most c.if-len-lt-BLOCK.false in
    has_spare bs c.args.at at.0 at.1 (length c.args.spare.now.items) h c.requires.filled c.requires.room

pub split-requires-clause-directory : goal.split-requires-clause-directory
split-requires-clause-directory c =
    let bs = c.args.blocks.now.items in
    let at = c.locate-block.result in
    let h = full_from bs c.as_slice.result.now c.args.at at.0 at.1 c.len-len.result c.index.result.now
    c.as_slice.ensures.value c.locate-block.ensures.spot c.index.ensures c.len-len.ensures.len
    c.len-len.ensures.most c.if-len-lt-BLOCK.false in
    omega (arith, c.requires.directory, has_spare bs c.args.at at.0 at.1 (length c.args.spare.now.items) h c.requires.filled c.requires.room)

pub sum_up-requires-clause-all : goal.sum_up-requires-clause-all
sum_up-requires-clause-all c =
    let bs = c.args.blocks.now.items in
    let at = c.locate-block.result in
    let h = full_from bs c.as_slice.result.now c.args.at at.0 at.1 c.len-len.result c.index.result.now
    c.as_slice.ensures.value c.locate-block.ensures.spot c.index.ensures c.len-len.ensures.len
    c.len-len.ensures.most c.if-len-lt-BLOCK.false in
    omega (
      arith,
      ap length c.as_slice-2.ensures.value,
      ap length c.split.ensures.items,
      length-halved bs at.0 h.spot.listed,
      c.split.ensures.spare,
      c.requires.grouped,
    )

pub sum_up-requires-clause-few : goal.sum_up-requires-clause-few
sum_up-requires-clause-few c =
    omega (
      arith,
      ap (λ xs. length (concat xs)) c.as_slice-2.ensures.value,
      ap (λ xs. length (concat xs)) c.split.ensures.items,
      ap length (concat-halved c.args.blocks.now.items c.locate-block.result.0),
      c.requires.few,
    )

pub returns-then-place-le-HALF-clause-spot : goal.returns-then-place-le-HALF-clause-spot
returns-then-place-le-HALF-clause-spot c =
    let bs = c.args.blocks.now.items in
    let at = c.locate-block.result in
    let h = full_from bs c.as_slice.result.now c.args.at at.0 at.1 c.len-len.result c.index.result.now
    c.as_slice.ensures.value c.locate-block.ensures.spot c.index.ensures c.len-len.ensures.len
    c.len-len.ensures.most c.if-len-lt-BLOCK.false in
    rw c.split.ensures.items (first_spot bs c.args.at at.0 at.1 h.spot (omega (arith, h.full)) c.if-place-le-HALF.true)

pub returns-then-place-le-HALF-clause-room : goal.returns-then-place-le-HALF-clause-room
returns-then-place-le-HALF-clause-room c =
    let bs = c.args.blocks.now.items in
    let at = c.locate-block.result in
    let h = full_from bs c.as_slice.result.now c.args.at at.0 at.1 c.len-len.result c.index.result.now
    c.as_slice.ensures.value c.locate-block.ensures.spot c.index.ensures c.len-len.ensures.len
    c.len-len.ensures.most c.if-len-lt-BLOCK.false in
    rw c.split.ensures.items (first_room bs c.args.at at.0 at.1 h)

pub returns-then-place-le-HALF-clause-items : goal.returns-then-place-le-HALF-clause-items
returns-then-place-le-HALF-clause-items c = ap concat c.split.ensures.items ∙ concat-halved c.args.blocks.now.items c.locate-block.result.0

pub returns-then-place-le-HALF-clause-filled : goal.returns-then-place-le-HALF-clause-filled
returns-then-place-le-HALF-clause-filled c =
    let bs = c.args.blocks.now.items in
    let at = c.locate-block.result in
    let h = full_from bs c.as_slice.result.now c.args.at at.0 at.1 c.len-len.result c.index.result.now
    c.as_slice.ensures.value c.locate-block.ensures.spot c.index.ensures c.len-len.ensures.len
    c.len-len.ensures.most c.if-len-lt-BLOCK.false in
    rw c.split.ensures.items (AreFilled-halved bs at.0 h.spot.listed (omega (arith, h.full)) c.requires.filled)

pub returns-then-place-le-HALF-clause-blocks : goal.returns-then-place-le-HALF-clause-blocks
returns-then-place-le-HALF-clause-blocks c =
    let bs = c.args.blocks.now.items in
    let at = c.locate-block.result in
    let h = full_from bs c.as_slice.result.now c.args.at at.0 at.1 c.len-len.result c.index.result.now
    c.as_slice.ensures.value c.locate-block.ensures.spot c.index.ensures c.len-len.ensures.len
    c.len-len.ensures.most c.if-len-lt-BLOCK.false in
    omega (arith, ap length c.split.ensures.items, length-halved bs at.0 h.spot.listed, c.split.ensures.spare)

pub returns-clause-spot : goal.returns-clause-spot
returns-clause-spot c =
    let bs = c.args.blocks.now.items in
    let at = c.locate-block.result in
    let h = full_from bs c.as_slice.result.now c.args.at at.0 at.1 c.len-len.result c.index.result.now
    c.as_slice.ensures.value c.locate-block.ensures.spot c.index.ensures c.len-len.ensures.len
    c.len-len.ensures.most c.if-len-lt-BLOCK.false in
    let one : at.0 + 1 ≡ suc at.0 = omega arith in
    rw (one, c.split.ensures.items) (second_spot bs c.args.at at.0 at.1 h.spot (omega (arith, h.full)) c.if-place-le-HALF.false)

pub returns-clause-room : goal.returns-clause-room
returns-clause-room c =
    let bs = c.args.blocks.now.items in
    let at = c.locate-block.result in
    let h = full_from bs c.as_slice.result.now c.args.at at.0 at.1 c.len-len.result c.index.result.now
    c.as_slice.ensures.value c.locate-block.ensures.spot c.index.ensures c.len-len.ensures.len
    c.len-len.ensures.most c.if-len-lt-BLOCK.false in
    let one : at.0 + 1 ≡ suc at.0 = omega arith in
    rw (one, c.split.ensures.items) (second_room bs c.args.at at.0 at.1 h)

pub returns-clause-items : goal.returns-clause-items
returns-clause-items c = ap concat c.split.ensures.items ∙ concat-halved c.args.blocks.now.items c.locate-block.result.0

pub returns-clause-filled : goal.returns-clause-filled
returns-clause-filled c =
    let bs = c.args.blocks.now.items in
    let at = c.locate-block.result in
    let h = full_from bs c.as_slice.result.now c.args.at at.0 at.1 c.len-len.result c.index.result.now
    c.as_slice.ensures.value c.locate-block.ensures.spot c.index.ensures c.len-len.ensures.len
    c.len-len.ensures.most c.if-len-lt-BLOCK.false in
    rw c.split.ensures.items (AreFilled-halved bs at.0 h.spot.listed (omega (arith, h.full)) c.requires.filled)

pub returns-clause-blocks : goal.returns-clause-blocks
returns-clause-blocks c =
    let bs = c.args.blocks.now.items in
    let at = c.locate-block.result in
    let h = full_from bs c.as_slice.result.now c.args.at at.0 at.1 c.len-len.result c.index.result.now
    c.as_slice.ensures.value c.locate-block.ensures.spot c.index.ensures c.len-len.ensures.len
    c.len-len.ensures.most c.if-len-lt-BLOCK.false in
    omega (arith, ap length c.split.ensures.items, length-halved bs at.0 h.spot.listed, c.split.ensures.spare)

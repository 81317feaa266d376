use Rattle.std.proofs.Common.{◌<◌, ◌≤◌, length, refl, arith}
use Rattle.sorted_order.specs.Inside.Blocks.{block_at}
use Rattle.sorted_order.proofs.BlockFacts.{block_length}
use Rattle.sorted_order.proofs.SearchFacts.{edge_next}
use Rattle.sorted_order.proofs.guess.is_edge.Goals as goal

pub is_past-requires-clause-place : goal.is_past-requires-clause-place
is_past-requires-clause-place g c =
    let bs = c.args.blocks.now in
    let i = c.args.block in
    let here : i < length bs = omega (arith, c.if-block-blocks.false) in
    let len = block_length bs i c.len.result c.index-blocks-block.result here c.index-blocks-block.is c.len.ensures.len in
    omega (arith, len, c.if-place-len.false)

pub returns-then-is_past-clause-spot : goal.returns-then-is_past-clause-spot
returns-then-is_past-clause-spot g c = λ yes.
    let bs = c.args.blocks.now in
    let i = c.args.block in
    let here : i < length bs = omega (arith, c.if-block-blocks.false) in
    let len = block_length bs i c.len.result c.index-blocks-block.result here c.index-blocks-block.is c.len.ensures.len in
    let within : c.args.place ≤ length (block_at bs i) = omega (arith, len, c.if-place-len.false) in
    record { listed = here; within = within; whole = refl }

pub returns-then-is_past-clause-edge : goal.returns-then-is_past-clause-edge
returns-then-is_past-clause-edge g c = λ yes.
    let bs = c.args.blocks.now in
    let i = c.args.block in
    let here : i < length bs = omega (arith, c.if-block-blocks.false) in
    let len = block_length bs i c.len.result c.index-blocks-block.result here c.index-blocks-block.is c.len.ensures.len in
    let within : c.args.place ≤ length (block_at bs i) = omega (arith, len, c.if-place-len.false) in
    edge_next (g.P.Probe.compared c.args.probe.now) bs i c.args.place here within
    (c.is_past.ensures.before c.if-is_past.true) (c.is_past.ensures.start c.if-is_past.true) (c.is_not_past.ensures yes)

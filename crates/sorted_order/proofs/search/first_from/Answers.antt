use Rattle.std.proofs.Common.{◌≡◌, ◌+◌, ◌<◌, [], length, arith, ◌∙◌, ap, sym, refl, Some, slice_index}
use Rattle.std.proofs.lemmas.List.{get_or_read}
use Rattle.std.proofs.lemmas.Option.{slice_get_past}
use Rattle.std.specs.List.{concat}
use Rattle.sorted_order.specs.Inside.Blocks.{block_at, length_before}
use Rattle.sorted_order.proofs.BlockFacts.{first_here, first_next, first_past, filled_at, block_length}
use Rattle.sorted_order.proofs.search.first_from.Goals as goal

pub returns-then-place-len : goal.returns-then-place-len
returns-then-place-len c =
    let bs = c.args.blocks.now in
    let i = c.args.block in
    let len = block_length bs i c.len.result c.index-blocks-block.result c.requires.block c.index-blocks-block.is c.len.ensures.len in
    let same : c.as_slice.result.now ≡ block_at bs i =
    c.as_slice.ensures ∙ get_or_read bs i c.index-blocks-block-then-place-len.result c.requires.block c.index-blocks-block-then-place-len.is [] in
    let here : c.args.place < length (block_at bs i) = omega (arith, len, c.if-place-len.true) in
    ap (λ xs. Some (slice_index xs c.args.place)) same ∙ sym (first_here bs i c.args.place (length_before bs i + c.args.place) c.requires.block here refl)

pub bounds-as_slice-0 : goal.bounds-as_slice-0
bounds-as_slice-0 c =
    let bs = c.args.blocks.now in
    let next = c.args.block + 1 in
    let there = c.if-block-blocks.true in
    let same : c.as_slice-then-block-blocks.result.now ≡ block_at bs next =
    c.as_slice-then-block-blocks.ensures ∙ get_or_read bs next c.index-blocks-block-then-block-blocks.result there
    c.index-blocks-block-then-block-blocks.is [] in
    let later : 0 < next = omega arith in
    let some : 0 < length c.as_slice-then-block-blocks.result.now = omega (arith, ap length same, filled_at bs next later there c.requires.filled) in
    some

pub returns-then-block-blocks : goal.returns-then-block-blocks
returns-then-block-blocks c =
    let bs = c.args.blocks.now in
    let i = c.args.block in
    let there = c.if-block-blocks.true in
    let len = block_length bs i c.len.result c.index-blocks-block.result c.requires.block c.index-blocks-block.is c.len.ensures.len in
    let same : c.as_slice-then-block-blocks.result.now ≡ block_at bs (i + 1) =
    c.as_slice-then-block-blocks.ensures ∙ get_or_read bs (i + 1) c.index-blocks-block-then-block-blocks.result there
    c.index-blocks-block-then-block-blocks.is [] in
    let end : c.args.place ≡ length (block_at bs i) = omega (arith, len, c.if-place-len.false, c.requires.place) in
    ap (λ xs. Some (slice_index xs 0)) same ∙ sym (first_next bs i c.args.place there end c.requires.filled)

pub returns : goal.returns
returns c =
    let bs = c.args.blocks.now in
    let i = c.args.block in
    let len = block_length bs i c.len.result c.index-blocks-block.result c.requires.block c.index-blocks-block.is c.len.ensures.len in
    let end : c.args.place ≡ length (block_at bs i) = omega (arith, len, c.if-place-len.false, c.requires.place) in
    let past = first_past bs i c.args.place c.requires.block (omega arith) end in
    sym (slice_get_past (concat bs) (length_before bs i + c.args.place) past)

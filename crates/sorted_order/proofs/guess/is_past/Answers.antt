use Rattle.std.proofs.Common.{◌≡◌, ◌-◌, ◌<◌, [], length, arith, ◌∙◌, ap, sym, subst, slice_index}
use Rattle.std.proofs.lemmas.List.{get_or_read}
use Rattle.std.specs.declared.cmp.Ordering.TheVariants.{Less}
use Rattle.sorted_order.specs.Inside.Blocks.{block_at}
use Rattle.sorted_order.proofs.SearchFacts.{All-block, less_of}
use Rattle.sorted_order.proofs.guess.is_past.Goals as goal

pub compare-requires : goal.compare-requires
compare-requires g c =
    let bs = c.args.blocks.now in
    let i = c.args.block in
    let same : c.as_slice-numbers.result.now ≡ block_at bs i =
    c.as_slice-numbers.ensures ∙ get_or_read bs i c.index-blocks-block.result c.requires.block c.index-blocks-block.is [] in
    let within : c.args.place - 1 < length (block_at bs i) = omega (arith, c.requires.place, c.if-place-eq0.false) in
    subst (g.P.Probe.knows c.args.probe.now) (ap (λ xs. slice_index xs (c.args.place - 1)) (sym same))
    (All-block (g.P.Probe.knows c.args.probe.now) bs i c.requires.block c.requires.known (c.args.place - 1) 0 within)

pub returns-clause-before : goal.returns-clause-before
returns-clause-before g c = λ yes some.
    let bs = c.args.blocks.now in
    let i = c.args.block in
    let same : c.as_slice-numbers.result.now ≡ block_at bs i =
    c.as_slice-numbers.ensures ∙ get_or_read bs i c.index-blocks-block.result c.requires.block c.index-blocks-block.is [] in
    subst (λ xs. g.P.Probe.compared c.args.probe.now (slice_index xs (c.args.place - 1)) ≡ Less) same
    (sym c.compare.ensures ∙ less_of c.compare.result (sym c.is_lt.ensures ∙ yes))

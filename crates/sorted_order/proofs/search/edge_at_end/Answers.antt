use Rattle.std.proofs.Common.{◌≡◌, ◌+◌, ◌-◌, ◌<◌, ◌≤◌, suc, [], length, arith, ◌∙◌, ap, sym, subst, refl, slice_index}
use Rattle.std.proofs.lemmas.List.{get_or_read}
use Rattle.std.specs.declared.cmp.Ordering.TheVariants.{Less}
use Rattle.sorted_order.specs.Inside.Blocks.{block_at, length_before, IsSpot}
use Rattle.sorted_order.proofs.SearchFacts.{All-block, edge_of_end, less_of}
use Rattle.sorted_order.proofs.search.edge_at_end.Goals as goal

pub compare-requires : goal.compare-requires
compare-requires g c =
    let bs = c.args.blocks.now in
    let i = length bs - 1 in
    let here : i < length bs = omega (arith, c.requires.some) in
    let same : c.as_slice-numbers.result.now ≡ block_at bs i =
    c.as_slice-numbers.ensures ∙ get_or_read bs i c.index-blocks-last.result here c.index-blocks-last.is [] in
    let w = length (block_at bs i) in
    let last : length c.as_slice-numbers.result.now - 1 ≡ w - 1 = ap (λ xs. length xs - 1) same in
    let within : w - 1 < w = omega (arith, ap length same, c.if-len-gt0.true) in
    subst (g.P.Probe.knows c.args.probe.now) (ap (λ xs. slice_index xs (length xs - 1)) (sym same))
    (All-block (g.P.Probe.knows c.args.probe.now) bs i here c.requires.known (w - 1) 0 within)

pub returns-then-is_lt : goal.returns-then-is_lt
returns-then-is_lt g c =
    let bs = c.args.blocks.now in
    let i = length bs - 1 in
    let here : i < length bs = omega (arith, c.requires.some) in
    let end : length bs ≤ suc i = omega (arith, c.requires.some) in
    let same : c.as_slice-numbers.result.now ≡ block_at bs i =
    c.as_slice-numbers.ensures ∙ get_or_read bs i c.index-blocks-last.result here c.index-blocks-last.is [] in
    let w = length c.as_slice-numbers.result.now in
    let whole : w ≡ length (block_at bs i) = ap length same in
    let most : w ≤ length (block_at bs i) = omega (arith, whole) in
    let less : g.P.Probe.compared c.args.probe.now (slice_index c.as_slice-numbers.result.now (w - 1)) ≡ Less =
    sym c.compare.ensures ∙ less_of c.compare.result (sym c.is_lt.ensures ∙ c.if-is_lt.true) in
    let there : g.P.Probe.compared c.args.probe.now (slice_index (block_at bs i) (w - 1)) ≡ Less =
    subst (λ xs. g.P.Probe.compared c.args.probe.now (slice_index xs (w - 1)) ≡ Less) same less in
    let spot : IsSpot bs (length_before bs i + w) i w = record { listed = here; within = most; whole = refl } in
    (spot, edge_of_end (g.P.Probe.compared c.args.probe.now) bs i w here end whole c.if-len-gt0.true there)

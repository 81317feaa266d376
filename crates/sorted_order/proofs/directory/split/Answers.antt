use Rattle.std.proofs.Common.{◌≡◌, ◌+◌, suc, IsOk, arith, ◌∙◌}
use Rattle.sorted_order.proofs.BlockFacts.{if_ok, split_from}
use Rattle.sorted_order.proofs.directory.split.Goals as goal

pub returns-clause-items : goal.returns-clause-items
returns-clause-items c =
    let ok : IsOk c.insert.result = c.insert.ensures.succeeds (omega (arith, c.requires.directory, c.args.blocks.now.ok.0)) in
    let next : c.args.block + 1 ≡ suc c.args.block = omega arith in
    if_ok c.insert.result _ _ _ ok c.insert.ensures.items
    ∙ split_from c.args.blocks.now.items c.args.block (c.args.block + 1) c.index_mut-first.result.now _ _
    c.requires.block c.index_mut-first.ensures.value next c.halve.ensures.first c.halve.ensures.second

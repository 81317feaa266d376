use Rattle.sorted_order.proofs.BlockFacts.{put_from}
use Rattle.sorted_order.proofs.directory.put_into.Goals as goal

pub returns-clause-items : goal.returns-clause-items
returns-clause-items c =
    rw c.insert.ensures
    (put_from c.args.blocks.now.items c.args.block c.args.within c.args.number c.index_mut-chosen.result.now c.requires.block c.index_mut-chosen.ensures.value)

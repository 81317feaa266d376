use Rattle.bundle_view.proofs.GroupFacts.{so_far_step, so_far_end, group_at}
use Rattle.bundle_view.proofs.conflict.add_conflicts.Goals as goal

pub add_conflict-requires : goal.add_conflict-requires
add_conflict-requires c = group_at c.args.documents.now c.groups.start c.group_len-len.result _ c.requires c.split_at.ensures.back c.group_len-len.ensures

pub groups-preserved : goal.groups-preserved
groups-preserved c =
    so_far_step c.args.domain.now c.args.documents.now c.groups.start c.group_len-len.result _ _ _ _ c.requires
    c.split_at.ensures.back c.groups.invariant c.group_len-len.ensures c.in_ok-add_conflict.ensures

pub returns : goal.returns
returns c = so_far_end c.args.domain.now c.args.documents.now c.groups.start _ _ c.groups.invariant c.groups-test.false

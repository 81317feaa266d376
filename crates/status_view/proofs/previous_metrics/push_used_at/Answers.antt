use Rattle.std.proofs.Common.{codes, decimal}
use Rattle.status_view.proofs.PieceFacts.{two}
use Rattle.status_view.proofs.previous_metrics.push_used_at.Goals as goal

pub returns : goal.returns
returns c =
    two c.args.out.now.items
    (codes "fedbundle_previous_config_used_timestamp_seconds ") _ _ _ c.in_ok-extend_from_slice.ensures.items
    (two c.extend_from_slice.new.self.items (decimal c.args.seconds)
    (codes "\n") _ _ c.in_ok-push_number.ensures
    c.in_ok-extend_from_slice-2.ensures.items)

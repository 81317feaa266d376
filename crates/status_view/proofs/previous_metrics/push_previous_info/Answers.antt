use Rattle.std.proofs.Common.{codes}
use Rattle.hex.specs.Hex.{encode_lower}
use Rattle.status_view.specs.StatusMetrics.{gauge_head}
use Rattle.status_view.proofs.PieceFacts.{two}
use Rattle.status_view.proofs.previous_metrics.push_previous_info.Goals as goal

pub returns : goal.returns
returns c =
    two c.args.out.now.items
    (gauge_head (codes "fedbundle_previous_config_info") (codes "The configuration that is changed from.")) _ _ _
    c.in_ok-push_gauge_head.ensures
    (two c.push_gauge_head.new.out.items
    (codes "fedbundle_previous_config_info{config=\"") _ _ _ c.in_ok-extend_from_slice.ensures.items
    (two c.extend_from_slice.new.self.items
    (encode_lower c.args.previous.config.0) (codes "\"} 1\n") _ _ c.in_ok-push_digits.ensures
    c.in_ok-extend_from_slice-2.ensures.items))

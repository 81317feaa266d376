use Rattle.std.proofs.Common.{◌++◌, ◌∙◌, ap, codes}
use Rattle.status_view.specs.PeerMetrics.{peer_label}
use Rattle.status_view.specs.Running.{fault_code, fault_name}
use Rattle.status_view.proofs.PieceFacts.{two}
use Rattle.status_view.proofs.running_metrics.push_fault.Goals as goal

pub returns : goal.returns
returns c =
    two c.args.out.now.items
    (peer_label fault_name c.args.peer.now) _ _ _ c.in_ok-push_peer_label.ensures
    (two c.push_peer_label.new.out.items
    (codes "\",fault=\"") _ _ _ c.in_ok-extend_from_slice.ensures.items
    (two c.extend_from_slice.new.self.items (fault_code c.args.fault) (codes "\"} 1\n") _ _
    (c.in_ok-extend_from_slice-2.ensures.items
    ∙ ap (λ t. c.extend_from_slice.new.self.items ++ t) (c.as_bytes.ensures.value ∙ c.fault_code.ensures))
    c.in_ok-extend_from_slice-3.ensures.items))

-- The samples of a peer, in the text format of Prometheus
use Rattle.std.specs.Prelude.{ℕ, List, ◌++◌, codes, decimal, string_bytes}
use Rattle.status_view.specs.declared.running.PeerStatus.{PeerStatus}
use Rattle.status_view.specs.StatusMetrics.{label_value}

-- the name of a metric of a peer, up to the peer's address
abbrev pub peer_label : List ℕ → PeerStatus → List ℕ
peer_label name p = name ++ (codes "{peer=\"" ++ label_value (string_bytes p.address))

abbrev pub peer_sample : List ℕ → PeerStatus → ℕ → List ℕ
peer_sample name p value = peer_label name p ++ (codes "\"} " ++ (decimal value ++ codes "\n"))

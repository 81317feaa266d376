use Rattle.std.proofs.Common.{◌≡◌, ◌++◌, drop, false}
use Rattle.json_text.specs.JsonText.{parted_texts}
use Rattle.status_view.specs.Changing.{asked_json}
use Rattle.status_view.proofs.previous_json.push_asked_peers.Given as goal

abbrev pub invariant-loop-peer : goal.invariant-loop-peer
invariant-loop-peer l =
    l.out.items ++ parted_texts asked_json l.later (drop l.peer-index l.peers) ≡ l.initial.out.items ++ parted_texts asked_json false l.peers

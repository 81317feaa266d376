use Rattle.std.proofs.Common.{◌≡◌, ◌++◌, drop, false}
use Rattle.json_text.specs.JsonText.{parted_texts}
use Rattle.status_view.specs.StatusJson.{keyless_json}
use Rattle.status_view.proofs.json_writer.push_keyless.Given as goal

abbrev pub invariant-loop-seed : goal.invariant-loop-seed
invariant-loop-seed l =
    l.out.items ++ parted_texts keyless_json l.later (drop l.seed-index l.seeds) ≡ l.initial.out.items ++ parted_texts keyless_json false l.seeds

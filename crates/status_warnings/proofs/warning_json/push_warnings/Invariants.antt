use Rattle.std.proofs.Common.{◌≡◌, ◌++◌, drop, false}
use Rattle.json_text.specs.JsonText.{parted_texts}
use Rattle.status_warnings.specs.WarningJson.{warning_json}
use Rattle.status_warnings.proofs.warning_json.push_warnings.Given as goal

abbrev pub invariant-loop-warning : goal.invariant-loop-warning
invariant-loop-warning l =
    l.out.items ++ parted_texts warning_json l.later (drop l.warning-index l.warnings)
    ≡ l.initial.out.items ++ parted_texts warning_json false l.warnings

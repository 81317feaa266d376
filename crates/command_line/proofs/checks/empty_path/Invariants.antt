use Rattle.std.proofs.Common.{◌≡◌, drop, find, map, option_map}
use Rattle.command_line.specs.Checks.{empty_path, is_empty_path}
use Rattle.command_line.specs.OptionRows.{taken_name}
use Rattle.command_line.proofs.checks.empty_path.Given as goal

abbrev pub invariant-options : goal.invariant-options
invariant-options l = option_map taken_name (find (is_empty_path l.call.name (map (option_map (λ t. t.now)) l.call.texts.items))
    (drop l.taken-index l.taken-items)) ≡ empty_path l.call.name (map (option_map (λ t. t.now)) l.call.texts.items)

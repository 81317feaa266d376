use Rattle.std.proofs.Common.{◌≡◌, drop, map, option_map}
use Rattle.command_line.specs.OptionTexts.{said_with}
use Rattle.command_line.proofs.option_texts.said_with.Given as goal

abbrev pub invariant-options : goal.invariant-options
invariant-options l = said_with l.options (map (option_map (λ t. t.now)) l.texts) l.fn.wanted
    ≡ said_with (drop l.taken-index l.options) (map (option_map (λ t. t.now)) l.rest) l.fn.wanted

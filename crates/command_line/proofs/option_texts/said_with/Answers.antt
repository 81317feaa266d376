use Rattle.std.proofs.Common.{sym, ◌∙◌, drop, option_map}
use Rattle.command_line.proofs.OptionTextFacts.{nothing_with}
use Rattle.command_line.proofs.option_texts.said_with.Goals as goal

pub returns-in_default : goal.returns-in_default
returns-in_default c =
    sym (c.options.invariant ∙ nothing_with (option_map (λ t. t.now)) (drop c.options.taken-index c.args.options.now)
    c.options.rest.now c.args.wanted c.in_default.len_below)

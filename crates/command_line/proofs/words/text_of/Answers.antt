use Rattle.std.proofs.Common.{ap, ◌∙◌}
use Rattle.clap.proofs.WalkLemmas.{first_value-rows}
use Rattle.clap.specs.Words.{found_of, first_value}
use Rattle.command_line.specs.OptionRows.{option_text}
use Rattle.command_line.proofs.words.text_of.Goals as goal

pub returns : goal.returns
returns c = c.get_str.ensures ∙ ap (first_value (found_of c.args.matches.now)) (c.text.ensures ∙ ap option_text c.name.ensures)
    ∙ first_value-rows (found_of c.args.matches.now) (option_text _)

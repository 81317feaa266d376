use Rattle.std.proofs.Common.{ap, ◌∙◌}
use Rattle.clap.proofs.WalkLemmas.{first_value-rows}
use Rattle.clap.specs.Words.{found_of, first_value}
use Rattle.command_line.specs.OptionRows.{option_text}
use Rattle.command_line.specs.Words.{is_given_as}
use Rattle.command_line.proofs.words.is_given.Goals as goal

pub returns : goal.returns
returns c = c.is_given_as.ensures ∙ ap (is_given_as c.args.option) (c.get_str.ensures ∙ ap (first_value (found_of c.args.matches.now)) c.text.ensures
    ∙ first_value-rows (found_of c.args.matches.now) (option_text c.args.option))

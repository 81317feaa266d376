use Rattle.std.proofs.Common.{rules, ap, sym, ◌∙◌, map, option_map, [], ◌∷◌, get_or}
use Rattle.std.proofs.lemmas.List.{map-append}
use Rattle.clap.specs.Words.{found_of, rows_of}
use Rattle.command_line.specs.declared.command_name.OptionName.TheVariants.{Config}
use Rattle.command_line.specs.declared.command_name.TakenOption.TheVariants.{Required}
use Rattle.command_line.specs.Words.{given_taken}
use Rattle.command_line.proofs.WordsFacts.{texts_more}
use Rattle.command_line.proofs.words.texts_of.Goals as goal

pub options-preserved : goal.options-preserved
options-preserved c = texts_more (given_taken (rows_of (found_of c.args.matches.now))) c.args.options.now
    c.options.taken-index (get_or c.args.options.now c.options.taken-index (Required Config)) c.options-test.true (search rules)
    (map (option_map (λ t. t.now)) c.options.texts.items)
    (map (option_map (λ t. t.now)) c.push.new.self.items) (option_map (λ t. t.now) c.text_of.result)
    (ap (map (option_map (λ t. t.now))) c.in_ok-push.ensures.items ∙ map-append (option_map (λ t. t.now)) c.options.texts.items (c.text_of.result ∷ []))
    (sym c.text_of.ensures) ∙ c.options.invariant

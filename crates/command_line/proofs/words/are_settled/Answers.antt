use Rattle.std.proofs.Common.{rules, ap, sym, ◌∙◌}
use Rattle.clap.specs.Words.{found_of, rows_of}
use Rattle.command_line.specs.Words.{is_given, is_settled_in}
use Rattle.command_line.proofs.WordsFacts.{one_unsettled, settled_as, settled_more}
use Rattle.command_line.proofs.words.are_settled.Goals as goal

pub returns-then-not-is_settled_at : goal.returns-then-not-is_settled_at
returns-then-not-is_settled_at c =
    let rows = rows_of (found_of c.args.matches.now) in
    sym (one_unsettled (is_settled_in c.args.place rows) c.args.options.now c.options.taken-index _ c.options-test.true (search rules)
    (sym (settled_as c.args.place rows _ c.is_given-at.result c.is_given.result (sym c.is_given-at.ensures)
    (ap (is_given rows) (sym c.name.ensures) ∙ sym c.is_given.ensures)) ∙ sym c.is_settled_at.ensures ∙ search rules))

pub options-preserved : goal.options-preserved
options-preserved c =
    let rows = rows_of (found_of c.args.matches.now) in
    settled_more (is_settled_in c.args.place rows) c.args.options.now c.options.taken-index _ c.options-test.true (search rules) c.options.invariant
    (sym (settled_as c.args.place rows _ c.is_given-at.result c.is_given.result (sym c.is_given-at.ensures)
    (ap (is_given rows) (sym c.name.ensures) ∙ sym c.is_given.ensures)) ∙ sym c.is_settled_at.ensures ∙ search rules)

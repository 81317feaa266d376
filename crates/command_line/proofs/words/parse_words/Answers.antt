use Rattle.std.proofs.Common.{ap, sym, ◌∙◌, subst, map, Some}
use Rattle.std.specs.List.{list_all}
use Rattle.clap.specs.Words.{HasKind, found_of, rows_of}
use Rattle.command_line.specs.Words.{given_taken, is_settled_in}
use Rattle.command_line.proofs.WordsFacts.{joined_parts, no_parts, no_subcommand, refused_words}
use Rattle.command_line.proofs.WordsFacts.{unknown_subcommand, unsettled_call}
use Rattle.command_line.proofs.words.parse_words.Goals as goal

pub returns-in-Err : goal.returns-in-Err
returns-in-Err c =
    let words = map (λ w. w.now) c.args.words.now in
    refused_words c.args.place words c.in-Err.error c.refusal_of.result
    (subst (λ kinds. HasKind kinds c.in-Err.error) c.in-Ok.ensures.same_fault (c.in-Err.ensures.kinds c.in-Ok.ensures.free))
    c.refusal_of.ensures.kind c.refusal_of.ensures.memory

pub returns-in_default-subcommand : goal.returns-in_default-subcommand
returns-in_default-subcommand c =
    let words = map (λ w. w.now) c.args.words.now in
    let parse = c.in-Ok-try_get_matches_from.ensures.matches c.in-Ok.ensures.simple in
    no_subcommand c.args.place words
    (sym c.in-Ok.ensures.same_fault ∙ c.in-Ok-try_get_matches_from.ensures.kinds c.in-Ok.ensures.free)
    (sym c.in-Ok.ensures.same_entered ∙ sym parse.1
    ∙ no_parts _ _ _ c.in_default-subcommand.ensures.name)

pub returns-in_default-command_of : goal.returns-in_default-command_of
returns-in_default-command_of c =
    let words = map (λ w. w.now) c.args.words.now in
    let rows = rows_of (found_of c.in-Some.options.now) in
    let parse = c.in-Ok-try_get_matches_from.ensures.matches c.in-Ok.ensures.simple in
    unknown_subcommand c.args.place words c.in-Some.word.now rows
    (sym c.in-Ok.ensures.same_fault ∙ c.in-Ok-try_get_matches_from.ensures.kinds c.in-Ok.ensures.free)
    (sym c.in-Ok.ensures.same_entered ∙ sym parse.1
    ∙ joined_parts _ _ _ c.in-Some.word.now rows c.in-Some.ensures.name c.in-Some.ensures.rows)
    (sym c.command_of.ensures.is ∙ c.in_default-command_of.is)

pub returns-then-not-are_settled : goal.returns-then-not-are_settled
returns-then-not-are_settled c =
    let words = map (λ w. w.now) c.args.words.now in
    let rows = rows_of (found_of c.in-Some.options.now) in
    let parse = c.in-Ok-try_get_matches_from.ensures.matches c.in-Ok.ensures.simple in
    unsettled_call c.args.place words c.in-Some-command_of.name rows
    (sym c.in-Ok.ensures.same_fault ∙ c.in-Ok-try_get_matches_from.ensures.kinds c.in-Ok.ensures.free)
    (sym c.in-Ok.ensures.same_entered ∙ sym parse.1
    ∙ joined_parts _ _ _ c.in-Some.word.now rows c.in-Some.ensures.name c.in-Some.ensures.rows
    ∙ ap (λ w. Some (w, rows)) c.in-Some-command_of.ensures.text)
    (ap (list_all (is_settled_in c.args.place rows)) (sym c.options-wanted.ensures) ∙ sym c.are_settled.ensures
    ∙ c.if-not-are_settled.true)

pub returns-in-Ok-texts_of : goal.returns-in-Ok-texts_of
returns-in-Ok-texts_of c =
    let words = map (λ w. w.now) c.args.words.now in
    let rows = rows_of (found_of c.in-Some.options.now) in
    let parse = c.in-Ok-try_get_matches_from.ensures.matches c.in-Ok.ensures.simple in
    record {
      rows = rows;
      taken = sym c.in-Ok.ensures.same_fault ∙ c.in-Ok-try_get_matches_from.ensures.kinds c.in-Ok.ensures.free;
      entered = sym c.in-Ok.ensures.same_entered ∙ sym parse.1
          ∙ joined_parts _ _ _ c.in-Some.word.now rows c.in-Some.ensures.name c.in-Some.ensures.rows
          ∙ ap (λ w. Some (w, rows)) c.in-Some-command_of.ensures.text;
      given = ap (map (given_taken rows)) (sym c.options-wanted.ensures) ∙ c.in-Ok-texts_of.ensures;
      settled = ap (list_all (is_settled_in c.args.place rows)) (sym c.options-wanted.ensures) ∙ sym c.are_settled.ensures
          ∙ c.if-not-are_settled.false;
    }

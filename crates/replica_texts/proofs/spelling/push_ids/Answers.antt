use Rattle.std.proofs.Common.{◌∙◌, sym, ap, append-nil, ◌++◌}
use Rattle.std.specs.List.{flat_map}
use Rattle.std.proofs.lemmas.List.{drop_all}
use Rattle.replica_texts.proofs.PieceFacts.{later_id, join-ids}
use Rattle.replica_texts.proofs.spelling.push_ids.Goals as goal

pub returns : goal.returns
returns c =
    join-ids c.args.out.now.items c.push_quoted.new.out.items c.loop-id.out.items c.args.ids.now c.in-Some.others.now
    c.in-Some.first.now c.in-Some.ensures.cases.0
    c.in_ok-push_quoted.ensures
    (sym (append-nil c.loop-id.out.items) ∙ ap (λ xs. c.loop-id.out.items ++ flat_map later_id xs)
    (sym (drop_all c.loop-id.id-index c.in-Some.others.now c.loop-id-test.false)) ∙ c.loop-id.invariant)

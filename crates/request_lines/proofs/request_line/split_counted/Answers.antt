use Rattle.request_lines.proofs.CountedFacts.{after_second, first_part_is, has_first, no_comma, split_whole}
use Rattle.request_lines.proofs.request_line.split_counted.Goals as goal

pub returns-in_default : goal.returns-in_default
returns-in_default c = λ count words s. c.in_default.ensures _ (has_first c.args.line.now count words s)

pub returns-in_default-first_part : goal.returns-in_default-first_part
returns-in_default-first_part c = λ count words s. no_comma c.args.line.now c.in-Some.rest.now count words c.in-Some.ensures c.in_default-first_part.ensures s

pub returns-in_default-after : goal.returns-in_default-after
returns-in_default-after c = λ count words s. c.in_default-after.ensures _
    (first_part_is c.args.line.now c.in-Some.rest.now _ _ count words c.in-Some.ensures c.in-Some-first_part.ensures s).1

pub returns-in-None : goal.returns-in-None
returns-in-None c = λ count words s. c.in-None.ensures _
    (after_second c.args.line.now c.in-Some.rest.now _ _ _ count words c.in-Some.ensures c.in-Some-first_part.ensures c.in-Some-after.ensures s)

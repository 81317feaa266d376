use Rattle.std.proofs.Common.{inl, rules, Some}
use Rattle.local_answers.proofs.changing_replies.effect_of.Goals as goal

pub returns-in-Ok : goal.returns-in-Ok
returns-in-Ok g c = inl (record {
  sink = record {
    before = Some c.new-errors.result.writer.items;
    after = Some c.show_distrust.new.sink.writer.items;
    had_failed = c.new-errors.result.failed;
    has_failed = c.show_distrust.new.sink.failed;
  };
  empty = search rules;
  filled = search rules;
  runs = c.in-Ok.ensures.shows;
})

use Rattle.std.proofs.Common.{◌≡◌, ◌++◌, drop, map}
use Rattle.poll_view.specs.PollTexts.{poll_json}
use Rattle.poll_view.proofs.polls_writer.poll_jsons.Given as goal

abbrev pub invariant-loop-poll : goal.invariant-loop-poll
invariant-loop-poll l = l.texts.items ++ map poll_json (drop l.poll-index l.polls) ≡ map poll_json l.polls

use Rattle.std.proofs.Common.{◌≡◌, ◌++◌, drop, flat_map}
use Rattle.poll_view.specs.PollTexts.{poll_line}
use Rattle.poll_view.proofs.polls_writer.polls_lines.Given as goal

abbrev pub invariant-loop-poll : goal.invariant-loop-poll
invariant-loop-poll l = l.text.items ++ flat_map poll_line (drop l.poll-index l.polls) ≡ flat_map poll_line l.polls

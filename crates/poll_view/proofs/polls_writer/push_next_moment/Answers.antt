use Rattle.std.proofs.Common.{◌++◌, codes}
use Rattle.json_text.proofs.PartFacts.{one_text}
use Rattle.poll_view.specs.PollTexts.{seconds_text}
use Rattle.poll_view.proofs.polls_writer.push_next_moment.Goals as goal

pub returns : goal.returns
returns c =
    one_text c.args.text.now.items (codes ",\"due\":false,\"next\":") (seconds_text c.args.moment ++ codes "}") _ _
    c.in_ok-extend_from_slice.ensures.items
    (one_text c.extend_from_slice.new.self.items (seconds_text c.args.moment) (codes "}") _ _ c.in_ok-push_moment.ensures
    c.in_ok-extend_from_slice-2.ensures.items)

use Rattle.std.proofs.Common.{◌++◌, ◌∙◌, ap, codes}
use Rattle.status_warnings.specs.WarningLines.{second_or_never}
use Rattle.status_view.proofs.PieceFacts.{two}
use Rattle.status_warnings.proofs.warning_lines.push_fetch_words.Goals as goal

pub returns : goal.returns
returns c =
    two c.args.out.now.items
    (c.args.domain.now) _ _ _
    (c.in_ok-extend_from_slice.ensures.items
    ∙ ap (λ t. c.args.out.now.items ++ t) (c.as_bytes.ensures.value ∙ c.as_str.ensures.text))
    (two c.extend_from_slice.new.self.items
    (codes " was last fetched: ")
    (second_or_never c.args.fetched) _ _
    c.in_ok-extend_from_slice-2.ensures.items
    c.in_ok-push_second_or_never.ensures)

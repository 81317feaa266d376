use Rattle.std.proofs.Common.{◌≤◌, Some, ap, sym, subst, ◌∙◌, arith}
use Rattle.serde_json.specs.Data.{depth}
use Rattle.serde_json.specs.Read.{max_depth}
use Rattle.serde_json.specs.Written.{compact_text, has_float}
use Rattle.serde_json.proofs.OnLiterals.{serde_json_on_literals}
use Rattle.request_lines.proofs.reply_head.write_reply_head.Goals as goal

pub returns-clause-text : goal.returns-clause-text
unfolding serde_json_on_literals
returns-clause-text c = c.in_ok-text.ensures.text (ap has_float c.in_ok-value_of.ensures) ∙ ap compact_text c.in_ok-value_of.ensures

pub returns-clause-read_back : goal.returns-clause-read_back
returns-clause-read_back c =
    c.in_ok-text.ensures.reads_back (subst (λ d. depth d ≤ max_depth) (sym c.in_ok-value_of.ensures) (omega arith))
    ∙ ap Some c.in_ok-value_of.ensures

use Rattle.std.proofs.Common.{Bool, IfOk, subst, sym}
use Rattle.local_answers.specs.RequestRun.{RepliesByKind}
use Rattle.local_answers.proofs.ChangingFacts.{line_errors_named, names_line_errors, helps, printed}
use Rattle.local_answers.proofs.carrying_out.reply_of_clap.Goals as goal

pub returns-then-use_stderr : goal.returns-then-use_stderr
returns-then-use_stderr c =
    subst (λ (b : Bool). IfOk c.of_streams.result (RepliesByKind b))
    (sym (names_line_errors _ c.use_stderr.result c.if-use_stderr.true c.use_stderr.ensures))
    (line_errors_named _ c.into_bytes-text.result.items c.of_streams.result c.new.ensures.items c.of_streams.ensures)

pub returns-else-use_stderr : goal.returns-else-use_stderr
returns-else-use_stderr c =
    subst (λ (b : Bool). IfOk c.of_streams-else-use_stderr.result (RepliesByKind b))
    (sym (helps _ c.use_stderr.result c.if-use_stderr.false c.use_stderr.ensures))
    (printed c.into_bytes-text.result.items _ c.of_streams-else-use_stderr.result c.new-else-use_stderr.ensures.items
    c.of_streams-else-use_stderr.ensures)

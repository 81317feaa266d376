use Rattle.std.proofs.Common.{◌≡◌, sym, subst}
use Rattle.command_line.specs.Sessions.{IsSessions, ReadsSessions}
use Rattle.command_line.proofs.SessionsFacts.{not_parsed, parsed}
use Rattle.command_line.proofs.sessions.read_sessions.Goals as goal

pub returns-in_err-sessions : goal.returns-in_err-sessions
returns-in_err-sessions c =
    subst (ReadsSessions c.args.text.now) (sym c.from_residual.ensures)
    (λ n is. not_parsed n c.args.text.now c.parse.result c.in_err-sessions.ensures.variant c.parse.ensures.value.0
    is)

pub returns-else-is_written : goal.returns-else-is_written
returns-else-is_written c = λ n is.
    let same : c.in_ok-sessions.sessions ≡ n =
    parsed n c.in_ok-sessions.sessions c.args.text.now c.parse.result c.in_ok-sessions.ensures.value
    c.parse.ensures.value.0 is in
    let no = c.if-is_written.ensures.1 (subst (IsSessions c.args.text.now) (sym same) is) in
    cc

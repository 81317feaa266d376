use Rattle.std.proofs.Common.{rules, sym, ◌∙◌, option_copied}
use Rattle.reseeding.proofs.DomainsFacts.{refuses_none, refuses_sound, refuses_allowed, refuses_line}
use Rattle.reseeding.proofs.refusals.push_refusal.Goals as goal

pub returns-in_default : goal.returns-in_default
returns-in_default g c = refuses_none _ _ _ _ (option_copied c.current.result) (search rules) c.current.ensures

pub returns-in_default-doubt_of : goal.returns-in_default-doubt_of
returns-in_default-doubt_of g c =
    refuses_sound _ _ _ _ (option_copied c.current.result) c.in-Some.document.now c.doubt_of.result (search rules) c.current.ensures
    (search rules) c.doubt_of.ensures

pub returns-then-may_pass : goal.returns-then-may_pass
returns-then-may_pass g c =
    refuses_allowed _ _ _ _ (option_copied c.current.result) c.in-Some.document.now c.doubt_of.result c.in-Some-doubt_of.why
    (search rules) c.current.ensures c.in-Some-doubt_of.is c.doubt_of.ensures (sym c.may_pass.ensures ∙ c.if-may_pass.true)

pub returns : goal.returns
returns g c =
    refuses_line _ _ _ _ _ (option_copied c.current.result) c.in-Some.document.now c.doubt_of.result c.in-Some-doubt_of.why
    (search rules) c.current.ensures c.in-Some-doubt_of.is c.doubt_of.ensures (sym c.may_pass.ensures ∙ c.if-may_pass.false)
    c.in_ok-push_refused_line.ensures

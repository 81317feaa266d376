use Rattle.std.proofs.Common.{sym, subst, Bool, IfOk}
use Rattle.local_answers.specs.RequestRun.{SaysEffect}
use Rattle.local_answers.proofs.changing_replies.said_of.Goals as goal

pub returns-then-is_verbose : goal.returns-then-is_verbose
returns-then-is_verbose g c =
    subst (λ (b : Bool). IfOk c.effect_of.result (λ errors. SaysEffect (g.C.Closure.state c.args.closure.now).meaning c.args.given.now b errors.items))
    (sym c.if-is_verbose.true) c.effect_of.ensures

pub returns-else-is_verbose : goal.returns-else-is_verbose
returns-else-is_verbose g c =
    subst (λ (b : Bool). SaysEffect (g.C.Closure.state c.args.closure.now).meaning c.args.given.now b c.new.result.items)
    (sym c.if-is_verbose.false) c.new.ensures.items

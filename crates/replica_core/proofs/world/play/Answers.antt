use Rattle.std.proofs.Common.{sym, subst}
use Rattle.std.specs.Prelude.{OnOk}
use Rattle.replica_core.specs.Inside.ReplicasInMemory.{MeansEvent}
use Rattle.replica_core.specs.declared.event.Event.{Event}
use Rattle.replica_core.proofs.world.play.Goals as goal

pub returns-in-Take : goal.returns-in-Take
returns-in-Take g c =
    subst (λ (event : Event). OnOk c.take.result
    (MeansEvent (λ closure. (g.C.Closure.state closure).meaning) c.args.config.now c.args.replicas.now
    c.take.new.replicas event)) (sym c.in-Take.is) c.take.ensures

pub returns-in-Revoke : goal.returns-in-Revoke
returns-in-Revoke g c =
    subst (λ (event : Event). OnOk c.revoke.result
    (MeansEvent (λ closure. (g.C.Closure.state closure).meaning) c.args.config.now c.args.replicas.now
    c.revoke.new.replicas event)) (sym c.in-Revoke.is) c.revoke.ensures

pub returns-in-Ask : goal.returns-in-Ask
returns-in-Ask g c =
    subst (λ (event : Event). OnOk c.ask.result
    (MeansEvent (λ closure. (g.C.Closure.state closure).meaning) c.args.config.now c.args.replicas.now
    c.ask.new.replicas event)) (sym c.in-Ask.is) (c.ask.ensures c.args.config.now)

pub returns-in-Answer : goal.returns-in-Answer
returns-in-Answer g c =
    subst (λ (event : Event). OnOk c.answer.result
    (MeansEvent (λ closure. (g.C.Closure.state closure).meaning) c.args.config.now c.args.replicas.now
    c.answer.new.replicas event)) (sym c.in-Answer.is) (c.answer.ensures c.args.config.now)

pub returns-in-AnswerReceipts : goal.returns-in-AnswerReceipts
returns-in-AnswerReceipts g c =
    subst (λ (event : Event). OnOk c.answer_receipts.result
    (MeansEvent (λ closure. (g.C.Closure.state closure).meaning) c.args.config.now c.args.replicas.now
    c.answer_receipts.new.replicas event)) (sym c.in-AnswerReceipts.is) (c.answer_receipts.ensures c.args.config.now)

pub returns-in-AskSums : goal.returns-in-AskSums
returns-in-AskSums g c =
    subst (λ (event : Event). OnOk c.ask_sums.result
    (MeansEvent (λ closure. (g.C.Closure.state closure).meaning) c.args.config.now c.args.replicas.now
    c.ask_sums.new.replicas event)) (sym c.in-AskSums.is) (c.ask_sums.ensures c.args.config.now)

pub returns-in-AnswerSums : goal.returns-in-AnswerSums
returns-in-AnswerSums g c =
    subst (λ (event : Event). OnOk c.answer_sums.result
    (MeansEvent (λ closure. (g.C.Closure.state closure).meaning) c.args.config.now c.args.replicas.now
    c.answer_sums.new.replicas event)) (sym c.in-AnswerSums.is) (c.answer_sums.ensures c.args.config.now)

pub returns-in-Join : goal.returns-in-Join
returns-in-Join g c =
    subst (λ (event : Event). OnOk c.join.result
    (MeansEvent (λ closure. (g.C.Closure.state closure).meaning) c.args.config.now c.args.replicas.now
    c.join.new.replicas event)) (sym c.in-Join.is) (c.join.ensures c.args.config.now)

pub returns-in-Save : goal.returns-in-Save
returns-in-Save g c =
    subst (λ (event : Event). OnOk c.save.result
    (MeansEvent (λ closure. (g.C.Closure.state closure).meaning) c.args.config.now c.args.replicas.now
    c.save.new.replicas event)) (sym c.in-Save.is) (c.save.ensures c.args.config.now)

pub returns-in-Restart : goal.returns-in-Restart
returns-in-Restart g c =
    subst (λ (event : Event). OnOk c.restart.result
    (MeansEvent (λ closure. (g.C.Closure.state closure).meaning) c.args.config.now c.args.replicas.now
    c.restart.new.replicas event)) (sym c.in-Restart.is) (c.restart.ensures c.args.config.now)

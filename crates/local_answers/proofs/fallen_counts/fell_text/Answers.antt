use Rattle.std.proofs.Common.{rules, subst, sym}
use Rattle.std.proofs.lemmas.List.{take_all}
use Rattle.bundle_view.proofs.GroupFacts.{taken_more}
use Rattle.local_answers.specs.Fallen.{SaysFell}
use Rattle.local_answers.proofs.FallenFacts.{fell_more}
use Rattle.local_answers.proofs.fallen_counts.fell_text.Goals as goal

pub loop-one-init : goal.loop-one-init
loop-one-init g c = search rules

pub loop-one-preserved : goal.loop-one-preserved
loop-one-preserved g c =
    subst (λ before. SaysFell (g.C.Closure.state c.args.closure.now).meaning before c.push_fallen.new.text.items)
    (sym (taken_more c.args.before.now c.loop-one.one-index c.one-item.result c.loop-one-test.true c.one-item.is))
    (fell_more (g.C.Closure.state c.args.closure.now).meaning _ c.one-item.result _ _ _ c.loop-one.invariant c.accepted_count-after.ensures
    c.in_ok-push_fallen.ensures)

pub returns : goal.returns
returns g c =
    subst (λ before. SaysFell (g.C.Closure.state c.args.closure.now).meaning before c.loop-one.text.items)
    (take_all c.loop-one.one-index c.args.before.now c.loop-one-test.false) c.loop-one.invariant

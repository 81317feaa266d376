use Rattle.std.proofs.Common.{arith, false, true}
use Rattle.state_steps.specs.Saves.{save_step}
use Rattle.state_calls.specs.Tries.{MakesFiles, TriesKeep}
use Rattle.state_calls.proofs.TryFacts.{one_try, writes_line}
use Rattle.state_calls.proofs.saves.save.Goals as goal

pub steps-preserved : goal.steps-preserved
steps-preserved g c =
    let tried = g.T.StepCalls.tried in
    let stage = c.steps.saving.stage in
    record {
      due = λ texts first. c.in_ok-try_save.ensures.due texts first (c.steps.invariant.due texts first);
      keeps = λ texts first line kept has.
          let until = c.steps.invariant.keeps texts first line kept has in
          let keeps = c.in_ok-try_save.ensures.keeps texts first line until.0 (writes_line texts (save_step stage) line has) in (
            keeps,
            one_try (TriesKeep (MakesFiles texts) first line) (save_step stage) true (tried c.args.calls.now) (tried c.steps.calls)
                (tried c.try_save.new.calls) c.in_ok-try_save.ensures.tried until.1
                (λ disk may. c.stops.ensures.save texts c.try_save.new.saving disk line (keeps disk may)),
          );
      steps = let before = c.steps.invariant.steps in let one = c.in_ok-try_save.ensures.steps in omega (arith, before, one);
    }

pub returns-in_err-try_save-clause-keeps : goal.returns-in_err-try_save-clause-keeps
returns-in_err-try_save-clause-keeps g c texts first line kept has =
    let tried = g.T.StepCalls.tried in
    let stage = c.steps.saving.stage in
    let until = c.steps.invariant.keeps texts first line kept has in
    let keeps = c.in_err-try_save.ensures.keeps texts first line until.0 (writes_line texts (save_step stage) line has) in
    one_try (TriesKeep (MakesFiles texts) first line) (save_step stage) false (tried c.args.calls.now) (tried c.steps.calls)
    (tried c.try_save.new.calls) c.in_err-try_save.ensures.tried until.1
    (λ disk may. c.stops.ensures.save texts c.try_save.new.saving disk line (keeps disk may))

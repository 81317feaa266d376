use Rattle.std.specs.Prelude.{◌≢◌}
use Rattle.std.proofs.Common.{◌≡◌, ◌≤◌, ◌∙◌, None, Some, ap, false, true, rules, subst, sym}
use Rattle.state_steps.specs.declared.beginning.BeginStage.TheVariants.{Change}
use Rattle.state_steps.specs.Begins.{begin_change, begin_steps_left}
use Rattle.state_calls.specs.Tries.{MakesFiles, TriesKeep}
use Rattle.state_calls.proofs.TryFacts.{begin_due, no_try, not_passed, one_try, writes_line}
use Rattle.state_calls.proofs.begins.begin.Goals as goal

pub steps-init : goal.steps-init
steps-init g c = record {
  due = λ texts first due. due;
  keeps = λ texts first line keeps has. (
    keeps,
    no_try (TriesKeep (MakesFiles texts) first line) (g.T.StepCalls.tried c.args.calls.now)
        (λ disk may. c.stops.ensures.begin texts c.args.beginning.now disk line (keeps disk may)),
  );
  until = λ step is le. le;
}

pub steps-preserved : goal.steps-preserved
steps-preserved g c =
    let tried = g.T.StepCalls.tried in
    let due = begin_change c.steps.beginning.stage in
    record {
      due = λ texts first is. c.in_ok-try_begin.ensures.due texts first (c.steps.invariant.due texts first is);
      keeps = λ texts first line kept has.
          let until = c.steps.invariant.keeps texts first line kept has in
          let keeps = c.in_ok-try_begin.ensures.keeps texts first line until.0 (writes_line texts due line has) in (
            keeps,
            one_try (TriesKeep (MakesFiles texts) first line) due true (tried c.args.calls.now) (tried c.steps.calls)
                (tried c.try_begin.new.calls) c.in_ok-try_begin.ensures.tried until.1
                (λ disk may. c.stops.ensures.begin texts c.try_begin.new.beginning disk line (keeps disk may)),
          );
      until = λ step is le.
          let differs : c.args.until ≢ Some c.in-Some-Change.step = (let eq = c.if-eq.ensures in search rules) in
          let change = begin_due c.steps.beginning.stage c.in-Some-Change.step
          (sym (ap Some c.in-Some-Change.field-0-is) ∙ c.in-Some-Change.ensures) in
          let left = not_passed step c.in-Some-Change.step c.steps.beginning.stage (λ same. differs (is ∙ same)) change
          (c.steps.invariant.until step is le) in
          subst (λ count. begin_steps_left (Change step) ≤ count)
          (sym (c.in_ok-try_begin.ensures.steps (λ none. let never : None ≡ Some c.in-Some-Change.step = sym none ∙ change in cc))) left;
    }

pub returns-in_err-try_begin-clause-keeps : goal.returns-in_err-try_begin-clause-keeps
returns-in_err-try_begin-clause-keeps g c texts first line kept has =
    c.in_err-try_begin.ensures.keeps texts first line (c.steps.invariant.keeps texts first line kept has).0
    (writes_line texts (begin_change c.steps.beginning.stage) line has)

pub returns-in_err-try_begin-clause-always : goal.returns-in_err-try_begin-clause-always
returns-in_err-try_begin-clause-always g c texts first line kept has =
    let tried = g.T.StepCalls.tried in
    let due = begin_change c.steps.beginning.stage in
    let until = c.steps.invariant.keeps texts first line kept has in
    let keeps = c.in_err-try_begin.ensures.keeps texts first line until.0 (writes_line texts due line has) in
    one_try (TriesKeep (MakesFiles texts) first line) due false (tried c.args.calls.now) (tried c.steps.calls)
    (tried c.try_begin.new.calls) c.in_err-try_begin.ensures.tried until.1
    (λ disk may. c.stops.ensures.begin texts c.try_begin.new.beginning disk line (keeps disk may))

pub returns-clause-keeps : goal.returns-clause-keeps
returns-clause-keeps g c texts first line kept has = (c.steps.invariant.keeps texts first line kept has).0

pub returns-clause-always : goal.returns-clause-always
returns-clause-always g c texts first line kept has = (c.steps.invariant.keeps texts first line kept has).1

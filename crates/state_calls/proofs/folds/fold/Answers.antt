use Rattle.std.proofs.Common.{None, Some, ap, false, subst, sym, true, ◌∙◌, ◌≡◌}
use Rattle.state_steps.specs.Folds.{FoldKeeps, IsDueOn, following_step}
use Rattle.state_steps.specs.Steps.{WritesLine}
use Rattle.state_steps.specs.declared.folding.FoldEnd.TheVariants.{JournalContinues}
use Rattle.state_calls.specs.Looks.{end_of_fold}
use Rattle.state_calls.specs.Tries.{MakesFiles, TriesKeep}
use Rattle.state_calls.proofs.TryFacts.{after_look, fold_goes_on, no_try, one_try, since_look, tried_due, writes_after}
use Rattle.state_calls.proofs.folds.fold.Goals as goal

pub steps-init : goal.steps-init
steps-init g c = record {
  due = λ texts first due. due;
  snapshot = λ texts first some none. absurd (some none);
  keeps = λ texts first line keeps writes. (
    keeps,
    writes,
    no_try (TriesKeep (MakesFiles texts) first line) (g.T.FoldCalls.tried c.args.calls.now)
        (λ disk may. c.stops.ensures.fold texts c.args.folding.now disk line (keeps disk may)),
  );
  end = λ step continues is other. continues;
}

pub steps-preserved : goal.steps-preserved
steps-preserved g c =
    let tried = g.T.FoldCalls.tried in
    let before = c.steps.folding in
    let same = c.in_ok-look_before.ensures.tried in
    let now = tried c.look_before.new.calls in
    let is_due : before.next ≡ Some c.in-Some.step = sym c.in-Some.ensures in
    record {
      due = λ texts first is. c.in_ok-try_fold.ensures.due texts first
          (after_look (MakesFiles texts) now (tried c.steps.calls) first (IsDueOn texts before.next) same
          (c.steps.invariant.due texts first is));
      snapshot = λ texts first some none is. c.in_ok-try_fold.ensures.snapshot texts first
          (λ over. let never : None ≡ Some c.in-Some.step = sym over ∙ is_due in cc) none
          (after_look (MakesFiles texts) now (tried c.steps.calls) first (IsDueOn texts before.next) same
          (c.steps.invariant.due texts first is));
      keeps = λ texts first line kept writes.
          let until = c.steps.invariant.keeps texts first line kept writes in
          let keeps = c.in_ok-try_fold.ensures.keeps texts first line
          (after_look (MakesFiles texts) now (tried c.steps.calls) first (λ disk. FoldKeeps texts before disk line) same until.0)
          until.1 in (
            keeps,
            subst (λ due. WritesLine texts due line) (sym c.in_ok-try_fold.ensures.next) (writes_after texts before.is_whole before.next line),
            one_try (TriesKeep (MakesFiles texts) first line) before.next true (tried c.args.calls.now) now
                (tried c.try_fold.new.calls) c.in_ok-try_fold.ensures.tried
                (since_look (TriesKeep (MakesFiles texts) first line) now (tried c.steps.calls) (tried c.args.calls.now) same until.2)
                (λ disk may. c.stops.ensures.fold texts c.try_fold.new.folding disk line (keeps disk may)),
          );
      end = λ next continues is other.
          let due = ap (following_step before.is_whole) is_due in
          subst (λ tries. end_of_fold tries ≡ JournalContinues)
          (sym (tried_due before.next c.in-Some.step true now (tried c.try_fold.new.calls) is_due c.in_ok-try_fold.ensures.tried))
          (fold_goes_on before.is_whole c.in-Some.step next now (sym due ∙ sym c.in_ok-try_fold.ensures.next ∙ is) other);
    }

pub returns-in_err-look_before-clause-always : goal.returns-in_err-look_before-clause-always
returns-in_err-look_before-clause-always g c texts first line kept writes =
    let tried = g.T.FoldCalls.tried in
    since_look (TriesKeep (MakesFiles texts) first line) (tried c.look_before.new.calls) (tried c.steps.calls) (tried c.args.calls.now)
    c.in_err-look_before.ensures.tried (c.steps.invariant.keeps texts first line kept writes).2

pub returns-in_err-try_fold-clause-always : goal.returns-in_err-try_fold-clause-always
returns-in_err-try_fold-clause-always g c texts first line kept writes =
    let tried = g.T.FoldCalls.tried in
    let before = c.steps.folding in
    let same = c.in_ok-look_before.ensures.tried in
    let now = tried c.look_before.new.calls in
    let until = c.steps.invariant.keeps texts first line kept writes in
    let fails = c.in_err-try_fold.ensures.failed texts first line
    (after_look (MakesFiles texts) now (tried c.steps.calls) first (λ disk. FoldKeeps texts before disk line) same until.0) in
    one_try (TriesKeep (MakesFiles texts) first line) before.next false (tried c.args.calls.now) now
    (tried c.try_fold.new.calls) c.in_err-try_fold.ensures.tried
    (since_look (TriesKeep (MakesFiles texts) first line) now (tried c.steps.calls) (tried c.args.calls.now) same until.2)
    fails

pub returns-clause-keeps : goal.returns-clause-keeps
returns-clause-keeps g c texts first line kept writes = (c.steps.invariant.keeps texts first line kept writes).0

pub returns-clause-always : goal.returns-clause-always
returns-clause-always g c texts first line kept writes = (c.steps.invariant.keeps texts first line kept writes).2

use Rattle.std.proofs.Common.{◌++◌, ap, false, subst, sym, true, ◌∙◌, ◌≡◌, Some}
use Rattle.state_steps.specs.Shortenings.{IsShortenDue, ShortensKeeps, following_shorten}
use Rattle.state_steps.specs.declared.folding.FoldEnd.TheVariants.{JournalContinues}
use Rattle.state_calls.specs.Looks.{end_of_shortening}
use Rattle.state_calls.specs.Tries.{MakesShorter, TriesKeep, due_with}
use Rattle.state_calls.proofs.TryFacts.{after_look, no_try, one_try, shortening_goes_on, since_look, tried_due}
use Rattle.state_calls.proofs.shortens.shorten.Goals as goal

pub steps-init : goal.steps-init
steps-init g c = record {
  due = λ head first due. due;
  keeps = λ head first line keeps. (
    keeps,
    no_try (TriesKeep (MakesShorter head) first line) (g.T.ShortenCalls.tried c.args.calls.now)
        (λ disk may. c.stops.ensures.shorten (head ++ c.args.lines.now) c.args.shortening.now disk line (keeps disk may)),
  );
  end = λ step continues is other. continues;
}

pub steps-preserved : goal.steps-preserved
steps-preserved g c =
    let tried = g.T.ShortenCalls.tried in
    let before = c.steps.shortening in
    let lines = c.args.lines.now in
    let same = c.in_ok-look_before.ensures.tried in
    let now = tried c.look_before.new.calls in
    let is_due : before.next ≡ Some c.in-Some.step = sym c.in-Some.ensures in
    record {
      due = λ head first is. c.in_ok-try_shorten.ensures.due head first
          (after_look (MakesShorter head) now (tried c.steps.calls) first (IsShortenDue (head ++ lines) before.next) same
          (c.steps.invariant.due head first is));
      keeps = λ head first line kept.
          let until = c.steps.invariant.keeps head first line kept in
          let keeps = c.in_ok-try_shorten.ensures.keeps head first line
          (after_look (MakesShorter head) now (tried c.steps.calls) first (λ disk. ShortensKeeps (head ++ lines) before disk line) same until.0)
          in (
            keeps,
            one_try (TriesKeep (MakesShorter head) first line) (due_with lines before.next) true (tried c.args.calls.now) now
                (tried c.try_shorten.new.calls) c.in_ok-try_shorten.ensures.tried
                (since_look (TriesKeep (MakesShorter head) first line) now (tried c.steps.calls) (tried c.args.calls.now) same until.1)
                (λ disk may. c.stops.ensures.shorten (head ++ lines) c.try_shorten.new.shortening disk line (keeps disk may)),
          );
      end = λ next continues is other.
          subst (λ tries. end_of_shortening tries ≡ JournalContinues)
          (sym (tried_due (due_with lines before.next) (c.in-Some.step, lines) true now (tried c.try_shorten.new.calls)
          (ap (due_with lines) is_due) c.in_ok-try_shorten.ensures.tried))
          (shortening_goes_on c.in-Some.step next lines now
          (sym (ap following_shorten is_due) ∙ sym c.in_ok-try_shorten.ensures.next ∙ is) other);
    }

pub returns-in_err-look_before-clause-always : goal.returns-in_err-look_before-clause-always
returns-in_err-look_before-clause-always g c head first line kept =
    let tried = g.T.ShortenCalls.tried in
    since_look (TriesKeep (MakesShorter head) first line) (tried c.look_before.new.calls) (tried c.steps.calls) (tried c.args.calls.now)
    c.in_err-look_before.ensures.tried (c.steps.invariant.keeps head first line kept).1

pub returns-in_err-try_shorten-clause-always : goal.returns-in_err-try_shorten-clause-always
returns-in_err-try_shorten-clause-always g c head first line kept =
    let tried = g.T.ShortenCalls.tried in
    let before = c.steps.shortening in
    let lines = c.args.lines.now in
    let same = c.in_ok-look_before.ensures.tried in
    let now = tried c.look_before.new.calls in
    let until = c.steps.invariant.keeps head first line kept in
    let fails = c.in_err-try_shorten.ensures.failed head first line
    (after_look (MakesShorter head) now (tried c.steps.calls) first (λ disk. ShortensKeeps (head ++ lines) before disk line) same until.0) in
    one_try (TriesKeep (MakesShorter head) first line) (due_with lines before.next) false (tried c.args.calls.now) now
    (tried c.try_shorten.new.calls) c.in_err-try_shorten.ensures.tried
    (since_look (TriesKeep (MakesShorter head) first line) now (tried c.steps.calls) (tried c.args.calls.now) same until.1)
    fails

pub returns-clause-always : goal.returns-clause-always
returns-clause-always g c head first line kept = (c.steps.invariant.keeps head first line kept).1

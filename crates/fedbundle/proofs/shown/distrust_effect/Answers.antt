use Rattle.std.proofs.Common.{Err, Ok, inl, inr, refl}
use Rattle.std.proofs.lemmas.Result.{err_from_is_err_and}
use Rattle.fedbundle.proofs.ShownCallFacts.{refused_words}
use Rattle.fedbundle.proofs.shown.distrust_effect.Goals as goal

pub returns-in_err-given : goal.returns-in_err-given
returns-in_err-given g c =
    let exit = err_from_is_err_and c.from_residual.result c.from_residual.ensures.1 in
    rw (exit.1, exit.2) (inl (refused_words _ _ _ (rw (c.keeper_of.ensures) at c.in_err-given.ensures.ends) (refl, refl)))

pub returns-in_err-show_distrust : goal.returns-in_err-show_distrust
returns-in_err-show_distrust g c =
    let exit = err_from_is_err_and c.from_residual-in_err-show_distrust.result c.from_residual-in_err-show_distrust.ensures.1 in
    rw (exit.1, exit.2) (inr (record {
      given = c.in_ok-given.given;
      says = rw (c.keeper_of.ensures) at c.in_ok-given.ensures.says;
      answer = Err c.in_err-show_distrust.field-0.0;
      runs = c.in_err-show_distrust.ensures.shows;
      is = refl;
    }))

pub returns : goal.returns
returns g c = inr (record {
  given = c.in_ok-given.given;
  says = rw (c.keeper_of.ensures) at c.in_ok-given.ensures.says;
  answer = Ok tt;
  runs = c.in_ok-show_distrust.ensures.shows;
  is = refl;
})

use Rattle.std.proofs.Common.{Err, Ok, inr, refl}
use Rattle.std.proofs.lemmas.Result.{err_from_is_err_and}
use Rattle.command_exits.specs.DeviceRuns.{device_run}
use Rattle.fedbundle.proofs.ShownCallFacts.{list_chosen}
use Rattle.fedbundle.proofs.shown_held.list.Goals as goal

pub returns-in_err-list_in : goal.returns-in_err-list_in
returns-in_err-list_in g c =
    let exit = err_from_is_err_and c.from_residual-in_err-list_in.result c.from_residual-in_err-list_in.ensures.1 in
    rw (exit.1, exit.2) (inr (record {
      form = c.in_ok-form.form;
      is_form = rw c.given.ensures at c.in_ok-form.ensures.ok;
      of_keys = c.is_flag_given-is_of_keys.result;
      is_of_keys = rw c.given-2.ensures at c.is_flag_given-is_of_keys.ensures;
      chosen = c.in_ok-chosen.chosen;
      is_chosen = rw c.given-3.ensures at c.in_ok-chosen.ensures.ok;
      answer = Err c.in_err-list_in.field-0.0;
      runs = list_chosen c.is_flag_given-is_of_keys.result c.in_ok-form.form (g.C.Closure.state c.args.closure.now).meaning _ _
          (device_run g.W.Sink.contents g.W.Sink.has_failed c.args.sink.now c.list_in.new.sink) (Err c.in_err-list_in.field-0.0)
          c.as_ref.ensures.value c.in_err-list_in.ensures;
      is = refl;
    }))

pub returns : goal.returns
returns g c = inr (record {
  form = c.in_ok-form.form;
  is_form = rw c.given.ensures at c.in_ok-form.ensures.ok;
  of_keys = c.is_flag_given-is_of_keys.result;
  is_of_keys = rw c.given-2.ensures at c.is_flag_given-is_of_keys.ensures;
  chosen = c.in_ok-chosen.chosen;
  is_chosen = rw c.given-3.ensures at c.in_ok-chosen.ensures.ok;
  answer = Ok tt;
  runs = list_chosen c.is_flag_given-is_of_keys.result c.in_ok-form.form (g.C.Closure.state c.args.closure.now).meaning _ _
      (device_run g.W.Sink.contents g.W.Sink.has_failed c.args.sink.now c.list_in.new.sink) (Ok tt) c.as_ref.ensures.value
      c.in_ok-list_in.ensures;
  is = refl;
})

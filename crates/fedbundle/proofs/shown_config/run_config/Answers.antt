use Rattle.std.proofs.Common.{ap, inr, option_map, sym, ◌∙◌}
use Rattle.fedbundle.proofs.ShownCommandFacts.{config_there}
use Rattle.fedbundle.proofs.shown_config.run_config.Goals as goal

pub returns-in-Some : goal.returns-in-Some
returns-in-Some g c = inr (record {
  form = c.in_ok-form.form;
  is_form = rw c.given.ensures at c.in_ok-form.ensures.ok;
  shows = config_there _ _ _ _ _ _ (ap (option_map (λ t. t.now)) (sym c.in-Some.is) ∙ c.given-2.ensures) c.compare_in.ensures;
})

use Rattle.std.proofs.Common.{inr, ap, rules, sym, option_map, ◌∙◌}
use Rattle.std.specs.Int.{w64}
use Rattle.std.proofs.lemmas.Int.{to_z-of_z}
use Rattle.fedbundle.proofs.ShownCallFacts.{sight_by}
use Rattle.fedbundle.proofs.shown_status.status.Goals as goal

pub returns-in-Some : goal.returns-in-Some
returns-in-Some g c = inr (record {
  format = c.in_ok-read_status_format.field-0;
  is_format = rw c.given.ensures at c.in_ok-read_status_format.ensures.ok;
  limits = c.in_ok-limits_of.field-0;
  is_limits = rw (to_z-of_z w64 c.args.shown.moment (search rules)) at c.in_ok-limits_of.ensures.ok;
  shows = sight_by _ _ _ _ _ (ap (option_map (λ t. t.now)) (sym c.in-Some.is) ∙ c.given-2.ensures) c.polled.ensures;
})

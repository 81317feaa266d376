use Rattle.std.proofs.Common.{ap, option_map, refl, sym, ◌∙◌}
use Rattle.fedbundle.proofs.ShownCommandFacts.{moves_here, moves_there}
use Rattle.fedbundle.proofs.shown_moves.migrate.Goals as goal

pub returns-in-Some : goal.returns-in-Some
returns-in-Some g c = record {
  choice = c.choice_of-choice.result;
  is_choice = rw c.given.ensures at c.choice_of-choice.ensures;
  moves = moves_there _ _ _ _ _ _ _ (ap (option_map (λ t. t.now)) (sym c.in-Some.is) ∙ c.given-2.ensures) c.migrate_to_read.ensures;
}

pub returns-in-None : goal.returns-in-None
returns-in-None g c = record {
  choice = c.choice_of-choice.result;
  is_choice = rw c.given.ensures at c.choice_of-choice.ensures;
  moves = moves_here _ _ _ _ _ _ _ (ap (option_map (λ t. t.now)) (sym c.in-None.is) ∙ c.given-2.ensures) c.config.ensures.config
      c.migrate_to.ensures (refl, refl);
}

use Rattle.std.proofs.Common.{sym, subst}
use Rattle.state_steps.specs.Shortenings.{IsShortenDue, after_shorten}
use Rattle.state_steps.proofs.ShortenFacts.{shorten_due, shorten_kept, shorten_taken}
use Rattle.state_steps.proofs.shortening.Shortening.done.Goals as goal

pub returns-clause-keeps : goal.returns-clause-keeps
returns-clause-keeps c text disk line keeps =
    let next = c.args.self.now.next in
    record {
      due = subst (λ step. IsShortenDue text step (after_shorten text next disk)) (sym c.step_after-self.ensures)
          (shorten_due text next disk keeps.due);
      kept = shorten_kept text next disk line keeps.due keeps.kept keeps.taken;
      taken = shorten_taken text next disk line keeps.taken;
    }

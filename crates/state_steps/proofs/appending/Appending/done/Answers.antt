use Rattle.std.proofs.Common.{sym, subst}
use Rattle.state_steps.specs.Appends.{IsAppendedOn, after_append, written_after}
use Rattle.state_steps.proofs.AppendFacts.{append_due, append_kept}
use Rattle.state_steps.proofs.appending.Appending.done.Goals as goal

pub returns-clause-keeps : goal.returns-clause-keeps
returns-clause-keeps c written bytes disk line keeps =
    let stage = c.args.self.now.stage in
    record {
      due = subst (λ s. IsAppendedOn (written_after bytes stage written) s (after_append bytes stage disk)) (sym c.stage_after-self.ensures)
          (append_due written bytes stage disk keeps.due);
      kept = append_kept written bytes stage disk line keeps.due keeps.kept;
    }

use Rattle.std.proofs.Common.{sym, subst, arith, false}
use Rattle.state_steps.specs.Files.{appended}
use Rattle.state_steps.specs.Folds.{IsDueOn, IsKeptOn}
use Rattle.state_steps.specs.Steps.{after_due}
use Rattle.state_steps.proofs.FoldFacts.{written_due, written_kept, written_new}
use Rattle.state_steps.proofs.folding.Folding.written.Goals as goal

pub returns-then-not-is_empty-clause-keeps : goal.returns-then-not-is_empty-clause-keeps
returns-then-not-is_empty-clause-keeps c texts disk came line is since keeps writes =
    let next = c.args.self.now.next in
    let whole = c.args.self.now.is_whole in
    let after = appended came (after_due texts next disk) in
    record {
      due = subst (λ step. IsDueOn texts step after) (sym c.step_after-next.ensures) (written_due texts next whole disk came is keeps.due);
      kept = subst (λ step. IsKeptOn texts step false after line) (sym c.step_after-next.ensures)
          (written_kept texts next whole false disk came line is keeps.due keeps.kept writes);
    }

pub returns-then-not-is_empty-clause-new_lines : goal.returns-then-not-is_empty-clause-new_lines
returns-then-not-is_empty-clause-new_lines c texts disk came line is since some due journalled =
    let next = c.args.self.now.next in
    let whole = c.args.self.now.is_whole in
    let after = appended came (after_due texts next disk) in
    record {
      due = subst (λ step. IsDueOn texts step after) (sym c.step_after-next.ensures) (written_due texts next whole disk came is due);
      kept = subst (λ step. IsKeptOn texts step false after line) (sym c.step_after-next.ensures)
          (written_new texts next whole disk came line is due journalled);
    }

pub returns-else-not-is_empty-clause-keeps : goal.returns-else-not-is_empty-clause-keeps
returns-else-not-is_empty-clause-keeps c texts disk came line is since keeps writes =
    let next = c.args.self.now.next in
    let whole = c.args.self.now.is_whole in
    let after = appended came (after_due texts next disk) in
    record {
      due = subst (λ step. IsDueOn texts step after) (sym c.step_after-next.ensures) (written_due texts next whole disk came is keeps.due);
      kept = subst (λ step. IsKeptOn texts step whole after line) (sym c.step_after-next.ensures)
          (written_kept texts next whole whole disk came line is keeps.due keeps.kept writes);
    }

pub returns-else-not-is_empty-clause-new_lines : goal.returns-else-not-is_empty-clause-new_lines
returns-else-not-is_empty-clause-new_lines c texts disk came line is since some due journalled =
    absurd (some ((c.is_empty.ensures came since).0 (grind (arith, c.if-not-is_empty.false))))

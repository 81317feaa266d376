use Rattle.std.proofs.Common.{◌≡◌, ◌∙◌, Some, ap}
use Rattle.state_steps.specs.declared.file_step.FileStep.TheVariants.{WriteSnapshot}
use Rattle.state_steps.proofs.FoldFacts.{appended_due, appended_fresh, appended_kept, appended_over, appending_keeps}
use Rattle.state_steps.proofs.folding.Folding.append.Goals as goal

pub returns-in-Some-WriteSnapshot-clause-meanwhile : goal.returns-in-Some-WriteSnapshot-clause-meanwhile
returns-in-Some-WriteSnapshot-clause-meanwhile c texts disk bytes line keeps =
    appending_keeps texts c.args.self.now.next c.args.self.now.is_whole disk bytes line c.requires keeps.due keeps.kept

pub returns-in-Some-WriteSnapshot-clause-keeps : goal.returns-in-Some-WriteSnapshot-clause-keeps
returns-in-Some-WriteSnapshot-clause-keeps c texts disk bytes line keeps =
    let step = rw c.in-Some-WriteSnapshot.is at c.in-Some-WriteSnapshot.field-0-is in
    let begun : c.args.self.now.next ≡ Some WriteSnapshot = c.in-Some-WriteSnapshot.is ∙ ap Some step in
    record {
      due = appended_due texts c.args.self.now.next disk bytes c.requires keeps.due;
      kept = appended_fresh texts c.args.self.now.next c.args.self.now.is_whole disk bytes line begun keeps.due keeps.kept;
    }

pub returns-in_default-clause-meanwhile : goal.returns-in_default-clause-meanwhile
returns-in_default-clause-meanwhile c texts disk bytes line keeps =
    appending_keeps texts c.args.self.now.next c.args.self.now.is_whole disk bytes line c.requires keeps.due keeps.kept

pub returns-in_default-clause-keeps : goal.returns-in_default-clause-keeps
returns-in_default-clause-keeps c texts disk bytes line keeps = record {
  due = appended_due texts c.args.self.now.next disk bytes c.requires keeps.due;
  kept = appended_kept texts c.args.self.now.next c.args.self.now.is_whole disk bytes line c.requires keeps.due keeps.kept;
}

pub returns-in-None-clause-meanwhile : goal.returns-in-None-clause-meanwhile
returns-in-None-clause-meanwhile c texts disk bytes line keeps =
    appending_keeps texts c.args.self.now.next c.args.self.now.is_whole disk bytes line c.requires keeps.due keeps.kept

pub returns-in-None-clause-keeps : goal.returns-in-None-clause-keeps
returns-in-None-clause-keeps c texts disk bytes line keeps = record {
  due = appended_due texts c.args.self.now.next disk bytes c.requires keeps.due;
  kept = appended_over texts c.args.self.now.next c.args.self.now.is_whole disk bytes line c.in-None.is keeps.due keeps.kept;
}

use Rattle.state_steps.specs.Steps.{after_due}
use Rattle.state_steps.proofs.FoldFacts.{folder_synced}
use Rattle.state_steps.proofs.ShortenFacts.{first_due}
use Rattle.state_steps.proofs.laws.shortenings.Goals as goal

pub returns-clause-begins : goal.returns-clause-begins
returns-clause-begins c texts fold shortening disk text line last keeps first others =
    let synced = folder_synced texts fold.next fold.is_whole disk text line last keeps.due keeps.kept others in
    record {
      due = first_due text shortening.next (after_due texts fold.next disk) first synced.0;
      kept = synced.1;
      taken = synced.2;
    }

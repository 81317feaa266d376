use Rattle.state_steps.proofs.KeepFacts.{failed_audited, failed_due}
use Rattle.state_steps.proofs.keeping.Keeping.failed.Goals as goal

pub returns-clause-keeps : goal.returns-clause-keeps
returns-clause-keeps c texts files left change keeps fails is =
    let stage = c.args.self.now.stage in
    record {
      due = failed_due texts stage files.audit left.audit keeps.due fails;
      place = tt;
      audited = failed_audited texts stage files.audit left.audit files.state left.state change keeps.due keeps.place
          keeps.audited fails is;
    }

use Rattle.std.proofs.Common.{sym, subst}
use Rattle.state_steps.specs.Audits.{IsAuditOn, IsChangeOn, after_keep, texts_after}
use Rattle.state_steps.proofs.KeepFacts.{keep_audited, keep_due, keep_place}
use Rattle.state_steps.proofs.keeping.Keeping.done.Goals as goal

pub returns-clause-keeps : goal.returns-clause-keeps
returns-clause-keeps c texts files after change keeps is =
    let stage = c.args.self.now.stage in
    let audit = files.audit in
    record {
      due = subst (λ s. IsAuditOn (texts_after stage texts) s (after_keep texts stage audit)) (sym c.stage_after-self.ensures)
          (keep_due texts stage audit keeps.due);
      place = subst (λ s. IsChangeOn (texts_after stage texts) s after change) (sym c.stage_after-self.ensures)
          (keep_place texts stage files.state after change keeps.place is);
      audited = keep_audited texts stage audit files.state after change keeps.due keeps.place keeps.audited is;
    }

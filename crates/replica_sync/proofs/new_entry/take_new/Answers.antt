use Rattle.std.proofs.Common.{◌∙◌, inr, sym}
use Rattle.replica_sync.proofs.NewEntryFacts.{new_entry}
use Rattle.replica_sync.proofs.new_entry.take_new.Goals as goal

pub returns-in-Ok-clause-journals : goal.returns-in-Ok-clause-journals
returns-in-Ok-clause-journals g c =
    let m = (g.C.Closure.state c.args.closure.now).meaning in
    let taken = c.in-Ok.ensures.takes.meaning in
    inr (record {
      entry = c.args.entry;
      form = c.requires;
      meaning = taken;
      changed = λ same. new_entry m c.args.entry c.sets.ensures.receipts c.sets.ensures.records c.config-valid.ensures.valid c.requires
          (λ held. absurd (let is = c.is_held.ensures.1 held in let no = c.if-is_held.false in cc)) (sym taken ∙ same);
      text = c.in_ok-push_entry.ensures.ok;
    })

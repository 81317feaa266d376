use Rattle.std.proofs.Common.{◌∙◌, refl, arith}
use Rattle.replica_journal.proofs.JournalFacts.{read_more}
use Rattle.replica_journal.proofs.journal_reader.read_entries.Goals as goal

pub lines-preserved : goal.lines-preserved
lines-preserved g c =
    let falls = c.in_ok-read_entry.ensures.falls c.if-branch.true in
    let before = c.lines.invariant.counted in
    record {
      part = read_more c.in_ok-read_entry.field-0 _ _ _ _ _ _ _ _ c.if-branch.true c.lines.invariant.part c.in_ok-read_entry.ensures.ok refl;
      counted = omega (arith, falls, before);
      fault = c.in_ok-read_entry.ensures.fault ∙ c.lines.invariant.fault;
    }

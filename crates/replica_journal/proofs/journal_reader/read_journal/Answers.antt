use Rattle.std.proofs.Common.{sym, subst}
use Rattle.byte_lines.specs.Streams.{kept}
use Rattle.replica_journal.specs.Journal.{ReadsJournal, RefusesJournal}
use Rattle.replica_journal.proofs.JournalFacts.{call_reads, call_reads_none, call_starts_badly, call_stops, refused_as, unread}
use Rattle.replica_journal.proofs.journal_reader.read_journal.Goals as goal
use Rattle.replica_journal.proofs.journal_reader.read_journal.Goals.{then-branch+in_ok-read_entries, else-branch}

pub returns-in_err-read_start-clause-refused : goal.returns-in_err-read_start-clause-refused
returns-in_err-read_start-clause-refused g c =
    let known = g.R.Source.remaining c.args.source.now in
    let m = (g.C.Closure.state c.args.closure).meaning in
    let e = c.in_err-read_start.field-0.0 in
    refused_as c.from_residual.result (RefusesJournal m known) e c.from_residual.ensures.1
    (call_starts_badly m c.config.result.now known _ e c.config.ensures.config (unread known (kept c.new-lines.result) c.new-lines.ensures)
    c.in_err-read_start.ensures.refused)

pub returns-in_err-read_entries-clause-refused : goal.returns-in_err-read_entries-clause-refused
returns-in_err-read_entries-clause-refused g c =
    let known = g.R.Source.remaining c.args.source.now in
    let m = (g.C.Closure.state c.args.closure).meaning in
    let e = c.in_err-read_entries.field-0.0 in
    refused_as c.from_residual-in_err-read_entries.result (RefusesJournal m known) e c.from_residual-in_err-read_entries.ensures.1
    (call_stops c.in_ok-read_start.field-0 m c.config.result.now known _ _ e c.if-branch.true c.config.ensures.config
    (unread known (kept c.new-lines.result) c.new-lines.ensures) c.in_ok-read_start.ensures.ok c.in_err-read_entries.ensures.refused)

pub returns-clause-ok : goal.returns-clause-ok
returns-clause-ok g c =
    let known = g.R.Source.remaining c.args.source.now in
    let m = (g.C.Closure.state c.args.closure).meaning in
    let same = unread known (kept c.new-lines.result) c.new-lines.ensures in
    elim c.if-branch.branch [
      | then-branch+in_ok-read_entries w ↦ subst (λ x. ReadsJournal m known (g.C.Closure.state x).meaning) (sym w.closure-is)
          (call_reads c.in_ok-read_start.field-0 m (g.C.Closure.state w.read_entries.new.closure).meaning c.config.result.now known _ _ w.if-branch.true
          c.config.ensures.config same c.in_ok-read_start.ensures.ok w.in_ok-read_entries.ensures.ok)
      | else-branch w ↦ subst (λ x. ReadsJournal m known (g.C.Closure.state x).meaning) (sym w.closure-is)
          (call_reads_none c.in_ok-read_start.field-0 m c.config.result.now known _ _ w.if-branch.false same c.in_ok-read_start.ensures.ok)
    ]

use Rattle.state_files.proofs.journal.Journal.sync.Goals as goal

pub returns-then-branch-clause-acknowledged : goal.returns-then-branch-clause-acknowledged
returns-then-branch-clause-acknowledged g c first written line has whole =
    c.in_ok-sync_lines.ensures.acknowledged written first line has whole c.if-branch.true

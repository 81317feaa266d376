use Rattle.replica_texts.specs.Snapshots.{last_of}
use Rattle.replica_core.specs.declared.error.SyncError.TheVariants.{NoMemory}
use Rattle.replica_texts.proofs.SnapshotFacts.{refused_by}
use Rattle.replica_texts.specs.Gives.{content_lines, refused_text}
use Rattle.replica_texts.specs.Inside.Gathering.{body_content}
use Rattle.replica_texts.proofs.GatherFacts.{short-entry}
use Rattle.replica_texts.proofs.give_reader.push_line.Goals as goal

pub returns-in_err-push_entry-clause-refused : goal.returns-in_err-push_entry-clause-refused
returns-in_err-push_entry-clause-refused c =
    let old = body_content c.args.content.now in
    refused_by c.from_residual-in_err-push_entry.result
    (refused_text old c.args.wanted (last_of (content_lines old)) c.args.text.now) NoMemory
    c.from_residual-in_err-push_entry.ensures.1
    (short-entry c.args.wanted c.args.text.now c.in_ok-entry.entry c.in_ok-entry.ensures.is)

pub returns-in_err-set_last-clause-refused : goal.returns-in_err-set_last-clause-refused
returns-in_err-set_last-clause-refused c =
    let old = body_content c.args.content.now in
    refused_by c.from_residual-in_err-set_last.result
    (refused_text old c.args.wanted (last_of (content_lines old)) c.args.text.now) NoMemory
    c.from_residual-in_err-set_last.ensures.1
    (short-entry c.args.wanted c.args.text.now c.in_ok-entry.entry c.in_ok-entry.ensures.is)

use Rattle.std.proofs.Common.{rules, ◌∙◌, ap}
use Rattle.receipt_core.proofs.ChainFacts.{not_stated}
use Rattle.replica_core.specs.declared.entry.Entry.TheVariants.{Receipt as AReceipt}
use Rattle.replica_texts.specs.Snapshots.{ended}
use Rattle.local_answers.proofs.NewLineFacts.{line_held, line_new}
use Rattle.local_answers.proofs.new_lines.line_of_receipt.Goals as goal

pub returns-then-holds : goal.returns-then-holds
returns-then-holds g c = line_held _ (AReceipt c.args.receipt.now) _ c.config-config.ensures.valid (c.holds.ensures.0 c.if-holds.true) (search rules)

pub returns : goal.returns
returns g c =
    line_new _ (AReceipt c.args.receipt.now) c.in_ok-line.line.items c.domain-domain.ensures.form (not_stated _ _ c.holds.ensures c.if-holds.false)
    (c.in_ok-line.ensures ∙ ap ended c.in_ok-write_line.ensures)

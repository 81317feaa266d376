use Rattle.std.proofs.Common.{option_copied}
use Rattle.replica_view.specs.Inside.ShownForms.{ShowsRecordIn}
use Rattle.replica_view.specs.HeldTexts.{IsRecordOfOther}
use Rattle.replica_view.proofs.MadeLineFacts.{LinesSoFar}
use Rattle.replica_view.proofs.listing.push_records.Given as goal

abbrev pub invariant-loop-domain : goal.invariant-loop-domain
invariant-loop-domain g l = LinesSoFar (IsRecordOfOther (option_copied l.chosen)) (ShowsRecordIn l.form)
    l.initial.domain-iterator l.domain-iterator l.initial.lines.items l.lines.items

use Rattle.std.proofs.Common.{[]}
use Rattle.status_warnings.specs.Warnings.{same_key_warning}
use Rattle.status_warnings.proofs.WarningFacts.{flat_end}
use Rattle.status_warnings.proofs.warning_search.push_same_keys.Goals as goal

pub returns : goal.returns
returns c =
    flat_end same_key_warning c.args.same_keys.now c.loop-same.same-index _ _
    c.loop-same-test.false c.loop-same.invariant

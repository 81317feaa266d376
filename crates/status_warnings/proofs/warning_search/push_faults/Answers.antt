use Rattle.std.proofs.Common.{◌++◌, ◌∙◌, ap, flat_map}
use Rattle.status_warnings.specs.Warnings.{warnings_of_fault}
use Rattle.status_warnings.proofs.WarningFacts.{flat_end}
use Rattle.status_warnings.proofs.warning_search.push_faults.Goals as goal

pub returns : goal.returns
returns c =
    flat_end (warnings_of_fault c.args.domains.now) c.all_domain_faults-fault-items.result.now c.loop-fault.fault-index _ _
    c.loop-fault-test.false c.loop-fault.invariant
    ∙ ap (λ xs. c.args.found.now.items ++ flat_map (warnings_of_fault c.args.domains.now) xs) c.all_domain_faults-fault-items.ensures

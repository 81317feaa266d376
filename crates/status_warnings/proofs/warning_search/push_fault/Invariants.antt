use Rattle.std.proofs.Common.{◌≡◌, ◌++◌, drop, flat_map}
use Rattle.status_warnings.specs.Warnings.{domain_warning}
use Rattle.status_warnings.proofs.warning_search.push_fault.Given as goal

abbrev pub invariant-loop-domain : goal.invariant-loop-domain
invariant-loop-domain l =
    l.found.items ++ flat_map (domain_warning l.fault) (drop l.domain-index l.domains)
    ≡ l.initial.found.items ++ flat_map (domain_warning l.fault) l.domains

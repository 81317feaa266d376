use Rattle.std.proofs.Common.{◌≡◌, ◌++◌, drop, flat_map}
use Rattle.status_warnings.specs.Warnings.{expiry_warning}
use Rattle.status_warnings.proofs.warning_search.push_expiries.Given as goal

abbrev pub invariant-loop-certificate : goal.invariant-loop-certificate
invariant-loop-certificate l =
    l.found.items ++ flat_map (expiry_warning l.limits) (drop l.certificate-index l.certificates)
    ≡ l.initial.found.items ++ flat_map (expiry_warning l.limits) l.certificates

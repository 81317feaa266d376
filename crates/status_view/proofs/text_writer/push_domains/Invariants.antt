use Rattle.std.proofs.Common.{◌≡◌, ◌++◌, drop, flat_map}
use Rattle.status_view.specs.StatusLines.{domain_status_lines}
use Rattle.status_view.proofs.text_writer.push_domains.Given as goal

abbrev pub invariant-loop-domain : goal.invariant-loop-domain
invariant-loop-domain l =
    l.out.items ++ flat_map domain_status_lines (drop l.domain-index l.domains) ≡ l.initial.out.items ++ flat_map domain_status_lines l.domains

use Rattle.std.proofs.Common.{◌≡◌, ◌++◌, drop, map}
use Rattle.config_view.specs.ConfigText.{domain_line}
use Rattle.config_view.proofs.shown_lines.push_domains.Given as goal

abbrev pub invariant-loop-domain : goal.invariant-loop-domain
invariant-loop-domain l = l.lines.items ++ map domain_line (drop l.domain-index l.domains) ≡ l.initial.lines.items ++ map domain_line l.domains

use Rattle.std.proofs.Common.{◌≡◌, take}
use Rattle.fed_config.proofs.config.copies_of_domains.Given as goal

abbrev pub invariant-loop-domain : goal.invariant-loop-domain
invariant-loop-domain l = l.copies.items ≡ take l.domain-index l.domains

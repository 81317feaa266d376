use Rattle.std.proofs.Common.{drop}
use Rattle.status_warnings.specs.CertificateEnds.{IsEndOfAuthority}
use Rattle.status_warnings.proofs.PartFacts.{IsBegun}
use Rattle.status_warnings.proofs.ending_certificates.push_authorities.Given as goal

abbrev pub invariant-loop-authority : goal.invariant-loop-authority
invariant-loop-authority l =
    IsBegun (IsEndOfAuthority l.domain) l.authorities (drop l.authority-index l.authorities) l.initial.ends.items l.ends.items

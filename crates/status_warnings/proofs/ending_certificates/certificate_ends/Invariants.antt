use Rattle.std.proofs.Common.{[], drop}
use Rattle.status_warnings.specs.CertificateEnds.{AreEndsOf}
use Rattle.status_warnings.proofs.PartFacts.{IsBegun}
use Rattle.status_warnings.proofs.ending_certificates.certificate_ends.Given as goal

abbrev pub invariant-loop-domain : goal.invariant-loop-domain
invariant-loop-domain g l =
    IsBegun (AreEndsOf (g.C.Closure.state l.closure).meaning) l.domain-items (drop l.domain-index l.domain-items) [] l.ends.items

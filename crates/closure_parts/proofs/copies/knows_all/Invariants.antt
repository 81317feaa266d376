-- The domains of the records so far are known.
use Rattle.fed_config.specs.Configuration.{HasDomain}
use Rattle.receipt_core.specs.declared.distrust.Distrust.{Distrust}
use Rattle.closure_parts.proofs.MergeFacts.{IsPassed}
use Rattle.closure_parts.proofs.copies.knows_all.Given as goal

abbrev pub invariant-loop-domain : goal.invariant-loop-domain
invariant-loop-domain l = IsPassed (λ (x : Distrust). HasDomain l.config x.domain) l.initial.domain-iterator l.domain-iterator

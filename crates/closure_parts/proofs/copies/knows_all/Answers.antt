-- One more domain is known.
use Rattle.std.proofs.Common.{List, sym, subst}
use Rattle.std.specs.List.{Contains}
use Rattle.fed_config.specs.Configuration.{HasDomain}
use Rattle.receipt_core.specs.declared.distrust.Distrust.{Distrust}
use Rattle.closure_parts.proofs.MergeFacts.{IsPassed-next, IsPassed-end, known_of}
use Rattle.closure_parts.proofs.copies.knows_all.Goals as goal

pub loop-domain-preserved : goal.loop-domain-preserved
loop-domain-preserved c =
    IsPassed-next (λ (x : Distrust). HasDomain c.args.config.now x.domain) c.into_iter-domain-iterator.result c.loop-domain.domain-iterator c.next.new.self
    (record { domain = c.in-Some.domain.now; key = c.in-Some.field-0-1.now }) c.loop-domain.invariant c.in-Some.ensures.steps
    (known_of c.args.config.now c.in-Some.domain.now c.domain_no.result c.domain_no.ensures c.if-is_none.ensures)

pub returns : goal.returns
returns c x has =
    IsPassed-end (λ (y : Distrust). HasDomain c.args.config.now y.domain) c.into_iter-domain-iterator.result
    c.loop-domain.domain-iterator c.loop-domain.invariant c.in-None.ensures.steps.0 x
    (subst (λ (xs : List Distrust). Contains xs x) (sym c.into_iter-domain-iterator.ensures.into_iter_gives) has)

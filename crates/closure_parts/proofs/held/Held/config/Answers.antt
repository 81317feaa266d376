use Rattle.std.proofs.Common.{◌≡◌, sym, subst, length}
use Rattle.fed_config.specs.Configuration.{IsConfiguration}
use Rattle.receipt_core.specs.Acceptance.{IsMeaning}
use Rattle.closure_parts.specs.Held.{HeldReceipts, meaning_of}
use Rattle.closure_parts.proofs.HeldFacts.{length_in_order}
use Rattle.closure_parts.proofs.ConfigFacts.{hoard_meaning}
use Rattle.closure_parts.proofs.held.Held.config.Goals as goal

pub returns-clause-valid : goal.returns-clause-valid
returns-clause-valid c = subst (λ (h : HeldReceipts). IsMeaning (meaning_of h)) c.self.view_is
    (hoard_meaning c.self.inside.config c.self.inside.receipts c.self.inside.buckets c.self.inside.records
    c.self.invariant)

pub returns-clause-size : goal.returns-clause-size
returns-clause-size c = subst (λ (h : HeldReceipts). length h.arrived ≡ length h.held) c.self.view_is
    (sym (length_in_order c.self.inside.receipts c.self.invariant.arranged))

pub returns-clause-form : goal.returns-clause-form
returns-clause-form c = subst (λ (h : HeldReceipts). IsConfiguration h.config) c.self.view_is c.self.invariant.configuration

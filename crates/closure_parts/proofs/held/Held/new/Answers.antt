use Rattle.std.proofs.Common.{sym, subst, [], ap, ◌∙◌}
use Rattle.fed_config.specs.Configuration.{Configuration, IsConfiguration}
use Rattle.receipt_core.specs.Receipt.{Receipt}
use Rattle.sorted_order.specs.ArenaView.{ArenaView}
use Rattle.closure_parts.specs.Held.{IsWellHeld}
use Rattle.closure_parts.proofs.ConfigFacts.{hoard_none}
use Rattle.closure_parts.proofs.held.Held.new.Goals as goal
use Rattle.receipt_core.specs.Limits.{record_limit}
use Rattle.closure_parts.specs.Records.{KeptRecords}

pub invariant_of-result : goal.invariant_of-result
invariant_of-result c =
    let is : IsConfiguration c.in_ok-try_clone.field-0 =
    subst (λ (x : Configuration). IsConfiguration x) (sym c.in_ok-try_clone.ensures) c.domains.ensures.form in
    let limit = c.record_limit.ensures.limit ∙ ap record_limit (sym c.in_ok-try_clone.ensures) in
    subst (λ (s : ArenaView Receipt). IsWellHeld c.in_ok-try_clone.field-0 s c.args.buckets c.in_ok-new.field-0) (sym c.new.ensures)
    (subst (λ rs. IsWellHeld c.in_ok-try_clone.field-0 (record { items = []; order = []; capacity = 0 }) c.args.buckets rs)
    (sym (c.in_ok-new.ensures ∙ ap (λ n. let k : KeptRecords = record { records = []; limit = n } in k) limit))
    (hoard_none c.in_ok-try_clone.field-0 is c.args.buckets c.requires))

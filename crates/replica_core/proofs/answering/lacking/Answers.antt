use Rattle.std.proofs.Common.{◌∙◌, ℕ, ap}
use Rattle.std.specs.Prelude.{not, filter}
use Rattle.replica_core.specs.State.{is_of_bucket, is_named}
use Rattle.replica_core.specs.Lacking.{not_named}
use Rattle.replica_core.proofs.LentGiveFacts.{filter-filter}
use Rattle.replica_core.proofs.answering.lacking.Goals as goal

pub returns : goal.returns
returns g c =
    let held = (g.C.Closure.state c.args.closure.now).meaning.held in
    c.new.ensures ∙ ap (λ ids. not_named ids c.receipts_of.result) c.ids.ensures.ids ∙ ap (not_named c.args.have.now.ids) c.receipts_of.ensures
    ∙ ap (λ (b : ℕ). not_named c.args.have.now.ids (filter (is_of_bucket b) held)) c.bucket.ensures
    ∙ filter-filter (is_of_bucket c.args.have.now.bucket) (λ r. not (is_named c.args.have.now.ids r)) held

use Rattle.std.proofs.Common.{◌∙◌, ℕ, ap, subst}
use Rattle.std.proofs.lemmas.Result.{IfOk-weaker}
use Rattle.std.specs.BTreeSet.{IsFromIterResult}
use Rattle.std.specs.Iterator.Runs.{Trigger}
use Rattle.replica_view.specs.Inside.ShownVouchers.{doc_id_cmp}
use Rattle.replica_view.proofs.shown_vouchers.set_of.Goals as goal

-- what a fact of each run asks
asked : (n : ℕ) → Trigger n
unfolding Trigger
asked n = tt

-- all ids were taken, in one run
pub returns : goal.returns
returns c =
    IfOk-weaker c.collect.result _ (IsFromIterResult doc_id_cmp c.args.ids.items)
    (λ set made.
    let run = made tt in
    let items = (c.into_iter.ensures.runs run.0 (asked _)).4 run.2 in
    subst (λ xs. IsFromIterResult doc_id_cmp xs set) (items ∙ ap (λ s. s.rest.items) run.1 ∙ c.into_iter.ensures.rest) run.3)
    c.collect.ensures.runs

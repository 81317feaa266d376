use Rattle.std.proofs.Common.{◌∙◌, ap}
use Rattle.replica_core.specs.Session.{state_of}
use Rattle.bucket_sums.specs.Sums.{sums_of}
use Rattle.bucket_sums.specs.Inside.KeptSteps.{sums_in}
use Rattle.bucket_sums.proofs.KeptFacts.{all_are, copied_sums, now_kept, unchanged_sums}
use Rattle.bucket_sums.proofs.kept_sums.KeptSums.sums_of.Goals as goal

pub returns-then-is_same-clause-sums : goal.returns-then-is_same-clause-sums
returns-then-is_same-clause-sums g c =
    let self = c.args.self.now in
    let m = (g.C.Closure.state c.args.closure.now).meaning in
    copied_sums c.copied.result (sums_in c.as_slice.result.now) (sums_of (state_of m))
    (ap sums_in c.as_slice.ensures.value ∙ unchanged_sums self m c.config-valid.ensures.valid (c.is_same.ensures c.if-is_same.true) c.requires)
    c.copied.ensures

pub returns-clause-sums : goal.returns-clause-sums
returns-clause-sums g c =
    let m = (g.C.Closure.state c.args.closure.now).meaning in
    let parts = c.in_ok-parts in
    copied_sums c.copied-2.result (sums_in c.as_slice-2.result.now) (sums_of (state_of m))
    (ap sums_in c.as_slice-2.ensures.value ∙ all_are (state_of m) parts.parts.items parts.ensures.sums parts.ensures.all)
    c.copied-2.ensures

pub returns-clause-kept : goal.returns-clause-kept
returns-clause-kept g c =
    now_kept _ (g.C.Closure.state c.args.closure.now).meaning c.config-valid.ensures.valid c.in_ok-parts.ensures.sums c.receipt_count-self.ensures

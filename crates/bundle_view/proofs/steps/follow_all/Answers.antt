-- One step after the other is passed.
use Rattle.std.proofs.Common.{◌≡◌, ◌<◌, Some, length, arith, refl, sym, ap, ◌∙◌}
use Rattle.std.specs.Prelude.{slice_get}
use Rattle.std.proofs.lemmas.Bool.{both_ways}
use Rattle.std.proofs.lemmas.Option.{slice_get_read}
use Rattle.receipt_core.specs.Receipt.{pair_of}
use Rattle.bundle_view.specs.Inside.Search.{Stride}
use Rattle.bundle_view.proofs.TrailFacts.{at_start, at_next, at_last}
use Rattle.bundle_view.proofs.steps.follow_all.Goals as goal

pub steps-init : goal.steps-init
steps-init c = at_start _ _ _ _ _ c.in_ok-follow_seeds.ensures

pub returns-then-is_of : goal.returns-then-is_of
returns-then-is_of c =
    let here : c.steps.place < length c.steps.steps.items = omega (arith, c.steps-test.true, c.len.ensures, c.steps.steps.ok.0) in
    record {
      searched = c.steps.invariant.searched;
      stride = c.index-step.result.now;
      at = slice_get_read c.steps.steps.items (length c.steps.steps.items) c.steps.place c.index-step.result.now refl here c.index-step.ensures;
      is = sym (ap (λ (s : Stride). pair_of s.receipt) c.step.view_is) ∙ c.is_of.ensures.0 c.if-is_of.true;
    }

pub steps-preserved : goal.steps-preserved
steps-preserved c =
    let here : c.steps.place < length c.steps.steps.items = omega (arith, c.steps-test.true, c.len.ensures, c.steps.steps.ok.0) in
    let at : slice_get c.steps.steps.items c.steps.place ≡ Some c.index-step.result.now =
    slice_get_read c.steps.steps.items (length c.steps.steps.items) c.steps.place c.index-step.result.now refl here c.index-step.ensures
    in
    at_next _ _ _ _ _ _ _ c.steps.place c.index-step.result.now c.steps.invariant at
    (λ e. both_ways c.is_of.result c.if-is_of.false (c.is_of.ensures.1 (ap (λ (s : Stride). pair_of s.receipt) c.step.view_is ∙ e)))
    (c.in_ok-follow_step.ensures c.index-step.result.now at)

pub returns : goal.returns
returns c = at_last _ _ _ _ _ _ c.steps.invariant (omega (arith, c.steps-test.false, c.len.ensures, c.steps.steps.ok.0))

-- The step before has a chain that is shorter by one.
use Rattle.std.proofs.Common.{◌≡◌, ◌<◌, ◌++◌, ◌∷◌, [], List, Option, Some, ℕ, length, sym, ap, ◌∙◌, subst, refl, append-nil, append_assoc, reverse}
use Rattle.std.specs.Prelude.{slice_get}
use Rattle.std.proofs.lemmas.List.{reverse-reverse}
use Rattle.std.proofs.lemmas.Option.{slice_get_read}
use Rattle.receipt_core.specs.Receipt.{Receipt}
use Rattle.bundle_view.specs.Inside.Search.{Stride, IsBackFrom}
use Rattle.bundle_view.proofs.TrailFacts.{IsWithin, left_from, falls_back, before_within, back_more}
use Rattle.bundle_view.proofs.steps.chain_to.Goals as goal

pub steps-smaller : goal.steps-smaller
steps-smaller c =
    let s : Stride = c.index-steps-place.result in
    let within : c.in-Some.place < length c.args.steps.now = subst (IsWithin c.args.steps.now) c.in-Some.is c.steps.invariant.within in
    let here : slice_get c.args.steps.now c.in-Some.place ≡ Some s =
    slice_get_read c.args.steps.now (length c.args.steps.now) c.in-Some.place s refl within c.index-steps-place.is
    in
    subst (λ (x : Option ℕ). left_from c.args.steps.now c.step-in-Some.inside.before < left_from c.args.steps.now x) (sym c.in-Some.is)
    (subst (λ (x : Option ℕ). left_from c.args.steps.now x < left_from c.args.steps.now (Some c.in-Some.place))
    (sym (ap (λ (x : Stride). x.before) c.step-in-Some.view_is))
    (falls_back c.args.steps.now c.in-Some.place s c.requires.linked here))

pub steps-preserved : goal.steps-preserved
steps-preserved c =
    let s : Stride = c.index-steps-place.result in
    let within : c.in-Some.place < length c.args.steps.now = subst (IsWithin c.args.steps.now) c.in-Some.is c.steps.invariant.within in
    let here : slice_get c.args.steps.now c.in-Some.place ≡ Some s =
    slice_get_read c.args.steps.now (length c.args.steps.now) c.in-Some.place s refl within c.index-steps-place.is
    in
    let before : s.before ≡ c.step-in-Some.inside.before = sym (ap (λ (x : Stride). x.before) c.step-in-Some.view_is) in
    record {
      within = subst (IsWithin c.args.steps.now) before (before_within c.args.steps.now s s.before (c.requires.linked c.in-Some.place s here));
      so_far = λ rest back.
          subst (IsBackFrom c.args.steps.now (Some c.args.last))
          (sym (ap (λ (rs : List Receipt). rs ++ rest) c.in_ok-push.ensures.items
          ∙ append_assoc c.steps.chain.items (c.in_ok-try_clone.field-0 ∷ []) rest))
          (c.steps.invariant.so_far (c.in_ok-try_clone.field-0 ∷ rest)
          (back_more c.args.steps.now c.steps.at c.in-Some.place s c.in_ok-try_clone.field-0 rest c.in-Some.is here
          (sym (ap (λ (x : Stride). x.receipt) c.step-in-Some.view_is) ∙ sym c.in_ok-try_clone.ensures)
          (subst (λ (x : Option ℕ). IsBackFrom c.args.steps.now x rest) (sym before) back)));
    }

pub returns : goal.returns
returns c =
    subst (IsBackFrom c.args.steps.now (Some c.args.last))
    (append-nil c.steps.chain.items ∙ sym (reverse-reverse c.steps.chain.items)
    ∙ ap (λ (rs : List Receipt). reverse rs) (sym c.reverse.ensures.items))
    (c.steps.invariant.so_far [] (subst (λ (x : Option ℕ). IsBackFrom c.args.steps.now x []) (sym c.in_default.is) tt))

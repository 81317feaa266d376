-- A label is found at its place, and is added if it is missing.
use Rattle.std.proofs.Common.{length, Some, inl, inr, refl, ap, ◌∙◌}
use Rattle.std.specs.Prelude.{slice_get}
use Rattle.std.proofs.lemmas.Option.{slice_get-get_or}
use Rattle.label_index.specs.declared.label.Label.{Label}
use Rattle.label_index.proofs.LabelOrderFacts.{label-exact, label-last, missing-not_contained}
use Rattle.label_index.proofs.index.number_of.Goals as goal

pub returns-in-Ok-clause-number : goal.returns-in-Ok-clause-number
returns-in-Ok-clause-number c = record {
  named = ap (λ n. slice_get c.args.labels.now.items n) c.new.ensures
      ∙ slice_get-get_or c.args.labels.now.items c.in-Ok.number c.args.label c.in-Ok.ensures.within
      ∙ ap (λ (l : Label). Some l) (label-exact _ _ (c.in-Ok.ensures.equal c.args.label));
  grown = inl (refl, refl);
}

pub returns-in-Err-clause-number : goal.returns-in-Err-clause-number
returns-in-Err-clause-number c = record {
  named = ap (λ n. slice_get c.insert.new.self.items n) (c.add_label-number.ensures.number ∙ c.requires.sizes)
      ∙ ap (λ xs. slice_get xs (length c.args.labels.now.items)) c.insert.ensures.items
      ∙ label-last c.args.labels.now.items c.args.label;
  grown = inr (
    missing-not_contained c.args.labels.now c.in-Err.place c.args.label
        c.len-arranged.ensures.arranged c.in-Err.ensures,
    c.insert.ensures.items,
    c.add_label-number.ensures.net,
  );
}

-- A label that is the newest of all is there.
use Rattle.std.proofs.Common.{inl, refl, ap, ◌∙◌}
use Rattle.std.specs.Prelude.{slice_get}
use Rattle.label_index.proofs.index.newest_or_number_of.Goals as goal

pub returns-in-Some-clause-number : goal.returns-in-Some-clause-number
returns-in-Some-clause-number c = record {
  named = ap (λ n. slice_get c.args.labels.now.items n) c.new.ensures ∙ c.in-Some.ensures;
  grown = inl (refl, refl);
}

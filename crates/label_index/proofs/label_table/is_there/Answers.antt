-- A label that is equal by its order is the one that is sought.
use Rattle.std.proofs.Common.{◌≡◌, true, length, Some, refl, sym, ap, ◌∙◌}
use Rattle.std.specs.declared.cmp.Ordering.{Ordering}
use Rattle.std.specs.declared.cmp.Ordering.TheVariants.{Less, Equal, Greater}
use Rattle.std.proofs.Common.{is_eq}
use Rattle.std.proofs.lemmas.Bool.{ltb-true}
use Rattle.std.proofs.lemmas.Option.{slice_get_read}
use Rattle.label_index.proofs.LabelOrderFacts.{label-exact}
use Rattle.label_index.proofs.label_table.is_there.Goals as goal

-- What the test of equality accepts is equal.
equal-from : (o : Ordering) → is_eq o ≡ true → o ≡ Equal
equal-from Less e = absurd (cc)
equal-from Equal e = refl
equal-from Greater e = absurd (cc)

pub returns-in-Some : goal.returns-in-Some
returns-in-Some c t =
    let labels = c.args.labels.now in
    let found = c.in-Some.label.now in
    slice_get_read labels (length labels) c.args.number found refl
    (ltb-true _ _ (sym c.in-Some.ensures.lookup.0)) c.in-Some.ensures.lookup.1
    ∙ ap Some (label-exact found c.args.sought.now.label
    (sym c.compare.ensures ∙ equal-from c.compare.result (sym c.is_eq.ensures ∙ t)))

use Rattle.std.proofs.Common.{true, cond, ap, ◌∙◌}
use Rattle.std.specs.BTreeSet.{contains}
use Rattle.std.proofs.lemmas.Bool.{both_ways}
use Rattle.receipt_core.specs.Receipt.{key_cmp}
use Rattle.key_view.proofs.DistrustedFacts.{was_new}
use Rattle.key_view.proofs.MetFacts.{same_key}
use Rattle.key_view.proofs.distrusted_keys.add_distrusted.Goals as goal

pub returns-in_ok-add_public_key : goal.returns-in_ok-add_public_key
returns-in_ok-add_public_key c = record {
  ids = λ id. c.in_ok-insert.ensures.updates.0 id
      ∙ ap (λ b. cond b true (contains key_cmp c.args.found.now.ids id)) (same_key c.args.key id);
  again = λ was. absurd (both_ways (contains key_cmp c.args.found.now.ids c.args.key)
      (was_new (contains key_cmp c.args.found.now.ids c.args.key) _ c.in_ok-insert.ensures.added c.if-branch.true) was);
  first = λ was. c.in_ok-add_public_key.ensures;
}

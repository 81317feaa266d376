use Rattle.std.proofs.Common.{◌+◌, List, ap, subst, sym, take, vec_items, ◌∙◌}
use Rattle.jwk_set.specs.declared.authority.KeyId.{KeyId}
use Rattle.key_view.specs.Inside.Distrusted.{AreTrustedWith}
use Rattle.key_view.proofs.TrustedFacts.{trusted_all, trusted_none, trusted_passed, trusted_pushed}
use Rattle.key_view.proofs.matching_keys.trusted_with.Goals.{then-is_trusted_with+in_ok-push, else-is_trusted_with}
use Rattle.key_view.proofs.matching_keys.trusted_with.Goals as goal

pub loop-one-init : goal.loop-one-init
loop-one-init g c =
    trusted_none c.args.domain.now (g.C.Closure.state c.args.closure.now).meaning.records c.args.public_keys.now _ c.new-ids.ensures.items

pub loop-one-preserved : goal.loop-one-preserved
loop-one-preserved g c = elim c.if-is_trusted_with.branch [
  | then-is_trusted_with+in_ok-push w ↦
      trusted_pushed c.args.domain.now (g.C.Closure.state c.args.closure.now).meaning.records c.args.public_keys.now c.args.known.now
      c.loop-one.one-index c.one-item.result c.is_trusted_with.result c.loop-one.ids.items c.if-is_trusted_with.ids.items c.loop-one-test.true
      c.one-item.is c.loop-one.invariant c.is_trusted_with.ensures w.if-is_trusted_with.true
      (ap vec_items w.ids-is ∙ w.in_ok-push.ensures.items)
  | else-is_trusted_with w ↦
      subst (λ (ids : List KeyId). AreTrustedWith c.args.domain.now (g.C.Closure.state c.args.closure.now).meaning.records c.args.public_keys.now
      (take (c.loop-one.one-index + 1) c.args.known.now) ids) (sym (ap vec_items w.ids-is))
      (trusted_passed c.args.domain.now (g.C.Closure.state c.args.closure.now).meaning.records c.args.public_keys.now c.args.known.now
      c.loop-one.one-index c.one-item.result c.is_trusted_with.result c.loop-one.ids.items c.loop-one-test.true
      c.one-item.is c.loop-one.invariant c.is_trusted_with.ensures w.if-is_trusted_with.false)
]

pub returns : goal.returns
returns g c =
    trusted_all c.args.domain.now (g.C.Closure.state c.args.closure.now).meaning.records c.args.public_keys.now c.args.known.now
    c.loop-one.one-index _ c.loop-one-test.false c.loop-one.invariant

use Rattle.std.proofs.Common.{subst, sym}
use Rattle.std.specs.Prelude.{Contains}
use Rattle.std.proofs.lemmas.Bool.{iff_false}
use Rattle.jwk_set.specs.declared.authority.KeyId.{KeyId}
use Rattle.key_view.specs.Inside.Distrusted.{AddsDistrusted}
use Rattle.key_view.proofs.DistrustedFacts.{der_distrusted, der_trusted}
use Rattle.key_view.proofs.distrusted_keys.add_certificate.Goals as goal

pub returns-in_ok-add_distrusted : goal.returns-in_ok-add_distrusted
returns-in_ok-add_distrusted g c = λ known has.
    der_distrusted c.args.domain.now (g.C.Closure.state c.args.closure.now).meaning.records known c.args.der.now c.args.found.now _
    (subst (λ (k : KeyId). Contains (g.C.Closure.state c.args.closure.now).meaning.records (record { domain = c.args.domain.now; key = k }))
    c.key_id-key.ensures (c.is_distrusted.ensures.0 c.if-is_distrusted.true))
    (subst (λ (k : KeyId). AddsDistrusted k c.args.der.now c.args.found.now c.add_distrusted.new.found) c.key_id-key.ensures
    c.in_ok-add_distrusted.ensures) has

pub returns-else-is_distrusted : goal.returns-else-is_distrusted
returns-else-is_distrusted g c = λ known has.
    der_trusted c.args.domain.now (g.C.Closure.state c.args.closure.now).meaning.records known c.args.der.now c.args.found.now
    (λ has_record. iff_false c.is_distrusted.ensures c.if-is_distrusted.false
    (subst (λ (k : KeyId). Contains (g.C.Closure.state c.args.closure.now).meaning.records (record { domain = c.args.domain.now; key = k }))
    (sym c.key_id-key.ensures) has_record)) has

use Rattle.std.proofs.Common.{sym, subst}
use Rattle.key_view.specs.Inside.PublicKeys.{AddsPublicKeyOf}
use Rattle.key_view.proofs.PublicKeyFacts.{digest_more}
use Rattle.key_view.proofs.domain_entries.push_public_key_of.Goals as goal

pub returns-in_ok-insert : goal.returns-in_ok-insert
returns-in_ok-insert c =
    subst (λ parts. AddsPublicKeyOf parts c.args.public_keys.now c.insert.new.self) (sym c.in-Some.is)
    (digest_more c.in-Some.parts c.args.public_keys.now c.insert.new.self c.in_ok-insert.ensures.updates.0)

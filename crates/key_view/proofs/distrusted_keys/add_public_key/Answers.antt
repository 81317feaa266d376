use Rattle.key_view.proofs.DistrustedFacts.{digest_added}
use Rattle.key_view.proofs.distrusted_keys.add_public_key.Goals as goal

pub returns-in_ok-insert : goal.returns-in_ok-insert
returns-in_ok-insert c =
    digest_added c.args.der.now c.in-Some.digest c.args.public_keys.now c.insert.new.self c.in-Some.ensures c.in_ok-insert.ensures.updates.0

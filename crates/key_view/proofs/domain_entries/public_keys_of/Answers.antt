use Rattle.key_view.proofs.PublicKeyFacts.{public_keys_all, public_keys_more, public_keys_none}
use Rattle.key_view.proofs.domain_entries.public_keys_of.Goals as goal

pub loop-entry-init : goal.loop-entry-init
loop-entry-init c = public_keys_none _ c.new-public_keys.ensures.empty

pub loop-entry-preserved : goal.loop-entry-preserved
loop-entry-preserved c =
    public_keys_more c.args.entries.now c.loop-entry.entry-index c.entry-item.result _ _
    c.loop-entry-test.true c.entry-item.is c.loop-entry.invariant c.in_ok-push_public_key.ensures

pub returns : goal.returns
returns c =
    public_keys_all c.args.entries.now c.loop-entry.entry-index _ c.loop-entry-test.false c.loop-entry.invariant

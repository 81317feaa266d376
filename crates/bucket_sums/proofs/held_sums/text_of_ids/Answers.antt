use Rattle.bucket_sums.proofs.HeldFacts.{ids-written}
use Rattle.bucket_sums.proofs.held_sums.text_of_ids.Goals as goal

pub returns : goal.returns
returns c = ids-written c.loop-id.text.items c.args.ids.now c.loop-id.id-index c.loop-id-test.false c.loop-id.invariant

use Rattle.json_text.proofs.PartFacts.{zip_end, zip_next}
use Rattle.key_view.specs.Inside.Listed.{IsListedEntry}
use Rattle.key_view.proofs.key_listing.key_entries.Goals as goal

pub loop-one-preserved : goal.loop-one-preserved
loop-one-preserved g c =
    zip_next (IsListedEntry c.args.domain.now (g.C.Closure.state c.args.closure.now).meaning.records c.args.listings.now)
    c.args.known.now c.loop-one.one-index c.one-item.result c.loop-one.keys.items _
    c.push.new.self.items c.loop-one-test.true c.one-item.is c.loop-one.invariant c.in_ok-key_entry.ensures c.in_ok-push.ensures.items

pub returns : goal.returns
returns g c =
    zip_end (IsListedEntry c.args.domain.now (g.C.Closure.state c.args.closure.now).meaning.records c.args.listings.now)
    c.args.known.now c.loop-one.one-index c.loop-one.keys.items c.loop-one-test.false c.loop-one.invariant

use Rattle.std.proofs.lemmas.Result.{on_ok_weaker}
use Rattle.fedbundle.proofs.two_parts.write_both.Goals as goal

pub returns-in_err-write_all-clause-beginning : goal.returns-in_err-write_all-clause-beginning
returns-in_err-write_all-clause-beginning g c =
    let old = g.W.Sink.contents c.args.sink.now in
    let new = g.W.Sink.contents c.write_all.new.sink in
    c.pieces.ensures.in_first old new c.args.first.now c.args.second.now c.write_all.ensures.beginning

pub returns-clause-ok : goal.returns-clause-ok
returns-clause-ok g c =
    let old = g.W.Sink.contents c.args.sink.now in
    let between = g.W.Sink.contents c.write_all.new.sink in
    let new = g.W.Sink.contents c.write_all-2.new.sink in
    on_ok_weaker c.write_all-2.result
    (c.pieces.ensures.both old between new c.args.first.now c.args.second.now c.in_ok-write_all.ensures.ok)
    c.write_all-2.ensures.ok

pub returns-clause-beginning : goal.returns-clause-beginning
returns-clause-beginning g c =
    let old = g.W.Sink.contents c.args.sink.now in
    let between = g.W.Sink.contents c.write_all.new.sink in
    let new = g.W.Sink.contents c.write_all-2.new.sink in
    c.pieces.ensures.in_second old between new c.args.first.now c.args.second.now c.in_ok-write_all.ensures.ok
    c.write_all-2.ensures.beginning

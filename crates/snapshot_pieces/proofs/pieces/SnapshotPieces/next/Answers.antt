use Rattle.std.proofs.lemmas.Result.{IfOk-weaker}
use Rattle.snapshot_pieces.proofs.PieceFacts.{continued, finished, moved}
use Rattle.snapshot_pieces.proofs.pieces.SnapshotPieces.next.Goals as goal

pub returns-clause-continues : goal.returns-clause-continues
returns-clause-continues g c = λ m earlier before w grows.
    IfOk-weaker c.write_next.result _ _ (λ piece n. continued m earlier (g.C.Closure.state c.args.closure.now).meaning c.args.self.now
    c.write_next.new.self before piece w grows c.config-config.ensures.valid n) c.write_next.ensures.next

pub returns-clause-whole : goal.returns-clause-whole
returns-clause-whole g c = λ m earlier before w grows.
    IfOk-weaker c.write_next.result _ _ (λ piece n. finished m earlier (g.C.Closure.state c.args.closure.now).meaning c.args.self.now
    c.write_next.new.self before piece w grows c.config-config.ensures.valid n) c.write_next.ensures.next

pub returns-clause-moves : goal.returns-clause-moves
returns-clause-moves g c = λ m earlier before w grows.
    IfOk-weaker c.write_next.result _ _ (λ piece n. moved m earlier (g.C.Closure.state c.args.closure.now).meaning c.args.self.now
    c.write_next.new.self before piece w grows c.config-config.ensures.valid n) c.write_next.ensures.next

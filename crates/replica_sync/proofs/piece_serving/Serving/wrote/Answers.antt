use Rattle.std.proofs.Common.{sym, drop-drop}
use Rattle.replica_sync.specs.ServedPieces.{due_give}
use Rattle.replica_sync.proofs.ServedPieceFacts.{wrote_some}
use Rattle.replica_sync.proofs.piece_serving.Serving.wrote.Goals as goal

pub returns-else-self-len-clause-serves : goal.returns-else-self-len-clause-serves
returns-else-self-len-clause-serves c came written serves =
    wrote_some c.args.self.now.fault came _ written (due_give c.args.self.now) _ c.args.count
    (sym (drop-drop c.args.count c.args.self.now.written c.args.self.now.answer.items)) serves

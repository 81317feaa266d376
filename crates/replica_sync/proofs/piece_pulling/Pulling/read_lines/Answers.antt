use Rattle.replica_sync.proofs.NewsFacts.{waits_empty}
use Rattle.replica_sync.proofs.piece_pulling.Pulling.read_lines.Goals as goal

pub take_lines-read-requires : goal.take_lines-read-requires
take_lines-read-requires g c = record {
  waits = waits_empty (g.C.Closure.state c.args.closure.now).meaning c.new-news.result c.config-valid.ensures.valid c.new-news.ensures.empty;
}

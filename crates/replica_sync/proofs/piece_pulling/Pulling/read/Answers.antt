use Rattle.replica_sync.proofs.NewsFacts.{waits_empty}
use Rattle.replica_sync.proofs.piece_pulling.Pulling.read.Goals as goal

pub read_line-read-requires : goal.read_line-read-requires
read_line-read-requires g c = record {
  waits = waits_empty (g.C.Closure.state c.args.closure.now).meaning c.new-news.result c.config-valid.ensures.valid c.new-news.ensures.empty;
}

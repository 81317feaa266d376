use Rattle.replica_sync.proofs.FeedSearch.{last_feed_is}
use Rattle.replica_sync.proofs.pulling.last_feed.Goals as goal

pub returns : goal.returns
returns c = last_feed_is c.args.bytes.now c.memrchr.result c.memrchr.ensures

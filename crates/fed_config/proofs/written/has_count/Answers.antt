use Rattle.fed_config.proofs.CountFacts.{counted}
use Rattle.fed_config.proofs.written.has_count.Goals as goal

pub returns-in-Some : goal.returns-in-Some
returns-in-Some c = counted _ c.in-Some.members.now.entries c.len.result c.args.count c.in-Some.ensures c.len.ensures.len

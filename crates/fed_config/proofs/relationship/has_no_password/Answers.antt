use Rattle.fed_config.proofs.UrlFacts.{no_password}
use Rattle.fed_config.proofs.relationship.has_no_password.Goals as goal

pub returns : goal.returns
returns c = no_password c.args.url.now.password c.password.result c.is_none.result c.password.ensures c.is_none.ensures

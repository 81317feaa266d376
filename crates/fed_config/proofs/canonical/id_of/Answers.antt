use Rattle.std.proofs.Common.{ap, rules}
use Rattle.sha2.specs.Sha256.{sha256}
use Rattle.fed_config.specs.Configuration.{config_id_of}
use Rattle.fed_config.proofs.canonical.id_of.Goals as goal

pub returns : goal.returns
unfolding config_id_of
returns c = rw c.digest_of.ensures (ap sha256 (search rules))

use Rattle.jwk_set.proofs.EscapeFacts.{escape_itself}
use Rattle.jwk_set.proofs.laws.plain_texts.Goals as goal

pub returns : goal.returns
returns c = escape_itself

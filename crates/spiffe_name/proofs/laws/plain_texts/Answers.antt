use Rattle.spiffe_name.proofs.PlainFacts.{IsPlainText-domain, IsPlainText-id}
use Rattle.spiffe_name.proofs.laws.plain_texts.Goals as goal

pub returns-clause-domain : goal.returns-clause-domain
returns-clause-domain c = IsPlainText-domain

pub returns-clause-id : goal.returns-clause-id
returns-clause-id c = IsPlainText-id

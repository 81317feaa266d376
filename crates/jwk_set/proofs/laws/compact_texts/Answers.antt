use Rattle.jwk_set.proofs.PlainFacts.{IsJson-compact_text, has_float-plain}
use Rattle.jwk_set.proofs.laws.compact_texts.Goals as goal

pub returns-clause-reads_back : goal.returns-clause-reads_back
returns-clause-reads_back c = IsJson-compact_text

pub returns-clause-no_float : goal.returns-clause-no_float
returns-clause-no_float c = has_float-plain

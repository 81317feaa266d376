use Rattle.fed_config.proofs.CanonicalFacts.{no_floors, one_text, reads_back}
use Rattle.fed_config.proofs.laws.canonical_texts.Goals as goal
use Rattle.fed_config.proofs.LimitFacts.{no_limits}

pub returns-clause-one_text : goal.returns-clause-one_text
returns-clause-one_text c =
    one_text c.plain_texts.ensures.domain c.plain_texts.ensures.id c.written.ensures.plain c.written.ensures.shallow
    c.compact_texts.ensures.reads_back c.one_reading.ensures c.documents.ensures.one_text

pub returns-clause-reads_back : goal.returns-clause-reads_back
returns-clause-reads_back c =
    reads_back c.plain_texts.ensures.domain c.plain_texts.ensures.id c.written.ensures.plain c.written.ensures.shallow
    c.compact_texts.ensures.reads_back c.written.ensures.reads_back

pub returns-clause-no_floors : goal.returns-clause-no_floors
returns-clause-no_floors c = no_floors

pub returns-clause-no_limits : goal.returns-clause-no_limits
returns-clause-no_limits c = no_limits

use Rattle.bundle_doc.proofs.CanonicalReaderFacts.{ReadsNext-read}
use Rattle.bundle_doc.proofs.canonical_reader.read_next.Goals as goal

pub returns-in-Less : goal.returns-in-Less
returns-in-Less c =
    ReadsNext-read c.args.text.now c.in_ok-text.text.now c.as_bytes.result.now c.in_ok-authority.rest.now
    c.args.last.now c.args.later c.in_ok-authority.authority c.cmp.result
    c.as_bytes.ensures.value c.in_ok-text.ensures c.in_ok-authority.ensures c.cmp.ensures c.in-Less.is

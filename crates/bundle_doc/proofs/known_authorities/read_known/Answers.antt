use Rattle.bundle_doc.proofs.CanonicalReaderFacts.{ReadsAuthority-alone}
use Rattle.bundle_doc.proofs.known_authorities.read_known.Goals as goal

pub keep-requires : goal.keep-requires
keep-requires c =
    ReadsAuthority-alone c.args.text.now c.in_ok-authority.rest.now c.in-Some-split_at_checked.own.now c.in_ok-authority.authority
    c.in_ok-authority.ensures c.in-Some-split_at_checked.ensures.front

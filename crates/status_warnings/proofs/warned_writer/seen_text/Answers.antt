use Rattle.std.proofs.Common.{◌∙◌}
use Rattle.status_warnings.specs.WarnedStatus.{watching_of}
use Rattle.status_warnings.proofs.WarningFacts.{sight_as, text_found}
use Rattle.status_warnings.proofs.warned_writer.seen_text.Goals as goal

pub returns : goal.returns
returns c =
    text_found c.args.format (watching_of c.args.watch.now) c.args.status.now c.args.certificates.now c.args.same_keys.now _ _ _
    (sight_as (watching_of c.args.watch.now) c.args.status.now c.args.certificates.now c.args.same_keys.now _ _ c.peers_of.ensures c.began_of.ensures)
    (c.as_slice.ensures.value ∙ c.in_ok-warnings.ensures) c.in_ok-text.ensures

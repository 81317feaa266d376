use Rattle.std.proofs.Common.{◌∙◌, sym}
use Rattle.status_view.proofs.StatusFacts.{reported_count}
use Rattle.status_view.proofs.domain_standing.count_of.Goals as goal

pub returns : goal.returns
returns c = c.count_own.ensures ∙ sym (reported_count c.args.domain.now c.args.clashes.now)

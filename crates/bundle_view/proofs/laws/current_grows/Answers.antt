use Rattle.bundle_view.proofs.CurrentFacts.{no_lower}
use Rattle.bundle_view.proofs.laws.current_grows.Goals as goal

pub returns : goal.returns
returns c old new config records more domain before after was is =
    no_lower old new domain before after (c.larger_and_smaller.ensures.receipts old new config records more) was is

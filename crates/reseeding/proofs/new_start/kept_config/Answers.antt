use Rattle.reseeding.proofs.ConfigFacts.{makes_kept}
use Rattle.reseeding.proofs.new_start.kept_config.Goals as goal

pub returns : goal.returns
returns g c =
    makes_kept _ c.config.result.now _ _ c.config.ensures.valid c.config.ensures.config
    (rw c.floors.ensures at c.in_ok-seeded_text.ensures) c.receipt_count.ensures

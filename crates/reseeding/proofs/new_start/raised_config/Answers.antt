use Rattle.reseeding.proofs.ConfigFacts.{makes_raised}
use Rattle.reseeding.proofs.new_start.raised_config.Goals as goal

pub returns : goal.returns
returns g c = makes_raised _ _ _ _ c.in_ok-floors.ensures (rw c.as_slice.ensures.value at c.in_ok-seeded_text.ensures) c.count_staying.ensures

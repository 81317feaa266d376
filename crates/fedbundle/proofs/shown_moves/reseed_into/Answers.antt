use Rattle.fedbundle.proofs.ShownCommandFacts.{refused_as, seeded_as}
use Rattle.fedbundle.proofs.shown_moves.reseed_into.Goals as goal

pub returns-in_ok-with_it-in-Seeded : goal.returns-in_ok-with_it-in-Seeded
returns-in_ok-with_it-in-Seeded g c =
    seeded_as _ _ _ _ _ c.in-Seeded.new _ _ _ _ _ c.in-Seeded.is c.in_ok-new.ensures c.as_slice.ensures.value
    c.as_slice-in-Seeded.ensures.value c.in_ok-with_it-in-Seeded.ensures c.receipt_count.ensures c.print_both.ensures

pub returns-in-Refusals : goal.returns-in-Refusals
returns-in-Refusals g c =
    refused_as _ _ _ _ _ c.in-Refusals.lines _ _ c.in-Refusals.is c.in_ok-new.ensures c.as_slice-in-Refusals.ensures.value
    c.print_both-in-Refusals.ensures

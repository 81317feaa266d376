-- A round that raises no flag leaves none to raise.
use Rattle.std.proofs.Common.{arith}
use Rattle.closure_parts.specs.Held.{meaning_of}
use Rattle.plain_closure.proofs.PlainFacts.{quiet-released}
use Rattle.plain_closure.proofs.rounds.run_rounds.Goals as goal

pub returns-clause-released : goal.returns-clause-released
returns-clause-released c =
    let h = c.args.held.now in
    quiet-released (meaning_of h) h.arrived c.args.seed_offers.now c.requires.offers c.requires.same c.config-valid.ensures.valid c.round.new.released
    (c.round.ensures.sound c.loop.invariant.sound) (c.round.ensures.quiet (omega (arith, c.loop-test.false)))

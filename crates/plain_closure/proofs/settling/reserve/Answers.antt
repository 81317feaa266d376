-- What has grown is kept as it was.
use Rattle.std.proofs.Common.{List, Bool, sym, subst}
use Rattle.plain_closure.specs.Plain.{HasPlainFlags}
use Rattle.plain_closure.proofs.PlainChangeFacts.{settled-roomier}
use Rattle.plain_closure.proofs.settling.reserve.Goals as goal

pub returns-clause-kept : goal.returns-clause-kept
returns-clause-kept c = record {
  settled = subst (λ (fs : List Bool). HasPlainFlags c.grow.new.held c.grow.new.pairs c.args.seed_offers.now fs) (sym c.grow.ensures.released)
      (settled-roomier c.args.held.now c.grow.new.held c.args.pairs.now c.grow.new.pairs c.args.seed_offers.now
      c.args.released.now.items c.requires.settled c.grow.ensures.held c.grow.ensures.pairs);
  room = c.grow.ensures.spare;
}

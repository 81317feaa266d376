use Rattle.std.proofs.Common.{◌∙◌, sym}
use Rattle.fed_config.proofs.LimitFacts.{AreDomains-limits, IsConfiguration-limits, no_limits}
use Rattle.fed_config.proofs.config.Config.set_limits.Goals as goal

pub invariant_of-self : goal.invariant_of-self
invariant_of-self c = record {
  is = IsConfiguration-limits _ c.args.limits c.self.invariant.is;
  are_domains = AreDomains-limits _ c.args.limits _ c.self.invariant.are_domains;
  digest = c.self.invariant.digest ∙ sym (no_limits _ c.args.limits);
}

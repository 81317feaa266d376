use Rattle.std.proofs.Common.{length, subst, ap, ap₂, ◌∙◌, refl, ◌≤◌}
use Rattle.fed_config.specs.Configuration.{IsConfiguration, config_id_of}
use Rattle.fed_config.proofs.DomainFacts.{one_list}
use Rattle.fed_config.proofs.TextFacts.{config_of}
use Rattle.fed_config.proofs.config.Config.of_sets.Goals as goal

-- the domains are within the limit
few : (c : goal.In_ok-id) → length c.args.domains.items ≤ 1024
few c = subst (λ n. n ≤ 1024) (c.len.ensures ∙ c.args.domains.ok.0) c.if-len-gt-MAX_DOMAINS.false

-- so the lists are a configuration
configuration : (c : goal.In_ok-id) → IsConfiguration (config_of c.args.relationships.items c.args.seeds.items c.args.floors.items)
configuration c = record {
  rising_relationships = c.requires.lists.rising_relationships;
  rising_seeds = c.requires.lists.rising_seeds;
  rising_floors = c.requires.lists.rising_floors;
  each_relationship = c.requires.lists.each_relationship;
  each_seed = c.requires.lists.each_seed;
  each_floor = c.requires.lists.each_floor;
  each_seed_reaches = c.requires.lists.each_seed_reaches;
  few_relationships = c.requires.lists.few_relationships;
  few_seeds = c.requires.lists.few_seeds;
  few_domains = λ ds are. subst (λ l. length l ≤ 1024) (one_list _ _ ds c.requires.domains are) (few c);
}

pub invariant_of-result : goal.invariant_of-result
invariant_of-result c = record {
  is = configuration c;
  are_domains = c.requires.domains;
  digest = c.in_ok-id.ensures ∙ ap config_id_of
      (ap₂ (λ rs ss. config_of rs ss c.as_slice-3.result.now) c.as_slice.ensures.value c.as_slice-2.ensures.value
      ∙ ap (config_of c.args.relationships.items c.args.seeds.items) c.as_slice-3.ensures.value);
}

pub returns : goal.returns
returns c = (refl, configuration c)

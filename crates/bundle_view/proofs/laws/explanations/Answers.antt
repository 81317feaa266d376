use Rattle.bundle_view.proofs.ExplainFacts.{chain_of, ends, accepted, empty_for_seed, one_length}
use Rattle.bundle_view.proofs.laws.explanations.Goals as goal

pub returns-clause-chain : goal.returns-clause-chain
returns-clause-chain c = chain_of

pub returns-clause-end : goal.returns-clause-end
returns-clause-end c m p front last is = ends m p front last is

pub returns-clause-accepted : goal.returns-clause-accepted
returns-clause-accepted c m p chain is = accepted m p chain is

pub returns-clause-configured : goal.returns-clause-configured
returns-clause-configured c m s chain has is = empty_for_seed m s chain has is

pub returns-clause-one_length : goal.returns-clause-one_length
returns-clause-one_length c m p chain other a b = one_length m p chain other a b

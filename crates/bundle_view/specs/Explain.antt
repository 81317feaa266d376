-- Why a document is accepted: a shortest chain of receipts
use Rattle.std.specs.Prelude.{◌≤◌, List, length, Contains}
use Rattle.std.specs.List.{AllByRecursion}
use Rattle.fed_config.specs.declared.seed.Seed.{Seed}
use Rattle.receipt_core.specs.Receipt.{Receipt, Pair}
use Rattle.receipt_core.specs.Acceptance.{Meaning, Leads, pair_of_seed}

-- The receipts are held, and they lead from a configured document to this one.
pub record LeadsTo (m : Meaning) (p : Pair) (chain : List Receipt) : Type 0 where
  pub seed : Seed
  pub configured : Contains m.config.seeds seed
  pub held : AllByRecursion (Contains m.held) chain
  pub leads : Leads m.config m.records (pair_of_seed seed) chain p

-- They lead to it, and no fewer do. To a configured document none at all lead.
pub record IsShortest (m : Meaning) (p : Pair) (chain : List Receipt) : Type 0 where
  pub leads : LeadsTo m p chain
  pub shortest : (other : List Receipt) → LeadsTo m p other → length chain ≤ length other

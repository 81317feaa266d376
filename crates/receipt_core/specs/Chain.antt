-- Chains of receipts from a configuration, for somebody who holds no store.
use Rattle.std.specs.Prelude.{◌<◌, List, [], ◌∷◌, length, Contains}
use Rattle.fed_config.specs.Configuration.{Configuration}
use Rattle.fed_config.specs.declared.seed.Seed.{Seed}
use Rattle.receipt_core.specs.declared.distrust.Distrust.{Distrust}
use Rattle.receipt_core.specs.Receipt.{Receipt, Pair, pair_of}
use Rattle.receipt_core.specs.Acceptance.{IsFitting, Vouches, Leads, pair_of_seed}

-- the document that a chain ends in
abbrev pub last_pair : Pair → List Receipt → Pair
last_pair from [] = from
last_pair from (r ∷ chain) = last_pair (pair_of r) chain

abbrev pub LeadsOn : Configuration → List Distrust → Pair → List Receipt → Type 0
LeadsOn c records from chain = Leads c records from chain (last_pair from chain)

-- The list isn't empty, and it leads from a configured document to its last receipt's.
pub record IsChain (c : Configuration) (records : List Distrust)
    (chain : List Receipt) : Type 0 where
  pub some : 0 < length chain
  pub seed : Seed
  pub configured : Contains c.seeds seed
  pub leads : LeadsOn c records (pair_of_seed seed) chain

-- a configured document vouches for the receipt
pub record HasVoucher (c : Configuration) (records : List Distrust) (r : Receipt) : Type 0 where
  pub seed : Seed
  pub configured : Contains c.seeds seed
  pub vouches : Vouches records (pair_of_seed seed) r

abbrev pub IsFirst : Configuration → List Distrust → Receipt → Type 0
IsFirst c records r = IsFitting c r × HasVoucher c records r

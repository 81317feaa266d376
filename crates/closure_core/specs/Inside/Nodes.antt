-- Documents of domains by number: those of the configuration, and then those of the receipts in
-- order of arrival
use Rattle.std.specs.Prelude.{ℕ, ◌<◌, ◌≡◌, Bool, false, cond, List, ◌++◌, map, length, slice_get}
use Rattle.std.specs.Prelude.{◌==◌, not, slice_index_or, Option, None}
use Rattle.std.specs.Option.{option_map}
use Rattle.std.specs.List.{All, filter_map}
use Rattle.fed_config.specs.declared.seed.Seed.{Seed}
use Rattle.bundle_doc.specs.Bundle.{Bundle}
use Rattle.receipt_core.specs.Receipt.{Receipt, Pair, pair_of}
use Rattle.receipt_core.specs.Acceptance.{pair_of_seed}

abbrev pub pairs_of : List Seed → List Receipt → List Pair
pairs_of seeds receipts = map pair_of_seed seeds ++ map pair_of receipts

-- the number's flag is raised
abbrev pub is_raised : List Bool → ℕ → Bool
is_raised flags number = slice_index_or flags number false

-- the document with the number, if its flag is raised
abbrev pub raised_document : List Pair → List Bool → ℕ → Option Bundle
raised_document pairs flags number = cond (is_raised flags number)
    (option_map (λ p. p.document) (slice_get pairs number)) None

-- the documents with these numbers whose flags are raised
abbrev pub raised_documents : List Pair → List Bool → List ℕ → List Bundle
raised_documents pairs flags numbers = filter_map (raised_document pairs flags) numbers

-- Each has a flag, and each of these numbers is one of them.
pub record AreNumbers (pairs : List Pair) (flags : List Bool) (numbers : List ℕ) : Type 0 where
  pub flagged : length flags ≡ length pairs
  pub within : All (λ number. number < length pairs) numbers

-- ---- counts in the place of flags

-- a document's flag is raised if its count is not 0
abbrev pub flags_of : List ℕ → List Bool
flags_of counts = map (λ count. not (count == 0)) counts

-- the count of the document with the number
abbrev pub count_at : List ℕ → ℕ → ℕ
count_at counts number = slice_index_or counts number 0

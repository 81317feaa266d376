-- What of the sets of a replica goes with it to another configuration, and what is reported of the
-- rest.
use Rattle.std.specs.Prelude.{◌≡◌, ℕ, ◌++◌, ◌⊎◌, ◌↔◌, List, [], ◌∷◌, length, codes, Contains}
use Rattle.std.specs.Prelude.{Option}
use Rattle.std.specs.List.{concat}
use Rattle.std.specs.Io.KnownBytes.{Appends}
use Rattle.hex.specs.Hex.{encode_lower}
use Rattle.byte_lines.specs.Device.{AppendsBeginning}
use Rattle.fed_config.specs.Configuration.{Configuration, HasDomain}
use Rattle.receipt_core.specs.declared.distrust.Distrust.{Distrust}
use Rattle.receipt_core.specs.Receipt.{Receipt, receipt_id_of}
use Rattle.receipt_core.specs.Acceptance.{IsFitting, Meaning, IsMeaning}
use Rattle.closure_core.specs.Alike.{with_limits}
use Rattle.closure_core.specs.Refusals.{IsOfUnknownDomain, IsOfWrongEndpoint, IsBelowFloor}
use Rattle.migration.specs.declared.carrying.Choice.{Choice}
use Rattle.migration.specs.declared.carrying.Choice.TheVariants.{All, RecordsOnly}

-- ---- what is carried over

-- the other configuration, with the limits under which all was held that is carried over
abbrev pub config_for : Meaning → Configuration → Configuration
config_for m c = with_limits c m.config.limits

-- the receipts that are to be carried over
abbrev pub chosen_receipts : Choice → Meaning → List Receipt
chosen_receipts All m = m.held
chosen_receipts RecordsOnly m = []

-- Under the other configuration exactly the chosen receipts that fit it are held, and exactly the
-- records whose domain it has.
pub record IsCarried (choice : Choice) (c : Configuration) (m carried : Meaning) : Type 0 where
  pub valid : IsMeaning carried
  pub config : carried.config ≡ c
  pub receipts : (r : Receipt)
      → (Contains carried.held r ↔ (Contains (chosen_receipts choice m) r × IsFitting c r))
  pub records : (x : Distrust)
      → (Contains carried.records x ↔ (Contains m.records x × HasDomain c x.domain))

-- ---- what is left out

-- what it is, its digest in hexadecimal, its domain, and the cause with a line feed
abbrev pub left_out_line : List ℕ → List ℕ → List ℕ → List ℕ → List ℕ
left_out_line what digest domain cause =
    what ++ (encode_lower digest ++ (codes " of " ++ (domain ++ cause)))

abbrev pub left_receipt : Receipt → List ℕ → List ℕ
left_receipt r cause = left_out_line (codes "left out receipt ") (receipt_id_of r) r.domain cause

abbrev pub left_record : Distrust → List ℕ
left_record x =
    left_out_line (codes "left out record ") x.key.0 x.domain (codes ": unknown domain\n")

-- the receipt does not fit, and the line says why
abbrev pub ReportsReceipt : Configuration → Receipt → List ℕ → Type 0
ReportsReceipt c r line =
    (IsOfUnknownDomain c r × (line ≡ left_receipt r (codes ": unknown domain\n")))
    ⊎ (IsOfWrongEndpoint c r × (line ≡ left_receipt r (codes ": wrong endpoint\n")))
    ⊎ (IsBelowFloor c r × (line ≡ left_receipt r (codes ": below floor\n")))

-- the configuration does not have the record's domain, and the line says so
abbrev pub ReportsRecord : Configuration → Distrust → List ℕ → Type 0
ReportsRecord c x line = (HasDomain c x.domain → ⊥) × (line ≡ left_record x)

-- Each item goes along or has a line, and these are the lines, in the order of the items.
abbrev pub AreLeftOut : {A : Type 0} → (A → Type 0) → (A → List ℕ → Type 0) → List A
    → List (List ℕ) → Type 0
AreLeftOut goes reports [] lines = lines ≡ []
AreLeftOut goes reports (x ∷ items) lines = (goes x × AreLeftOut goes reports items lines)
    ⊎ ((line : List ℕ) × (others : List (List ℕ)) × (lines ≡ line ∷ others) × reports x line
    × AreLeftOut goes reports items others)

-- The lines are those of these records, and then those of these receipts.
pub record AreLinesOf (c : Configuration) (records : List Distrust) (receipts : List Receipt)
    (lines : List (List ℕ)) : Type 0 where
  pub of_records : List (List ℕ)
  pub of_receipts : List (List ℕ)
  pub both : lines ≡ of_records ++ of_receipts
  pub each_record : AreLeftOut (λ x. HasDomain c x.domain) (ReportsRecord c) records of_records
  pub each_receipt : AreLeftOut (IsFitting c) (ReportsReceipt c) receipts of_receipts

-- ---- a call of `carry`

-- what is to be carried over, the configuration to which, and what the sink of the lines holds
-- before and after, if it shows that
pub record CarryRun : Type 0 where
  pub choice : Choice
  pub config : Configuration
  pub old : Meaning
  pub before : Option (List ℕ)
  pub after : Option (List ℕ)

abbrev pub carry_run : Choice → Configuration → Meaning → Option (List ℕ) → Option (List ℕ)
    → CarryRun
carry_run choice config old before after = record {
  choice = choice;
  config = config;
  old = old;
  before = before;
  after = after;
}

-- That was carried over, and a line was written for each of the others, n of them.
pub record CarriesOver (run : CarryRun) (carried : Meaning) (n : ℕ) : Type 0 where
  pub is : IsCarried run.choice run.config run.old carried
  pub lines : List (List ℕ)
  pub left : AreLinesOf run.config run.old.records (chosen_receipts run.choice run.old) lines
  pub written : Appends run.before run.after (concat lines)
  pub counted : n ≡ length lines

-- A beginning of the lines of some first records, or of all records and some first receipts, was
-- written.
pub record StopsCarrying (run : CarryRun) : Type 0 where
  pub records : List Distrust
  pub later_records : List Distrust
  pub first_records : run.old.records ≡ records ++ later_records
  pub receipts : List Receipt
  pub later_receipts : List Receipt
  pub first_receipts : chosen_receipts run.choice run.old ≡ receipts ++ later_receipts
  pub records_first : (receipts ≡ []) ⊎ (later_records ≡ [])
  pub lines : List (List ℕ)
  pub left : AreLinesOf run.config records receipts lines
  pub begun : AppendsBeginning run.before run.after (concat lines)

-- What the texts of options say.
use Rattle.std.specs.Prelude.{◌≡◌, ◌⊎◌, ℕ, List, [], ◌∷◌, Option, Some, None, codes}
use Rattle.std.specs.Prelude.{Bool, true, false, if◌then◌else◌}
use Rattle.std.specs.Prelude.{length, ◌≤◌}
use Rattle.std.specs.Str.{bytes_eq}
use Rattle.std.specs.Str.Parse.{IsNumeral, digits_value}
use Rattle.hex.specs.Hex.{IsBytes, encode_lower}
use Rattle.jwk_set.specs.declared.authority.KeyId.{KeyId}
use Rattle.command_line.specs.OptionRows.{options_of, option_text, taken_name}
use Rattle.command_line.specs.declared.option_texts.ExplanationForm.{ExplanationForm}
use Rattle.command_line.specs.declared.option_texts.ExplanationForm.TheVariants.{Receipts, Steps}
use Rattle.command_line.specs.declared.option_texts.ExplanationForm.TheVariants as chain
use Rattle.command_line.specs.declared.command_name.CommandName.{CommandName}
use Rattle.command_line.specs.declared.command_name.OptionName.{OptionName}
use Rattle.command_line.specs.declared.command_name.OptionName.TheVariants.{MostBytes, Verbose}
use Rattle.command_line.specs.declared.command_name.OptionName.TheVariants.{Wait}
use Rattle.command_line.specs.declared.command_name.OptionName.TheVariants.{MostReceipts}
use Rattle.command_line.specs.declared.command_name.OptionName.TheVariants.{MostRecords}
use Rattle.command_line.specs.declared.command_name.OptionName.TheVariants.{ExpiresWithin}
use Rattle.command_line.specs.declared.command_name.OptionName.TheVariants.{PeerQuiet}
use Rattle.command_line.specs.declared.command_name.TakenOption.{TakenOption}
use Rattle.command_line.specs.declared.option_error.OptionError.{OptionError}
use Rattle.command_line.specs.declared.option_error.OptionError.TheVariants.{BadNumber}
use Rattle.command_line.specs.declared.option_texts.Manner.{Manner}
use Rattle.command_line.specs.declared.option_texts.MostHeld.{MostHeld}
use Rattle.command_line.specs.declared.option_texts.WarnTimes.{WarnTimes}
use Rattle.command_line.specs.declared.option_texts.BundleFormat.{BundleFormat}
use Rattle.command_line.specs.declared.option_texts.BundleFormat.TheVariants.{Json, Pem}
use Rattle.command_line.specs.declared.option_texts.OutputForm.{OutputForm}
use Rattle.command_line.specs.declared.option_texts.OutputForm.TheVariants as output

-- the text at the place of the first option of this name
abbrev pub said_with : List TakenOption → List (Option (List ℕ)) → OptionName → Option (List ℕ)
said_with [] texts option = None
said_with (o ∷ os) [] option = None
said_with (o ∷ os) (text ∷ texts) option =
    if bytes_eq (option_text (taken_name o)) (option_text option) then text
    else said_with os texts option

-- the text of the subcommand's option, if the arguments give it one
abbrev pub option_said : CommandName → List (Option (List ℕ)) → OptionName → Option (List ℕ)
option_said name texts option = said_with (options_of name) texts option

abbrev pub SaysBundleFormat : Option (List ℕ) → BundleFormat → Type 0
SaysBundleFormat text Json = (text ≡ None) ⊎ (text ≡ Some (codes "json"))
SaysBundleFormat text Pem = text ≡ Some (codes "pem")

abbrev pub SaysNoBundleFormat : Option (List ℕ) → Type 0
SaysNoBundleFormat text = (format : BundleFormat) → SaysBundleFormat text format → ⊥

-- a flag that is given has the text `true`
abbrev pub SaysFlag : Option (List ℕ) → Bool → Type 0
SaysFlag text true = text ≡ Some (codes "true")
SaysFlag text false = text ≡ Some (codes "true") → ⊥

abbrev pub SaysExplanationForm : Option (List ℕ) → ExplanationForm → Type 0
SaysExplanationForm text Steps = SaysFlag text true
SaysExplanationForm text Receipts = SaysFlag text false
SaysExplanationForm text chain.Json = ⊥

abbrev pub SaysOutputForm : Option (List ℕ) → OutputForm → Type 0
SaysOutputForm text output.Text = (text ≡ None) ⊎ (text ≡ Some (codes "text"))
SaysOutputForm text output.Json = text ≡ Some (codes "json")

abbrev pub SaysNoOutputForm : Option (List ℕ) → Type 0
SaysNoOutputForm text = (form : OutputForm) → SaysOutputForm text form → ⊥

-- by the flag for short lines, and by the form
abbrev pub SaysExplanationIn : (short form : Option (List ℕ)) → ExplanationForm → Type 0
SaysExplanationIn short form chosen =
    (SaysOutputForm form output.Text × SaysExplanationForm short chosen)
    ⊎ (SaysOutputForm form output.Json × SaysFlag short false × (chosen ≡ chain.Json))

abbrev pub SaysNoExplanationIn : (short form : Option (List ℕ)) → Type 0
SaysNoExplanationIn short form =
    (chosen : ExplanationForm) → SaysExplanationIn short form chosen → ⊥

-- ---- keys

-- the text is the lower-case digits of the key id
abbrev pub IsKeyText : List ℕ → KeyId → Type 0
IsKeyText text key = encode_lower key.0 ≡ text

-- it is those of none
abbrev pub IsNoKeyText : List ℕ → Type 0
IsNoKeyText text = (bytes : List ℕ) → length bytes ≡ 32 → IsBytes bytes → encode_lower bytes ≡ text
    → ⊥

-- ---- numbers

-- The text is that of a number of at most `most`: decimal digits, and no other byte. Needless zeros
-- may come before them.
pub record IsNumberText (most : ℕ) (text : List ℕ) (n : ℕ) : Type 0 where
  pub digits : IsNumeral 10 text
  pub value : n ≡ digits_value 10 text
  pub within : n ≤ most

-- the number of the text, and `None` if it is not the text of a number
abbrev pub ReadsNumber : (most : ℕ) → List ℕ → Option ℕ → Type 0
ReadsNumber most text (Some n) = IsNumberText most text n
ReadsNumber most text None = (n : ℕ) → IsNumberText most text n → ⊥

-- the same, and another number if there is no text
abbrev pub SaysNumber : (otherwise most : ℕ) → Option (List ℕ) → Option ℕ → Type 0
SaysNumber otherwise most None said = said ≡ Some otherwise
SaysNumber otherwise most (Some text) said = ReadsNumber most text said

-- How many seconds the lock of a state is waited for: 60, or up to a day.
abbrev pub SaysWait : Option (List ℕ) → Option ℕ → Type 0
SaysWait = SaysNumber 60 86400

-- How many bytes are held at most: 256 MiB, or any number of 64 bits.
abbrev pub SaysMostBytes : Option (List ℕ) → Option ℕ → Type 0
SaysMostBytes = SaysNumber 268435456 18446744073709551615

-- what the arguments say of waiting, of the most bytes and of saying more
pub record SaysManner (name : CommandName) (texts : List (Option (List ℕ)))
    (manner : Manner) : Type 0 where
  pub wait : SaysWait (option_said name texts Wait) (Some manner.wait_seconds)
  pub most : SaysMostBytes (option_said name texts MostBytes) (Some manner.most_bytes)
  pub verbose : SaysFlag (option_said name texts Verbose) manner.is_verbose

-- The wait is not a number in its range; or it is one or is left out, and the most bytes are not a
-- number in their range.
abbrev pub SaysNoManner : CommandName → List (Option (List ℕ)) → OptionError → Type 0
SaysNoManner name texts (BadNumber Wait) = SaysWait (option_said name texts Wait) None
SaysNoManner name texts (BadNumber MostBytes) =
    ((n : ℕ) × SaysWait (option_said name texts Wait) (Some n))
    × SaysMostBytes (option_said name texts MostBytes) None
SaysNoManner name texts error = ⊥

-- ---- how much may be held

-- the number of the text, or another one if there is no text; and `None` if that is 0, or if the
-- text is not the text of a number
abbrev pub SaysCount : (otherwise most : ℕ) → Option (List ℕ) → Option ℕ → Type 0
SaysCount otherwise most text (Some n) = SaysNumber otherwise most text (Some n) × (1 ≤ n)
SaysCount otherwise most text None =
    (n : ℕ) → SaysNumber otherwise most text (Some n) → 1 ≤ n → ⊥

-- How many receipts may be held: 65,536, or a number from 1 to 4,194,304.
abbrev pub SaysMostReceipts : Option (List ℕ) → Option ℕ → Type 0
SaysMostReceipts = SaysCount 65536 4194304

-- How many records of distrust may be held: 4,096, or a number from 1 to 65,536.
abbrev pub SaysMostRecords : Option (List ℕ) → Option ℕ → Type 0
SaysMostRecords = SaysCount 4096 65536

-- what the arguments say of how much may be held
pub record SaysMostHeld (name : CommandName) (texts : List (Option (List ℕ)))
    (most : MostHeld) : Type 0 where
  pub receipts : SaysMostReceipts (option_said name texts MostReceipts) (Some most.receipts)
  pub records : SaysMostRecords (option_said name texts MostRecords) (Some most.records)

-- The receipts are not a number in their range; or they are one or are left out, and the records
-- are not a number in their range.
abbrev pub SaysNoMostHeld : CommandName → List (Option (List ℕ)) → OptionError → Type 0
SaysNoMostHeld name texts (BadNumber MostReceipts) =
    SaysMostReceipts (option_said name texts MostReceipts) None
SaysNoMostHeld name texts (BadNumber MostRecords) =
    ((n : ℕ) × SaysMostReceipts (option_said name texts MostReceipts) (Some n))
    × SaysMostRecords (option_said name texts MostRecords) None
SaysNoMostHeld name texts error = ⊥

-- ---- what a replica is warned of

-- How many days before its end a certificate is warned of: 7, or up to a century.
abbrev pub SaysDays : Option (List ℕ) → Option ℕ → Type 0
SaysDays = SaysNumber 7 36525

-- How many seconds a peer may be quiet: 600, or up to a year.
abbrev pub SaysQuiet : Option (List ℕ) → Option ℕ → Type 0
SaysQuiet = SaysNumber 600 31536000

-- what the arguments say of when something is warned of
pub record SaysWarnTimes (name : CommandName) (texts : List (Option (List ℕ)))
    (times : WarnTimes) : Type 0 where
  pub days : SaysDays (option_said name texts ExpiresWithin) (Some times.expires_within)
  pub quiet : SaysQuiet (option_said name texts PeerQuiet) (Some times.peer_quiet)

-- The days are not a number in their range; or they are one or are left out, and the seconds are
-- not a number in their range.
abbrev pub SaysNoWarnTimes : CommandName → List (Option (List ℕ)) → OptionError → Type 0
SaysNoWarnTimes name texts (BadNumber ExpiresWithin) =
    SaysDays (option_said name texts ExpiresWithin) None
SaysNoWarnTimes name texts (BadNumber PeerQuiet) =
    ((n : ℕ) × SaysDays (option_said name texts ExpiresWithin) (Some n))
    × SaysQuiet (option_said name texts PeerQuiet) None
SaysNoWarnTimes name texts error = ⊥

-- ---- how often a replica pulls, and how many bytes it takes

-- After how many seconds it pulls again: 60, or a number from 1 to a day.
abbrev pub SaysEvery : Option (List ℕ) → Option ℕ → Type 0
SaysEvery = SaysCount 60 86400

-- How many bytes requests and their replies may have together: 512 MiB, or any number of 64 bits.
abbrev pub SaysRequestBytes : Option (List ℕ) → Option ℕ → Type 0
SaysRequestBytes = SaysNumber 536870912 18446744073709551615

-- The keys that the arguments of `distrust` say, and how it ends if they say none.
use Rattle.std.specs.Prelude.{◌≡◌, ◌≢◌, ◌⊎◌, ℕ, List, [], ◌∷◌, Option, Some, None, false, true}
use Rattle.jwk_set.specs.declared.authority.KeyId.{KeyId}
use Rattle.spiffe_name.specs.TrustDomain.{IsDomainText}
use Rattle.receipt_core.specs.Acceptance.{Meaning}
use Rattle.receipt_core.specs.declared.distrust.Distrust.{Distrust}
use Rattle.key_view.specs.SameKeys.{AreKeysWith}
use Rattle.distrust_view.specs.DistrustEffect.{is_listed}
use Rattle.distrust_view.specs.declared.given_keys.GivenKeys.{GivenKeys}
use Rattle.command_line.specs.OptionTexts.{IsKeyText, IsNoKeyText, SaysFlag, option_said}
use Rattle.command_line.specs.declared.command_name.CommandName.{CommandName}
use Rattle.command_line.specs.declared.command_name.OptionName.TheVariants.{Domain}
use Rattle.command_line.specs.declared.command_name.OptionName.TheVariants.{Known as KnownFlag}
use Rattle.command_line.specs.declared.command_name.OptionName.TheVariants.{PublicKey, UnknownKey}
use Rattle.command_line.specs.declared.words.Call.{Call}
use Rattle.command_exits.specs.declared.error.CommandError.TheVariants.{NoMemory}
use Rattle.command_exits.specs.declared.exits.Exit.{Exit}
use Rattle.command_exits.specs.declared.exits.Exit.TheVariants.{BadKey, NoKnownKey, Refused}
use Rattle.fedbundle.specs.SaidValues.{EndsAtDomain, SaysNoRecord, SaysRecord, texts_of_call}
use Rattle.fedbundle.specs.declared.said_keys.Keeper.{Keeper}
use Rattle.fedbundle.specs.declared.said_keys.Keeper.TheVariants.{Files, Replica}
use Rattle.fedbundle.specs.declared.said_keys.KeyCheck.{KeyCheck}
use Rattle.fedbundle.specs.declared.said_keys.KeyCheck.TheVariants.{Any, Known}

-- the arguments, who keeps what is held, and that
pub record KeysCall : Type 0 where
  pub name : CommandName
  pub texts : List (Option (List ℕ))
  pub keeper : Keeper
  pub meaning : Meaning

abbrev pub keys_call : Call → Keeper → Meaning → KeysCall
keys_call call keeper m =
    record { name = call.name; texts = texts_of_call call; keeper = keeper; meaning = m }

-- ---- a key that is named

-- Which keys may be distrusted: over files only known ones if the flag asks for that; at a replica
-- only those unless the flag for others is given.
abbrev pub SaysCheck : Keeper → CommandName → List (Option (List ℕ)) → KeyCheck → Type 0
SaysCheck Files name texts Known = SaysFlag (option_said name texts KnownFlag) true
SaysCheck Files name texts Any = SaysFlag (option_said name texts KnownFlag) false
SaysCheck Replica name texts Any = SaysFlag (option_said name texts UnknownKey) true
SaysCheck Replica name texts Known = SaysFlag (option_said name texts UnknownKey) false

-- A bundle lists the key, if that is asked for.
abbrev pub IsKnownIf : KeyCheck → Meaning → Distrust → Type 0
IsKnownIf Any m x = Unit {0}
IsKnownIf Known m x = is_listed m x.domain x.key ≡ true

-- The key of the record that the arguments say, and no other.
pub record SaysOneKey (call : KeysCall) (given : GivenKeys) : Type 0 where
  pub x : Distrust
  pub says : SaysRecord call.name call.texts x
  pub check : KeyCheck
  pub is_check : SaysCheck call.keeper call.name call.texts check
  pub known : IsKnownIf check call.meaning x
  pub domain : given.domain ≡ x.domain
  pub keys : given.keys.items ≡ x.key ∷ []

-- The key has to be known, and no bundle lists it.
pub record EndsAtUnknown (call : KeysCall) (exit : Exit) : Type 0 where
  pub x : Distrust
  pub says : SaysRecord call.name call.texts x
  pub check : SaysCheck call.keeper call.name call.texts Known
  pub unlisted : is_listed call.meaning x.domain x.key ≡ false
  pub is : exit ≡ NoKnownKey

-- They say no key, or one that has to be known and is not; or memory ran out.
abbrev pub SaysNoOneKey : KeysCall → Exit → Type 0
SaysNoOneKey call exit = SaysNoRecord call.name call.texts exit
    ⊎ (EndsAtUnknown call exit ⊎ (exit ≡ Refused NoMemory))

-- ---- keys by their public key

-- all known keys of the domain with the public key of these digits, of which there is one
pub record SaysKeysWith (digits : List ℕ) (name : CommandName)
    (texts : List (Option (List ℕ))) (m : Meaning) (given : GivenKeys) : Type 0 where
  pub domain : option_said name texts Domain ≡ Some given.domain
  pub form : IsDomainText given.domain
  pub public_key : KeyId
  pub is_key : IsKeyText digits public_key
  pub are : AreKeysWith m given.domain public_key.0 given.keys.items
  pub some : given.keys.items ≢ []

-- No known key of the domain has it.
pub record EndsWithoutKeys (digits : List ℕ) (name : CommandName)
    (texts : List (Option (List ℕ))) (m : Meaning) (exit : Exit) : Type 0 where
  pub domain : List ℕ
  pub is_said : option_said name texts Domain ≡ Some domain
  pub public_key : KeyId
  pub is_key : IsKeyText digits public_key
  pub none : AreKeysWith m domain public_key.0 []
  pub is : exit ≡ NoKnownKey

-- They say no domain, the digits are not those of a public key, no known key has it, or memory
-- ran out.
abbrev pub SaysNoKeysWith : List ℕ → CommandName → List (Option (List ℕ)) → Meaning → Exit
    → Type 0
SaysNoKeysWith digits name texts m exit = EndsAtDomain name texts exit
    ⊎ (((exit ≡ BadKey) × IsNoKeyText digits)
    ⊎ (EndsWithoutKeys digits name texts m exit ⊎ (exit ≡ Refused NoMemory)))

-- ---- by the option for public keys

abbrev pub SaysKeysBy : Option (List ℕ) → KeysCall → GivenKeys → Type 0
SaysKeysBy None call given = SaysOneKey call given
SaysKeysBy (Some digits) call given =
    SaysKeysWith digits call.name call.texts call.meaning given

-- The arguments say these keys.
abbrev pub SaysKeys : KeysCall → GivenKeys → Type 0
SaysKeys call given = SaysKeysBy (option_said call.name call.texts PublicKey) call given

abbrev pub SaysNoKeysBy : Option (List ℕ) → KeysCall → Exit → Type 0
SaysNoKeysBy None call exit = SaysNoOneKey call exit
SaysNoKeysBy (Some digits) call exit =
    SaysNoKeysWith digits call.name call.texts call.meaning exit

-- They say none.
abbrev pub SaysNoKeys : KeysCall → Exit → Type 0
SaysNoKeys call exit = SaysNoKeysBy (option_said call.name call.texts PublicKey) call exit

-- The values that the arguments of a call say, and how a command ends if they say none.
use Rattle.std.specs.Prelude.{◌≡◌, ◌⊎◌, ℕ, List, Option, Some, None, map, option_map}
use Rattle.spiffe_name.specs.SpiffeId.{IsId, RefusesId}
use Rattle.spiffe_name.specs.TrustDomain.{IsDomainText, RefusesDomain}
use Rattle.spiffe_name.specs.declared.error.NameError.{NameError}
use Rattle.receipt_core.specs.declared.distrust.Distrust.{Distrust}
use Rattle.bundle_view.specs.declared.observation.Verdict.{Verdict}
use Rattle.command_line.specs.OptionTexts.{IsKeyText, IsNoKeyText, option_said}
use Rattle.command_line.specs.declared.command_name.CommandName.{CommandName}
use Rattle.command_line.specs.declared.command_name.OptionName.{OptionName}
use Rattle.command_line.specs.declared.command_name.OptionName.TheVariants.{Domain, Endpoint, Key}
use Rattle.command_exits.specs.declared.error.CommandError.TheVariants.{Name}
use Rattle.command_exits.specs.declared.exits.Exit.{Exit}
use Rattle.command_exits.specs.declared.exits.Exit.TheVariants.{BadKey, Refused, Usage}
use Rattle.command_line.specs.declared.words.Call.{Call}

-- the texts of a call's options
abbrev pub texts_of_call : Call → List (Option (List ℕ))
texts_of_call call = map (option_map (λ t. t.now)) call.texts.items

-- ---- values

-- The arguments say this record of distrust.
pub record SaysRecord (name : CommandName) (texts : List (Option (List ℕ)))
    (x : Distrust) : Type 0 where
  pub domain : option_said name texts Domain ≡ Some x.domain
  pub form : IsDomainText x.domain
  pub digits : List ℕ
  pub key : option_said name texts Key ≡ Some digits
  pub is_key : IsKeyText digits x.key

-- They say what TLS said.
pub record SaysVerdict (name : CommandName) (texts : List (Option (List ℕ)))
    (verdict : Verdict) : Type 0 where
  pub endpoint : option_said name texts Endpoint ≡ Some verdict.endpoint.text
  pub form : IsId verdict.endpoint
  pub digits : List ℕ
  pub key : option_said name texts Key ≡ Some digits
  pub is_key : IsKeyText digits verdict.key

-- A domain is chosen by its name, if there is one.
abbrev pub SaysChosen : (text chosen : Option (List ℕ)) → Type 0
SaysChosen None chosen = chosen ≡ None
SaysChosen (Some text) chosen = (chosen ≡ Some text) × IsDomainText text

-- ---- arguments that say none

-- The name is not that of a domain.
abbrev pub SaysNoName : (text : Option (List ℕ)) → Exit → Type 0
SaysNoName None exit = ⊥
SaysNoName (Some text) exit = (why : NameError) × (exit ≡ Refused (Name why))
    × RefusesDomain text why

-- The arguments leave out this option, which the command needs.
pub record EndsWithout (option : OptionName) (name : CommandName)
    (texts : List (Option (List ℕ))) (exit : Exit) : Type 0 where
  pub lacks : option_said name texts option ≡ None
  pub is : exit ≡ Usage

-- The name that the arguments give this option is refused, for a cause.
pub record EndsAtName (Refuses : List ℕ → NameError → Type 0) (option : OptionName)
    (name : CommandName) (texts : List (Option (List ℕ))) (exit : Exit) : Type 0 where
  pub text : List ℕ
  pub is_said : option_said name texts option ≡ Some text
  pub why : NameError
  pub refused : Refuses text why
  pub is : exit ≡ Refused (Name why)

-- The arguments give a text for the key that is not the text of a key.
pub record EndsAtDigits (name : CommandName) (texts : List (Option (List ℕ)))
    (exit : Exit) : Type 0 where
  pub digits : List ℕ
  pub is_said : option_said name texts Key ≡ Some digits
  pub none : IsNoKeyText digits
  pub is : exit ≡ BadKey

-- They say no domain,
abbrev pub EndsAtDomain : CommandName → List (Option (List ℕ)) → Exit → Type 0
EndsAtDomain name texts exit = EndsWithout Domain name texts exit
    ⊎ EndsAtName RefusesDomain Domain name texts exit

-- no endpoint,
abbrev pub EndsAtEndpoint : CommandName → List (Option (List ℕ)) → Exit → Type 0
EndsAtEndpoint name texts exit = EndsWithout Endpoint name texts exit
    ⊎ EndsAtName RefusesId Endpoint name texts exit

-- or no key.
abbrev pub EndsAtKey : CommandName → List (Option (List ℕ)) → Exit → Type 0
EndsAtKey name texts exit = EndsWithout Key name texts exit ⊎ EndsAtDigits name texts exit

-- They say no record of distrust.
abbrev pub SaysNoRecord : CommandName → List (Option (List ℕ)) → Exit → Type 0
SaysNoRecord name texts exit = EndsAtDomain name texts exit ⊎ EndsAtKey name texts exit

-- They do not say what TLS said.
abbrev pub SaysNoVerdict : CommandName → List (Option (List ℕ)) → Exit → Type 0
SaysNoVerdict name texts exit = EndsAtEndpoint name texts exit ⊎ EndsAtKey name texts exit

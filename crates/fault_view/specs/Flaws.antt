-- A flaw of a configuration, and its place.
use Rattle.std.specs.Prelude.{◌≡◌, ◌≢◌, ℕ, ◌<◌, Bool, false, true, ◌||◌, List, [], codes, Option}
use Rattle.std.specs.Prelude.{Some, None, IsSome, IsTrue, option_and_then, Ok, length}
use Rattle.std.specs.Str.{bytes_eq}
use Rattle.serde_json.specs.Data.{Data, Items, array}
use Rattle.serde_json.specs.Data as json
use Rattle.serde_json.specs.Find.{get, at, as_object}
use Rattle.url.specs.Parts.{Parts}
use Rattle.url.specs.Parser.{parse_url}
use Rattle.spiffe_name.specs.TrustDomain.{RefusesDomain}
use Rattle.spiffe_name.specs.SpiffeId.{RefusesId}
use Rattle.spiffe_name.specs.declared.error.NameError.TheVariants as name_error
use Rattle.jwk_set.specs.Element.{HasText, IsElement}
use Rattle.jwk_set.specs.declared.authority.Authority.{Authority}
use Rattle.bundle_doc.specs.Bundle.{HasNumberMember}
use Rattle.bundle_doc.specs.Refusal.{RefusesTree}
use Rattle.bundle_doc.specs.declared.error.DocError.TheVariants as doc_error
use Rattle.fed_config.specs.Limits.{url_limit}
use Rattle.fed_config.specs.Reading.{NamesDomain}
use Rattle.fed_config.specs.Written.{Written, SaysWritten}
use Rattle.fed_config.specs.declared.error.ConfigError.{ConfigError}
use Rattle.fed_config.specs.declared.error.ConfigError.TheVariants.{Shape, BadName, BadUrl}
use Rattle.fed_config.specs.declared.error.ConfigError.TheVariants.{BadProfile, DoubleRelationship}
use Rattle.fed_config.specs.declared.error.ConfigError.TheVariants.{BadSeed}
use Rattle.fault_view.specs.declared.place.FlawPlace.{FlawPlace}
use Rattle.fault_view.specs.declared.place.FlawPlace.TheVariants.{Whole, Relationship, Seed}
use Rattle.fault_view.specs.declared.place.FlawPlace.TheVariants.{Floors}
use Rattle.fault_view.specs.declared.url_flaws.UrlFlaw.{UrlFlaw}
use Rattle.fault_view.specs.declared.url_flaws.UrlFlaw.TheVariants.{TooLong, NoUrl, OtherScheme}
use Rattle.fault_view.specs.declared.url_flaws.UrlFlaw.TheVariants.{HasUser, HasPassword}
use Rattle.fault_view.specs.declared.flaws.Flaw.{Flaw}
use Rattle.fault_view.specs.declared.flaws.Flaw.TheVariants as flaw
use Rattle.fault_view.specs.declared.flaws.FoundFlaw.{FoundFlaw}

-- ---- places

-- what is at the place, if there is something
abbrev pub part_of : Data → FlawPlace → Option Data
part_of tree Whole = Some tree
part_of tree (Relationship number) = option_and_then (at number) (get (codes "relationships") tree)
part_of tree (Seed number) = option_and_then (at number) (get (codes "seeds") tree)
part_of tree Floors = get (codes "floors") tree

-- the members that the part there has to have
abbrev pub is_needed_at : FlawPlace → List ℕ → Bool
is_needed_at Whole name = bytes_eq name (codes "relationships") || bytes_eq name (codes "seeds")
is_needed_at (Relationship number) name = bytes_eq name (codes "domain")
    || bytes_eq name (codes "endpoint") || bytes_eq name (codes "profile")
    || bytes_eq name (codes "url")
is_needed_at (Seed number) name = bytes_eq name (codes "bundle") || bytes_eq name (codes "domain")
is_needed_at Floors name = false

-- those that it may have: the members of floors are named after domains
abbrev pub is_member_at : FlawPlace → List ℕ → Bool
is_member_at Whole name = is_needed_at Whole name || bytes_eq name (codes "floors")
is_member_at (Relationship number) name = is_needed_at (Relationship number) name
is_member_at (Seed number) name = is_needed_at (Seed number) name
is_member_at Floors name = true

-- The first of these members are texts, the second are arrays, and the third are numbers. The
-- `bundle` of a seed is not among these: it is read as a bundle.
abbrev pub is_text_at : FlawPlace → List ℕ → Bool
is_text_at Whole name = false
is_text_at (Relationship number) name = is_needed_at (Relationship number) name
is_text_at (Seed number) name = bytes_eq name (codes "domain")
is_text_at Floors name = false

abbrev pub is_array_at : FlawPlace → List ℕ → Bool
is_array_at Whole name = is_needed_at Whole name
is_array_at (Relationship number) name = false
is_array_at (Seed number) name = false
is_array_at Floors name = false

abbrev pub AreNumbersAt : FlawPlace → Type 0
AreNumbersAt place = place ≡ Floors

-- the place is a relationship after the one with this number
abbrev pub IsAfter : ℕ → FlawPlace → Type 0
IsAfter earlier Whole = ⊥
IsAfter earlier (Relationship number) = earlier < number
IsAfter earlier (Seed number) = ⊥
IsAfter earlier Floors = ⊥

-- ---- flaws

-- why a text is not a URL of an endpoint
abbrev pub IsUrlFlaw : List ℕ → UrlFlaw → Type 0
IsUrlFlaw text TooLong = url_limit < length text
IsUrlFlaw text NoUrl = (parts : Parts) → parse_url None text ≡ Ok parts → ⊥
IsUrlFlaw text OtherScheme = (parts : Parts) × (parse_url None text ≡ Ok parts)
    × (parts.scheme ≢ codes "https")
IsUrlFlaw text HasUser = (parts : Parts) × (parse_url None text ≡ Ok parts)
    × (parts.username ≢ [])
IsUrlFlaw text HasPassword = (parts : Parts) × (parse_url None text ≡ Ok parts)
    × (parts.password ≢ [])

-- the relationship with this number has this text as its domain
abbrev pub HasDomainOf : Data → ℕ → List ℕ → Type 0
HasDomainOf tree earlier text = (other : Data)
    × (part_of tree (Relationship earlier) ≡ Some other) × HasText other (codes "domain") text

-- the floor of the domain that a part names has this number
abbrev pub HasFloorOf : Data → Data → ℕ → Type 0
HasFloorOf tree value floor = (domain : List ℕ) × (floors : Data)
    × HasText value (codes "domain") domain × (part_of tree Floors ≡ Some floors)
    × (get domain floors ≡ Some (json.number (json.unsigned floor)))

-- the bundle of a seed has this sequence number, or none
abbrev pub HasSequence : Data → Option ℕ → Type 0
HasSequence value rank = (bundle : Data) × (get (codes "bundle") value ≡ Some bundle)
    × HasNumberMember bundle (codes "spiffe_sequence") rank

-- What is at the place has the flaw. The configuration is there for what is compared with another
-- of its parts.
abbrev pub HasFlaw : Data → FlawPlace → Data → Flaw → Type 0
HasFlaw tree place value flaw.NotObject = as_object value ≡ None
HasFlaw tree place value (flaw.UnknownMember name) = IsSome (get name.now value)
    × (is_member_at place name.now ≡ false)
HasFlaw tree place value (flaw.MissingMember name) = (get name.now value ≡ None)
    × IsTrue (is_needed_at place name.now)
HasFlaw tree place value (flaw.NotText name) =
    ((text : List ℕ) → HasText value name.now text → ⊥) × IsTrue (is_text_at place name.now)
HasFlaw tree place value (flaw.NotArray name) =
    ((items : Items) → get name.now value ≡ Some (array items) → ⊥)
    × IsTrue (is_array_at place name.now)
HasFlaw tree place value (flaw.NotNumber name) = IsSome (get name.now value)
    × ((n : ℕ) → get name.now value ≡ Some (json.number (json.unsigned n)) → ⊥) × AreNumbersAt place
HasFlaw tree place value (flaw.BadFloorName name why) = IsSome (get name.now value)
    × AreNumbersAt place × RefusesDomain name.now why × (why ≢ name_error.NoMemory)
HasFlaw tree place value (flaw.UnknownDomain name) = IsSome (get name.now value)
    × AreNumbersAt place × ((w : Written) → SaysWritten tree w → NamesDomain w name.now → ⊥)
HasFlaw tree place value (flaw.BadDomain text why) = HasText value (codes "domain") text.now
    × RefusesDomain text.now why × (why ≢ name_error.NoMemory)
HasFlaw tree place value (flaw.BadEndpoint text why) = HasText value (codes "endpoint") text.now
    × RefusesId text.now why × (why ≢ name_error.NoMemory)
HasFlaw tree place value (flaw.BadUrl why) = (text : List ℕ) × HasText value (codes "url") text
    × IsUrlFlaw text why
HasFlaw tree place value (flaw.OtherProfile text) = HasText value (codes "profile") text.now
    × (text.now ≢ codes "https_spiffe")
HasFlaw tree place value (flaw.SameDomain text earlier) = HasText value (codes "domain") text.now
    × IsAfter earlier place × HasDomainOf tree earlier text.now
HasFlaw tree place value (flaw.BadBundle why) = (bundle : Data)
    × (get (codes "bundle") value ≡ Some bundle) × RefusesTree bundle why
    × (why ≢ doc_error.NoMemory)
HasFlaw tree place value (flaw.BelowFloor rank floor) = HasFloorOf tree value floor
    × HasSequence value (Some rank) × (rank < floor)
HasFlaw tree place value (flaw.NoSequence floor) = HasFloorOf tree value floor
    × HasSequence value None

-- the cause with which a configuration that has the flaw is refused, if no other cause goes before
abbrev pub cause_of_flaw : Flaw → ConfigError
cause_of_flaw flaw.NotObject = Shape
cause_of_flaw (flaw.UnknownMember name) = Shape
cause_of_flaw (flaw.MissingMember name) = Shape
cause_of_flaw (flaw.NotText name) = Shape
cause_of_flaw (flaw.NotArray name) = Shape
cause_of_flaw (flaw.NotNumber name) = Shape
cause_of_flaw (flaw.BadFloorName name why) = BadName
cause_of_flaw (flaw.UnknownDomain name) = BadName
cause_of_flaw (flaw.BadDomain text why) = BadName
cause_of_flaw (flaw.BadEndpoint text why) = BadName
cause_of_flaw (flaw.BadUrl why) = BadUrl
cause_of_flaw (flaw.OtherProfile text) = BadProfile
cause_of_flaw (flaw.SameDomain text earlier) = DoubleRelationship
cause_of_flaw (flaw.BadBundle why) = BadSeed
cause_of_flaw (flaw.BelowFloor rank floor) = BadSeed
cause_of_flaw (flaw.NoSequence floor) = BadSeed

-- what is at the place has the flaw, whatever else the configuration has, and the flaw is of this
-- cause
abbrev pub IsFlawOf : ConfigError → FlawPlace → Data → Flaw → Type 0
IsFlawOf cause place value f = ((tree : Data) → HasFlaw tree place value f)
    × (cause_of_flaw f ≡ cause)

-- the named flaw really is there, and is of this cause
pub record IsFoundFlaw (tree : Data) (cause : ConfigError) (found : FoundFlaw) : Type 0 where
  pub part : Data
  pub placed : part_of tree found.place ≡ Some part
  pub flaw : HasFlaw tree found.place part found.flaw
  pub of_cause : cause_of_flaw found.flaw ≡ cause

-- ---- bundles

-- the element of `keys` with this number, from 0, says no authority: it counts for nothing
abbrev pub IsIgnored : Data → ℕ → Type 0
IsIgnored bundle number = (element : Data)
    × (option_and_then (at number) (get (codes "keys") bundle) ≡ Some element)
    × ((authority : Authority) → IsElement element authority → ⊥)

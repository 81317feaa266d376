-- Configurations, texts that are not configurations, and canonical texts, said of the definitions:
-- a slip in one of these does not check.
use Rattle.std.proofs.Common.{◌≡◌, ℕ, List, [], ◌∷◌, inl, inr, length, None, Some, Result, Ok, Err, codes, refl, sym, ap, ◌∙◌, Less, Greater, arith, lit≤}
use Rattle.url.specs.Parts.{Parts}
use Rattle.url.specs.Parser.{parse_url}
use Rattle.url.specs.declared.error.ParseError.{ParseError}
use Rattle.url.specs.declared.host.Host.TheVariants.{Domain}
use Rattle.url.proofs.OnLiterals.{url_on_literals}
use Rattle.json.specs.Print.{escape_byte}
use Rattle.serde_json.specs.Data.{Data, string, array, object, no_items, no_members, member}
use Rattle.bundle_doc.specs.Bundle.{Bundle}
use Rattle.fed_config.specs.Configuration.{Configuration, AreDomains, config_text, seed_cmp}
use Rattle.fed_config.specs.EndpointUrl.{IsParsed}
use Rattle.fed_config.specs.Reading.{HasFew, IsMeant, IsProfile, earlier}
use Rattle.fed_config.specs.Written.{RelationshipText, SaysRelationshipText, SaysWritten, Written}
use Rattle.fed_config.specs.declared.error.ConfigError.TheVariants.{BadProfile, DoubleRelationship, BadSeed, BadName, BadUrl}
use Rattle.fed_config.specs.declared.relationship.Relationship.{Relationship}
use Rattle.fed_config.specs.declared.seed.Seed.{Seed}
use Rattle.fed_config.specs.Limits.{usual_limits}

-- ---- canonical texts

-- the configuration that says nothing
abbrev nothing : Configuration
nothing = record { relationships = []; seeds = []; floors = []; limits = usual_limits }

-- its canonical text has two empty arrays
pub text_of_nothing : config_text nothing ≡ codes "{\"relationships\":[],\"seeds\":[]}"
unfolding config_text escape_byte
text_of_nothing = refl

-- a relationship of a domain with an endpoint of its own
abbrev relationship : Relationship
relationship = record {
  domain = codes "a.example";
  endpoint = record { text = codes "spiffe://a.example/bundle"; domain = codes "a.example"; path = codes "/bundle" };
  url = codes "https://bundles.a.example/";
}

-- a seed of that domain without authorities and numbers
abbrev seed : Seed
seed = record { domain = codes "a.example"; document = record { authorities = []; rank = None; hint = None } }

-- the canonical text of both has the members in the order of their names, with no space
pub text_of_both : config_text (record { relationships = relationship ∷ []; seeds = seed ∷ []; floors = []; limits = usual_limits })
    ≡ codes "{\"relationships\":[{\"domain\":\"a.example\",\"endpoint\":\"spiffe://a.example/bundle\",\"profile\":\"https_spiffe\",\"url\":\"https://bundles.a.example/\"}],\"seeds\":[{\"bundle\":{\"keys\":[]},\"domain\":\"a.example\"}]}"
unfolding config_text escape_byte
text_of_both = refl

-- ---- what is written

-- an object with the four members of a relationship
abbrev texts : Data
texts = object (member (codes "domain") (string (codes "a"))
    (member (codes "endpoint") (string (codes "b"))
    (member (codes "profile") (string (codes "c")) (member (codes "url") (string (codes "d")) no_members))))

-- it says the texts of a relationship
pub says_texts : SaysRelationshipText texts (record { domain = codes "a"; endpoint = codes "b"; profile = codes "c"; url = codes "d" })
says_texts = record { count = (_, refl, refl); domain = refl; endpoint = refl; profile = refl; url = refl }

-- an object with one member more is not a relationship
pub more : (t : RelationshipText)
    → SaysRelationshipText
    (object (member (codes "a") (string [])
    (member (codes "domain") (string [])
    (member (codes "endpoint") (string [])
    (member (codes "profile") (string []) (member (codes "url") (string []) no_members)))))) t → ⊥
more t h = let same = h.count.1 in let five = h.count.2 in cc

-- an object without the URL is not a relationship
pub fewer : (t : RelationshipText)
    → SaysRelationshipText
    (object (member (codes "domain") (string [])
    (member (codes "endpoint") (string [])
    (member (codes "name") (string []) (member (codes "profile") (string []) no_members))))) t → ⊥
fewer t h = let none = h.url in cc

-- an array is not a configuration
pub no_array : (w : Written) → SaysWritten (array no_items) w → ⊥
no_array w h = elim h.floors [ inl two ↦ (let none = two.0.1 in cc) | inr three ↦ (let none = three.0.1 in cc) ]

-- ---- causes

-- the profile `https_web` is not the one that is read
pub another_profile : IsProfile (codes "https_web") → ⊥
another_profile h = cc

-- a bad seed is refused after names, URLs, profiles and second relationships
pub before_seeds : earlier BadSeed ≡ BadName ∷ BadUrl ∷ BadProfile ∷ DoubleRelationship ∷ []
before_seeds = refl

-- a second relationship is refused after names, URLs and profiles
pub before_doubles : earlier DoubleRelationship ≡ BadName ∷ BadUrl ∷ BadProfile ∷ []
before_doubles = refl

-- ---- the order of seeds

-- a bundle with a sequence number
abbrev first_bundle : Bundle
first_bundle = record { authorities = []; rank = Some 1; hint = None }

-- seeds are ordered by their domains first
pub by_domain : seed_cmp seed (record { domain = codes "b.example"; document = first_bundle }) ≡ Less
by_domain = refl

-- seeds of one domain are ordered by their texts; one with no sequence number ends sooner, and `}`
-- is above `,`
pub by_text : seed_cmp seed (record { domain = codes "a.example"; document = first_bundle }) ≡ Greater
unfolding escape_byte
by_text = refl

-- ---- URLs of endpoints

-- what the URL Standard reads in a text: the scheme, the user name and the password
abbrev read_of : Result Parts ParseError → List ℕ × List ℕ × List ℕ
read_of (Ok parts) = (parts.scheme, parts.username, parts.password)
read_of (Err e) = ([], [], [])

-- an endpoint's URL has the scheme https, and neither a user name nor a password
read_of_endpoint : (text : List ℕ) (parts : Parts) → IsParsed text parts → read_of (parse_url None text) ≡ (codes "https", [], [])
read_of_endpoint text parts h = ap read_of h.parses ∙ (λ i. (h.scheme i, h.username i, h.password i))

-- the parts of the URL in the first example
abbrev endpoint_url : Parts
endpoint_url = record {
  scheme = codes "https";
  username = [];
  password = [];
  host = Some (Domain (codes "a.b"));
  port = Some 8443;
  path = codes "/x";
  query = None;
  fragment = None;
}

-- A port, a path and capital letters are read.
pub with_a_port : IsParsed (codes "HTTPS://A.b:8443/x") endpoint_url
unfolding url_on_literals
with_a_port = record { limit = lit≤ tt; parses = refl; scheme = refl; username = refl; password = refl }

-- What is read of a URL with the scheme http: its scheme is not that of an endpoint.
read_of_http : read_of (parse_url None (codes "http://a.b/x")) ≡ (codes "http", [], [])
unfolding url_on_literals
read_of_http = refl

-- So it is refused.
pub with_another_scheme : (parts : Parts) → IsParsed (codes "http://a.b/x") parts → ⊥
with_another_scheme parts h =
    let e = ap (λ (p : List ℕ × List ℕ × List ℕ). length p.0) (sym read_of_http ∙ read_of_endpoint (codes "http://a.b/x") parts h) in omega (arith, e)

-- What is read of a URL with a user name.
read_of_user : read_of (parse_url None (codes "https://u@a.b/x")) ≡ (codes "https", codes "u", [])
unfolding url_on_literals
read_of_user = refl

-- So it is refused.
pub with_a_user : (parts : Parts) → IsParsed (codes "https://u@a.b/x") parts → ⊥
with_a_user parts h =
    let e = ap (λ (p : List ℕ × List ℕ × List ℕ). length p.1) (sym read_of_user ∙ read_of_endpoint (codes "https://u@a.b/x") parts h) in omega (arith, e)

-- What is read of a URL with a password and no user name.
read_of_password : read_of (parse_url None (codes "https://:p@a.b/x")) ≡ (codes "https", [], codes "p")
unfolding url_on_literals
read_of_password = refl

-- So it is refused.
pub with_a_password : (parts : Parts) → IsParsed (codes "https://:p@a.b/x") parts → ⊥
with_a_password parts h =
    let e = ap (λ (p : List ℕ × List ℕ × List ℕ). length p.2) (sym read_of_password ∙ read_of_endpoint (codes "https://:p@a.b/x") parts h) in
    omega (arith, e)

-- One byte more than the limit of 2,048 is refused, whatever the text says.
pub longer_text : (text : List ℕ) (parts : Parts) → length text ≡ 2049 → IsParsed text parts → ⊥
longer_text text parts e h = omega (arith, e, h.limit)

-- ---- how many there may be

-- 1,024 relationships, 4,096 seeds and 1,024 domains are not too many.
pub most : (w : Written) → length w.relationships ≡ 1024 → length w.seeds ≡ 4096
    → ((c : Configuration) (domains : List (List ℕ)) → IsMeant w c → AreDomains c domains → length domains ≡ 1024) → HasFew w
most w r s d = record {
  relationships = omega (arith, r);
  seeds = omega (arith, s);
  domains = λ c domains meant are. let e = d c domains meant are in omega (arith, e);
}

-- 1,025 relationships are.
pub one_relationship_more : (w : Written) → length w.relationships ≡ 1025 → HasFew w → ⊥
one_relationship_more w e h = omega (arith, e, h.relationships)

-- So are 4,097 seeds.
pub one_seed_more : (w : Written) → length w.seeds ≡ 4097 → HasFew w → ⊥
one_seed_more w e h = omega (arith, e, h.seeds)

-- So are 1,025 domains.
pub one_domain_more : (w : Written) (c : Configuration) (domains : List (List ℕ)) → IsMeant w c → AreDomains c domains → length domains ≡ 1025
    → HasFew w → ⊥
one_domain_more w c domains meant are e h = let few = h.domains c domains meant are in omega (arith, e, few)

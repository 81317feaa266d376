-- What a configuration says, as one JSON object
use Rattle.std.specs.Prelude.{◌≡◌, ℕ, List, [], ◌∷◌, ◌++◌, map, codes, Some}
use Rattle.bundle_doc.specs.Bundle.{doc_id_of}
use Rattle.fed_config.specs.Configuration.{Configuration, AreDomains, config_id_of}
use Rattle.fed_config.specs.declared.floor.Floor.{Floor}
use Rattle.fed_config.specs.declared.relationship.Relationship.{Relationship}
use Rattle.fed_config.specs.declared.seed.Seed.{Seed}
use Rattle.json_text.specs.JsonText.{array_member, digest_member, number_member, string_member}

abbrev pub relationship_json : Relationship → List ℕ
relationship_json r = string_member (codes "{\"domain\":") r.domain
    ++ (string_member (codes ",\"endpoint\":") r.endpoint.text
    ++ (string_member (codes ",\"url\":") r.url ++ codes "}"))

abbrev pub name_json : List ℕ → List ℕ
name_json domain = string_member [] domain

abbrev pub seed_json : Seed → List ℕ
seed_json s = string_member (codes "{\"domain\":") s.domain
    ++ (digest_member (codes ",\"document\":") (doc_id_of s.domain s.document)
    ++ (number_member (codes ",\"sequence\":") s.document.rank ++ codes "}"))

unfoldable pub relationships_part : List ℕ → List (List ℕ) → List ℕ
relationships_part digest relationships = digest_member (codes "{\"config\":") digest
    ++ array_member (codes ",\"relationships\":") relationships

abbrev pub floor_json : Floor → List ℕ
floor_json f = string_member (codes "{\"domain\":") f.domain
    ++ (number_member (codes ",\"sequence\":") (Some f.sequence) ++ codes "}")

-- if there are no floors there is no member for them
abbrev pub floors_part : List (List ℕ) → List ℕ
floors_part [] = []
floors_part (floor ∷ floors) = array_member (codes ",\"floors\":") (floor ∷ floors)

unfoldable pub seeds_part : (domains seeds floors : List (List ℕ)) → List ℕ
seeds_part domains seeds floors = array_member (codes ",\"domains\":") domains
    ++ (array_member (codes ",\"seeds\":") seeds ++ (floors_part floors ++ codes "}\n"))

abbrev pub config_json : Configuration → List (List ℕ) → List ℕ
config_json c domains =
    relationships_part (config_id_of c) (map relationship_json c.relationships)
    ++ seeds_part (map name_json domains) (map seed_json c.seeds) (map floor_json c.floors)

-- the digest, the relationships, all domains, the seeds and the floors, each list sorted, and a
-- line feed
pub record IsConfigJson (c : Configuration) (text : List ℕ) : Type 0 where
  pub domains : List (List ℕ)
  pub are_domains : AreDomains c domains
  pub is : text ≡ config_json c domains

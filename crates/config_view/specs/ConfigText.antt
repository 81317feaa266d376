-- What a configuration says, as lines that an operator reads and compares
use Rattle.std.specs.Prelude.{◌≡◌, ℕ, List, [], ◌∷◌, ◌++◌, map, codes, decimal}
use Rattle.hex.specs.Hex.{encode_lower}
use Rattle.bundle_doc.specs.Bundle.{doc_id_of}
use Rattle.fed_config.specs.Configuration.{Configuration, AreDomains, config_id_of}
use Rattle.fed_config.specs.declared.floor.Floor.{Floor}
use Rattle.fed_config.specs.declared.relationship.Relationship.{Relationship}
use Rattle.fed_config.specs.declared.seed.Seed.{Seed}
use Rattle.text_lines.specs.TextLines.{joined_lines, difference_text, number_or_none}

-- ---- lines, without their line feeds

abbrev pub config_line : Configuration → List ℕ
config_line c = codes "config " ++ encode_lower (config_id_of c)

abbrev pub relationship_line : Relationship → List ℕ
relationship_line r = codes "relationship "
    ++ (r.domain ++ (codes " endpoint " ++ (r.endpoint.text ++ (codes " url " ++ r.url))))

abbrev pub domain_line : List ℕ → List ℕ
domain_line domain = codes "domain " ++ domain

abbrev pub seed_line : Seed → List ℕ
seed_line s = codes "seed "
    ++ (s.domain
    ++ (codes " document "
    ++ (encode_lower (doc_id_of s.domain s.document)
    ++ (codes " sequence " ++ number_or_none s.document.rank))))

abbrev pub floor_line : Floor → List ℕ
floor_line f = codes "floor " ++ (f.domain ++ (codes " sequence " ++ decimal f.sequence))

-- ---- the whole

abbrev pub config_lines : Configuration → List (List ℕ) → List (List ℕ)
config_lines c domains = config_line c
    ∷ (map relationship_line c.relationships
    ++ (map domain_line domains ++ (map seed_line c.seeds ++ map floor_line c.floors)))

-- the digest, the relationships, all domains, the seeds and the floors, each list sorted
pub record AreConfigLines (c : Configuration) (lines : List (List ℕ)) : Type 0 where
  pub domains : List (List ℕ)
  pub are_domains : AreDomains c domains
  pub are : lines ≡ config_lines c domains

-- the text of these lines
pub record IsConfigText (c : Configuration) (text : List ℕ) : Type 0 where
  pub lines : List (List ℕ)
  pub are : AreConfigLines c lines
  pub is : text ≡ joined_lines lines

-- the lines that only the one has, and those that only the other has
pub record IsConfigDifference (one other : Configuration) (text : List ℕ) : Type 0 where
  pub lines : List (List ℕ)
  pub are : AreConfigLines one lines
  pub others : List (List ℕ)
  pub are_others : AreConfigLines other others
  pub is : text ≡ difference_text lines others

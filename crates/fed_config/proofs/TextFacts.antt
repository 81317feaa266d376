-- The canonical text, part after part.
use Rattle.std.proofs.Common.{◌≡◌, ℕ, ◌+◌, ◌<◌, ◌≤◌, List, [], ◌∷◌, ◌++◌, length, get_or, drop, map, codes, Bool, true, false, refl, sym, ap, ◌∙◌, append_assoc}
use Rattle.std.proofs.Common.{decimal}
use Rattle.std.proofs.lemmas.List.{drop_more, drop_all}
use Rattle.json.specs.Print.{quoted, escape_byte}
use Rattle.serde_json.specs.Data.{Data}
use Rattle.serde_json.specs.View.{items_of}
use Rattle.serde_json.specs.Written.{comma_if, compact_text, items_text, members_text}
use Rattle.bundle_doc.specs.Bundle.{canonical_text}
use Rattle.fed_config.specs.Configuration.{Configuration, config_text, floor_members, relationship_tree, seed_tree}
use Rattle.fed_config.specs.Inside.FloorsText.{floors_text}
use Rattle.fed_config.specs.declared.floor.Floor.{Floor}
use Rattle.fed_config.specs.declared.relationship.Relationship.{Relationship}
use Rattle.fed_config.specs.declared.seed.Seed.{Seed}
use Rattle.fed_config.specs.Limits.{usual_limits}

-- the text of a relationship, in the parts that the code writes
pub relationship_text : (r : Relationship) → compact_text (relationship_tree r)
    ≡ codes "{\"domain\":" ++
    (quoted r.domain ++ (codes ",\"endpoint\":" ++
    (quoted r.endpoint.text ++ (codes ",\"profile\":\"https_spiffe\",\"url\":" ++ (quoted r.url ++ codes "}")))))
unfolding escape_byte
relationship_text r = refl

-- the text of a seed, in the parts that the code writes
pub seed_text : (s : Seed) → compact_text (seed_tree s)
    ≡ codes "{\"bundle\":" ++ (canonical_text s.document ++ (codes ",\"domain\":" ++ (quoted s.domain ++ codes "}")))
unfolding escape_byte
seed_text s = refl

-- a configuration from its parts
abbrev pub config_of : List Relationship → List Seed → List Floor → Configuration
config_of relationships seeds floors = record { relationships = relationships; seeds = seeds; floors = floors; limits = usual_limits }

-- the members after the floors, and the closing bracket
abbrev pub sets_text : List Relationship → List Seed → List ℕ
sets_text rs ss =
    codes "\"relationships\":[" ++
    (items_text false (items_of (map relationship_tree rs)) ++
    (codes ",\"seeds\":[" ++ (items_text false (items_of (map seed_tree ss)) ++ codes "}")))

-- the canonical text of a configuration, in the parts that the code writes
pub config_parts : (rs : List Relationship) (ss : List Seed) (floors : List Floor)
    → config_text (config_of rs ss floors) ≡ codes "{" ++ (floors_text floors ++ sets_text rs ss)
unfolding config_text escape_byte
config_parts rs ss [] = refl
config_parts rs ss (f ∷ floors) =
    sym (ap (λ t. codes "{\"floors\":{" ++ t) (append_assoc (members_text false (floor_members (f ∷ floors))) (codes ",") (sets_text rs ss)))

-- five parts written one after another are one text of these parts
pub five : (out a b c d e : List ℕ) → ((((out ++ a) ++ b) ++ c) ++ d) ++ e ≡ out ++ (a ++ (b ++ (c ++ (d ++ e))))
five out a b c d e = simp append_assoc

-- the same for seven parts
pub seven : (out a b c d e f g : List ℕ) → ((((((out ++ a) ++ b) ++ c) ++ d) ++ e) ++ f) ++ g ≡ out ++ (a ++ (b ++ (c ++ (d ++ (e ++ (f ++ g))))))
seven out a b c d e f g = simp append_assoc

module _ {X : Type 0} (tree : X → Data) where
  -- one more element of an array was written: the step of the loops that write them
  pub items_next : (xs : List X) (i : ℕ) (x : X) (out : List ℕ) (later : Bool) → i < length xs → x ≡ get_or xs i x
      → out ++ items_text later (items_of (map tree (drop i xs)))
      ≡ ((out ++ comma_if later) ++ compact_text (tree x)) ++ items_text true
      (items_of (map tree (drop (i + 1) xs)))
  items_next xs i x out later below at =
      let rest = items_text true (items_of (map tree (drop (i + 1) xs))) in
      ap (λ l. out ++ items_text later (items_of (map tree l))) (drop_more xs i x below ∙ ap (λ y. y ∷ drop (i + 1) xs) (sym at))
      ∙ sym (append_assoc (out ++ comma_if later) (compact_text (tree x)) rest ∙ append_assoc out (comma_if later) (compact_text (tree x) ++ rest))

  -- after the last element only the closing bracket is left
  pub items_end : (xs : List X) (i : ℕ) (out : List ℕ) (later : Bool) → length xs ≤ i
      → out ++ items_text later (items_of (map tree (drop i xs))) ≡ out ++ 93 ∷ []
  items_end xs i out later past = ap (λ l. out ++ items_text later (items_of (map tree l))) (drop_all i xs past)

-- one more floor was written: the step of the loop that writes them
pub floors_next : (fs : List Floor) (i : ℕ) (f : Floor) (out : List ℕ) (later : Bool) → i < length fs → f ≡ get_or fs i f
    → out ++ members_text later (floor_members (drop i fs))
    ≡ ((((out ++ comma_if later) ++ quoted f.domain) ++ 58 ∷ []) ++ decimal f.sequence) ++ members_text true (floor_members (drop (i + 1) fs))
floors_next fs i f out later below at =
    let rest = members_text true (floor_members (drop (i + 1) fs)) in
    ap (λ l. out ++ members_text later (floor_members l)) (drop_more fs i f below ∙ ap (λ y. y ∷ drop (i + 1) fs) (sym at))
    ∙ sym (five out (comma_if later) (quoted f.domain) (58 ∷ []) (decimal f.sequence) rest)

-- after the last floor only the closing bracket is left
pub floors_end : (fs : List Floor) (i : ℕ) (out : List ℕ) (later : Bool) → length fs ≤ i
    → out ++ members_text later (floor_members (drop i fs)) ≡ out ++ 125 ∷ []
floors_end fs i out later past = ap (λ l. out ++ members_text later (floor_members l)) (drop_all i fs past)

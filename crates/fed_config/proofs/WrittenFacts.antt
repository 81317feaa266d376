-- What an object of the right shape says.
use Rattle.std.proofs.Common.{◌≡◌, ℕ, inl, inr, List, [], ◌∷◌, map, codes, Some, refl, sym, ap₂, ◌∙◌, subst}
use Rattle.std.specs.List.{AllZip}
use Rattle.serde_json.specs.Data.{Data, array}
use Rattle.serde_json.specs.View.{items_of, view}
use Rattle.serde_json.specs.declared.value.Value.{Value}
use Rattle.fed_config.specs.Written.{RelationshipText, SeedText, Written, HasArray, SaysFloors, SaysRelationshipText, SaysSeedText, SaysWritten}
use Rattle.fed_config.specs.Inside.Entries.{seed_text}
use Rattle.fed_config.specs.Reading.{Fails}
use Rattle.fed_config.specs.declared.error.ConfigError.{ConfigError}
use Rattle.fed_config.specs.declared.error.ConfigError.TheVariants.{Shape}
use Rattle.fed_config.specs.declared.floor.Floor.{Floor}
use Rattle.fed_config.specs.declared.written.SeedEntry.{SeedEntry}
use Rattle.fed_config.proofs.ZipFacts.{zip_map, zip_unmap, zip_map_right}

-- items come from one list at most
one_items : (xs ys : List Data) → items_of xs ≡ items_of ys → xs ≡ ys
one_items [] [] e = refl
one_items [] (y ∷ ys) e = absurd (cc)
one_items (x ∷ xs) [] e = absurd (cc)
one_items (x ∷ xs) (y ∷ ys) e = let first : x ≡ y = cc in let rest : items_of xs ≡ items_of ys = cc in ap₂ (λ z l. z ∷ l) first (one_items xs ys rest)

-- a value has one array at most under a name
pub one_array : (tree : Data) (name : List ℕ) (xs ys : List Data) → HasArray tree name xs → HasArray tree name ys → xs ≡ ys
one_array tree name xs ys p q =
    let both : Some (array (items_of xs)) ≡ Some (array (items_of ys)) = sym p ∙ q in
    let same : items_of xs ≡ items_of ys = cc in one_items xs ys same

-- the value says some configuration's texts
abbrev SomeWritten : Data → Type 0
SomeWritten tree = (w : Written) × SaysWritten tree w

-- what fails for the lack of one property fails for the lack of a stronger one
pub narrower : (P Q : Type 0) (e : ConfigError) → (Q → P) → Fails Shape P e → Fails Shape Q e
narrower P Q e go (inl is) = inl is
narrower P Q e go (inr f) = inr (f.0, λ q. f.1 (go q))

-- if the value says some texts, the elements of its first array say relationships
pub relationships_of : (tree : Data) (values : List Value) → HasArray tree (codes "relationships") (map view values)
    → SomeWritten tree → (ts : List RelationshipText)
    × AllZip (λ value t. SaysRelationshipText (view value) t) values ts
relationships_of tree values has h =
    let w = h.0 in let says : SaysWritten tree w = h.1 in (
      w.relationships,
      zip_unmap SaysRelationshipText view values w.relationships
          (subst (λ l. AllZip SaysRelationshipText l w.relationships)
          (one_array tree (codes "relationships") says.relationships (map view values) says.has_relationships has)
          says.each_relationship),
    )

-- if the value says some texts, the elements of its second array say seeds
pub seeds_of : (tree : Data) (values : List Value) → HasArray tree (codes "seeds") (map view values) → SomeWritten tree
    → (ts : List SeedText) × AllZip (λ value t. SaysSeedText (view value) t) values ts
seeds_of tree values has h =
    let w = h.0 in let says : SaysWritten tree w = h.1 in (
      w.seeds,
      zip_unmap SaysSeedText view values w.seeds
          (subst (λ l. AllZip SaysSeedText l w.seeds)
          (one_array tree (codes "seeds") says.seeds (map view values) says.has_seeds has) says.each_seed),
    )

-- the parts that were read one after another are what the value says
pub says : (tree : Data) (values others : List Value) (ts : List RelationshipText) (es : List SeedEntry) (fs : List Floor)
    → SaysFloors tree fs → HasArray tree (codes "relationships") (map view values)
    → HasArray tree (codes "seeds") (map view others)
    → AllZip (λ value t. SaysRelationshipText (view value) t) values ts
    → AllZip (λ value e. SaysSeedText (view value) (seed_text e)) others es
    → SaysWritten tree (record { relationships = ts; seeds = map seed_text es; floors = fs })
says tree values others ts es fs floors has has_seeds zip zip_seeds = record {
  floors = floors;
  relationships = map view values;
  has_relationships = has;
  each_relationship = zip_map SaysRelationshipText view values ts zip;
  seeds = map view others;
  has_seeds = has_seeds;
  each_seed = zip_map_right SaysSeedText seed_text (map view others) es (zip_map (λ d e. SaysSeedText d (seed_text e)) view others es zip_seeds);
}

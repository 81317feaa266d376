-- From what is written in a value to the bytes.
use Rattle.std.proofs.Common.{◌≡◌, ℕ, ◌<◌, List, [], ◌∷◌, length, inl, inr, Some, None, Result, Ok, Err, refl, sym, ◌∙◌, subst, arith}
use Rattle.std.specs.Result.{MatchResult}
use Rattle.std.specs.Str.{IsUtf8}
use Rattle.serde_json.specs.Data.{Data}
use Rattle.serde_json.specs.Read.{read}
use Rattle.serde_json.proofs.OnLiterals.{serde_json_on_literals}
use Rattle.jwk_set.specs.Json.{IsJson}
use Rattle.fed_config.specs.Written.{Written, SaysWritten, IsText}
use Rattle.fed_config.specs.Configuration.{Configuration}
use Rattle.fed_config.specs.Reading.{Fails, IsConfig, IsRead, RefusesConfigBytes, RefusesRead}
use Rattle.fed_config.specs.declared.error.ConfigError.{ConfigError}
use Rattle.fed_config.specs.declared.error.ConfigError.TheVariants.{NotJson, Shape, BadName, BadUrl, BadProfile, DoubleRelationship, BadSeed, TooMany, NoMemory}

-- the empty text is not a JSON text
none_of_nothing : read [] ≡ None
unfolding serde_json_on_literals
none_of_nothing = refl

-- a text of a value is not empty
some_bytes : (bytes : List ℕ) (tree : Data) → IsJson bytes tree → 0 < length bytes
some_bytes [] tree json = let both : Some tree ≡ None = sym json.1 ∙ none_of_nothing in absurd (cc)
some_bytes (b ∷ bytes) tree json = omega arith

-- UTF-8 bytes that read as a value are a JSON text of it
pub json_of : (bytes text : List ℕ) (tree : Data) → IsUtf8 bytes → text ≡ bytes → read text ≡ Some tree → IsJson bytes tree
json_of bytes text tree utf8 same found = (utf8, subst (λ t. read t ≡ Some tree) same found)

-- if a value lacks the shape of a configuration, or memory ran out over it, its bytes are refused
pub shape_exit : (bytes : List ℕ) (tree : Data) (e : ConfigError) → IsJson bytes tree
    → Fails Shape ((w : Written) × SaysWritten tree w) e → RefusesConfigBytes bytes e
shape_exit bytes tree e json (inl is) = subst (RefusesConfigBytes bytes) (sym is) (json.0, some_bytes bytes tree json)
shape_exit bytes tree e json (inr f) = subst (RefusesConfigBytes bytes) (sym f.0) (tree, json, λ w h. f.1 (w, h))

-- a refusal of what is written refuses the bytes that it is written in
refuses : (bytes : List ℕ) (w : Written) (e : ConfigError) → IsText bytes w → RefusesRead w e → RefusesConfigBytes bytes e
refuses bytes w NotJson text h = absurd h
refuses bytes w Shape text h = absurd h
refuses bytes w BadName text h = (w, text, h)
refuses bytes w BadUrl text h = (w, text, h)
refuses bytes w BadProfile text h = (w, text, h)
refuses bytes w DoubleRelationship text h = (w, text, h)
refuses bytes w BadSeed text h = (w, text, h)
refuses bytes w TooMany text h = (w, text, h)
refuses bytes w NoMemory text h = (text.json.0, some_bytes bytes text.tree text.json)

-- what `from_entries` returns of what is written is what `read` returns of the bytes
pub read_exit : (bytes : List ℕ) (tree : Data) (w : Written) (r : Result Configuration ConfigError) → IsJson bytes tree
    → SaysWritten tree w → MatchResult r (IsRead w) (RefusesRead w)
    → MatchResult r (IsConfig bytes) (RefusesConfigBytes bytes)
read_exit bytes tree w (Ok c) json says h = record {
  written = w;
  text = record { tree = tree; json = json; says = says };
  meant = h.meant;
  single = h.single;
  few_relationships = h.few_relationships;
  few_seeds = h.few_seeds;
  is = h.is;
}
read_exit bytes tree w (Err e) json says h = refuses bytes w e (record { tree = tree; json = json; says = says }) h

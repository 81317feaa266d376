-- A text is refused for one cause.
use Rattle.std.proofs.Common.{◌≡◌, ℕ, ◌⊎◌, inl, inr, List, Some, refl, sym, ◌∙◌, subst}
use Rattle.serde_json.specs.Data.{Data}
use Rattle.jwk_set.specs.Json.{IsJson}
use Rattle.fed_config.specs.Written.{Written, SaysWritten}
use Rattle.fed_config.specs.Reading.{RefusesConfigBytes, RefusesConfigText, RefusesWritten}
use Rattle.fed_config.specs.declared.error.ConfigError.{ConfigError}
use Rattle.fed_config.specs.declared.error.ConfigError.TheVariants.{NotJson, Shape, BadName, BadUrl, BadProfile, DoubleRelationship, BadSeed, TooMany, NoMemory}
use Rattle.fed_config.proofs.MeaningFacts.{same_written}

-- what is refused for a later cause passed the tests of the earlier ones, so what is written has
-- one cause at most
one_written_cause : (w : Written) (d e : ConfigError) → RefusesWritten w d → RefusesWritten w e → d ≡ e
one_written_cause w NotJson e p q = absurd (p.failed tt)
one_written_cause w Shape e p q = absurd (p.failed tt)
one_written_cause w NoMemory e p q = absurd (p.failed tt)
one_written_cause w d NotJson p q = absurd (q.failed tt)
one_written_cause w d Shape p q = absurd (q.failed tt)
one_written_cause w d NoMemory p q = absurd (q.failed tt)
one_written_cause w BadName BadName p q = refl
one_written_cause w BadName BadUrl p q = absurd (p.failed q.passed.0)
one_written_cause w BadName BadProfile p q = absurd (p.failed q.passed.0)
one_written_cause w BadName DoubleRelationship p q = absurd (p.failed q.passed.0)
one_written_cause w BadName BadSeed p q = absurd (p.failed q.passed.0)
one_written_cause w BadName TooMany p q = absurd (p.failed q.passed.0)
one_written_cause w BadUrl BadName p q = absurd (q.failed p.passed.0)
one_written_cause w BadUrl BadUrl p q = refl
one_written_cause w BadUrl BadProfile p q = absurd (p.failed q.passed.1.0)
one_written_cause w BadUrl DoubleRelationship p q = absurd (p.failed q.passed.1.0)
one_written_cause w BadUrl BadSeed p q = absurd (p.failed q.passed.1.0)
one_written_cause w BadUrl TooMany p q = absurd (p.failed q.passed.1.0)
one_written_cause w BadProfile BadName p q = absurd (q.failed p.passed.0)
one_written_cause w BadProfile BadUrl p q = absurd (q.failed p.passed.1.0)
one_written_cause w BadProfile BadProfile p q = refl
one_written_cause w BadProfile DoubleRelationship p q = absurd (p.failed q.passed.1.1.0)
one_written_cause w BadProfile BadSeed p q = absurd (p.failed q.passed.1.1.0)
one_written_cause w BadProfile TooMany p q = absurd (p.failed q.passed.1.1.0)
one_written_cause w DoubleRelationship BadName p q = absurd (q.failed p.passed.0)
one_written_cause w DoubleRelationship BadUrl p q = absurd (q.failed p.passed.1.0)
one_written_cause w DoubleRelationship BadProfile p q = absurd (q.failed p.passed.1.1.0)
one_written_cause w DoubleRelationship DoubleRelationship p q = refl
one_written_cause w DoubleRelationship BadSeed p q = absurd (p.failed q.passed.1.1.1.0)
one_written_cause w DoubleRelationship TooMany p q = absurd (p.failed q.passed.1.1.1.0)
one_written_cause w BadSeed BadName p q = absurd (q.failed p.passed.0)
one_written_cause w BadSeed BadUrl p q = absurd (q.failed p.passed.1.0)
one_written_cause w BadSeed BadProfile p q = absurd (q.failed p.passed.1.1.0)
one_written_cause w BadSeed DoubleRelationship p q = absurd (q.failed p.passed.1.1.1.0)
one_written_cause w BadSeed BadSeed p q = refl
one_written_cause w BadSeed TooMany p q = absurd (p.failed q.passed.1.1.1.1.0)
one_written_cause w TooMany BadName p q = absurd (q.failed p.passed.0)
one_written_cause w TooMany BadUrl p q = absurd (q.failed p.passed.1.0)
one_written_cause w TooMany BadProfile p q = absurd (q.failed p.passed.1.1.0)
one_written_cause w TooMany DoubleRelationship p q = absurd (q.failed p.passed.1.1.1.0)
one_written_cause w TooMany BadSeed p q = absurd (q.failed p.passed.1.1.1.1.0)
one_written_cause w TooMany TooMany p q = refl

-- a refusal is one of form, one of shape, or one of what is written
abbrev Cause : List ℕ → ConfigError → Type 0
Cause bytes e =
    ((e ≡ NotJson) × ((tree : Data) → IsJson bytes tree → ⊥))
    ⊎ (((e ≡ Shape) × ((tree : Data) × IsJson bytes tree × ((w : Written) → SaysWritten tree w → ⊥))) ⊎ RefusesConfigText bytes e)

-- each refusal of bytes, other than for memory, is one of these three
cause_of : (bytes : List ℕ) (e : ConfigError) → RefusesConfigBytes bytes e → (e ≡ NoMemory → ⊥) → Cause bytes e
cause_of bytes NotJson h other = inl (refl, h)
cause_of bytes Shape h other = inr (inl (refl, h))
cause_of bytes BadName h other = inr (inr h)
cause_of bytes BadUrl h other = inr (inr h)
cause_of bytes BadProfile h other = inr (inr h)
cause_of bytes DoubleRelationship h other = inr (inr h)
cause_of bytes BadSeed h other = inr (inr h)
cause_of bytes TooMany h other = inr (inr h)
cause_of bytes NoMemory h other = absurd (other refl)

-- bytes are a JSON text of one value at most
one_tree : (bytes : List ℕ) (s t : Data) → IsJson bytes s → IsJson bytes t → s ≡ t
one_tree bytes s t p q = let same : Some s ≡ Some t = sym p.1 ∙ q.1 in cc

-- what has no shape says nothing
shapeless : (bytes : List ℕ) (tree : Data) (e : ConfigError) → IsJson bytes tree → ((w : Written) → SaysWritten tree w → ⊥) → RefusesConfigText bytes e → ⊥
shapeless bytes tree e json none h = none h.0 (subst (λ t. SaysWritten t h.0) (one_tree bytes h.1.tree tree h.1.json json) h.1.says)

-- bytes have one such cause at most
one_at : (bytes : List ℕ) (d e : ConfigError) → Cause bytes d → Cause bytes e → d ≡ e
one_at bytes d e (inl p) (inl q) = p.0 ∙ sym q.0
one_at bytes d e (inl p) (inr (inl q)) = absurd (p.1 q.1.0 q.1.1)
one_at bytes d e (inl p) (inr (inr q)) = absurd (p.1 q.1.tree q.1.json)
one_at bytes d e (inr (inl p)) (inl q) = absurd (q.1 p.1.0 p.1.1)
one_at bytes d e (inr (inl p)) (inr (inl q)) = p.0 ∙ sym q.0
one_at bytes d e (inr (inl p)) (inr (inr q)) = absurd (shapeless bytes p.1.0 e p.1.1 p.1.2 q)
one_at bytes d e (inr (inr p)) (inl q) = absurd (q.1 p.1.tree p.1.json)
one_at bytes d e (inr (inr p)) (inr (inl q)) = absurd (shapeless bytes q.1.0 d q.1.1 q.1.2 p)
one_at bytes d e (inr (inr p)) (inr (inr q)) =
    one_written_cause q.0 d e (subst (λ w. RefusesWritten w d) (same_written bytes p.0 q.0 p.1 q.1) p.2) q.2

-- bytes are refused for one cause at most, other than for memory, as `laws::configurations` says
pub one_cause : (bytes : List ℕ) (d e : ConfigError) → RefusesConfigBytes bytes d → RefusesConfigBytes bytes e → (d ≡ NoMemory → ⊥) → (e ≡ NoMemory → ⊥) → d ≡ e
one_cause bytes d e p q m n = one_at bytes d e (cause_of bytes d p m) (cause_of bytes e q n)

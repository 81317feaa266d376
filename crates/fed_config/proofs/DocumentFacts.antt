-- A seed whose bundle is not a document.
use Rattle.std.proofs.Common.{◌≡◌, inl, inr, refl}
use Rattle.serde_json.specs.Data.{Data}
use Rattle.bundle_doc.specs.Bundle.{Bundle, Means, Fits}
use Rattle.bundle_doc.specs.Refusal.{RefusesTree}
use Rattle.bundle_doc.specs.declared.error.DocError.{DocError}
use Rattle.bundle_doc.specs.declared.error.DocError.TheVariants.{TooLong, NotJson, NotObject, NoKeys, BadSequence, BadRefreshHint, CanonicalTooLong, NoMemory}
use Rattle.fed_config.specs.Reading.{Fails, cause_of}
use Rattle.fed_config.specs.declared.error.ConfigError.TheVariants.{BadSeed}

-- no value that is refused, other than for memory, means a bundle that fits: a law of `bundle_doc`
abbrev NoneMeant : Type 0
NoneMeant = (value : Data) (e : DocError) (b : Bundle) → RefusesTree value e → (e ≡ NoMemory → ⊥) → Means value b → Fits b → ⊥

-- a seed whose bundle is refused means no document
pub fails : NoneMeant → (value : Data) (e : DocError) → RefusesTree value e → Fails BadSeed ((b : Bundle) × Means value b × Fits b) (cause_of e)
fails none value TooLong h = inr (refl, λ p. none value TooLong p.0 h (λ e. cc) p.1 p.2)
fails none value NotJson h = inr (refl, λ p. none value NotJson p.0 h (λ e. cc) p.1 p.2)
fails none value NotObject h = inr (refl, λ p. none value NotObject p.0 h (λ e. cc) p.1 p.2)
fails none value NoKeys h = inr (refl, λ p. none value NoKeys p.0 h (λ e. cc) p.1 p.2)
fails none value BadSequence h = inr (refl, λ p. none value BadSequence p.0 h (λ e. cc) p.1 p.2)
fails none value BadRefreshHint h = inr (refl, λ p. none value BadRefreshHint p.0 h (λ e. cc) p.1 p.2)
fails none value CanonicalTooLong h = inr (refl, λ p. none value CanonicalTooLong p.0 h (λ e. cc) p.1 p.2)
fails none value NoMemory h = inl refl

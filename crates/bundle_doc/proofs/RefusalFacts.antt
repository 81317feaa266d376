-- What is refused is not a document, and is refused for one cause.
use Rattle.std.proofs.Common.{◌≡◌, ℕ, ◌<◌, ◌≤◌, ◌⊎◌, inl, inr, List, length, Some, None, IsSome, refl, sym, ◌∙◌, subst, arith}
use Rattle.serde_json.specs.Data.{Data, null, boolean, number, string, array, object}
use Rattle.serde_json.specs.Find.{as_object}
use Rattle.jwk_set.specs.Json.{IsJson}
use Rattle.bundle_doc.specs.Bundle.{Bundle, Means, Fits, IsDocument, canonical_text, document_limit}
use Rattle.bundle_doc.specs.Refusal.{HasSomeKeys, RefusesTree, RefusesJson, RefusesBytes}
use Rattle.bundle_doc.specs.declared.error.DocError.{DocError}
use Rattle.bundle_doc.specs.declared.error.DocError.TheVariants.{TooLong, NotJson, NotObject, NoKeys, BadSequence, BadRefreshHint, CanonicalTooLong, NoMemory}
use Rattle.bundle_doc.proofs.BundleFacts.{one_meaning}

-- ---- a value

-- a value that is not an object has no keys
no_keys : (tree : Data) → as_object tree ≡ None → HasSomeKeys tree → ⊥
no_keys null none h = let found = h.1 in cc
no_keys (boolean x) none h = let found = h.1 in cc
no_keys (number n) none h = let found = h.1 in cc
no_keys (string s) none h = let found = h.1 in cc
no_keys (array ds) none h = let found = h.1 in cc
no_keys (object ms) none h = cc

-- a value is not both an object and none
no_object : (tree : Data) → as_object tree ≡ None → IsSome (as_object tree) → ⊥
no_object tree none some = let found = some in cc

-- a value that means a bundle has keys
keys_of : (tree : Data) (b : Bundle) → Means tree b → HasSomeKeys tree
keys_of tree b m = (m.keys, m.has_keys)

-- a value that is refused, other than for memory, means no bundle that fits
pub tree_none : (tree : Data) (e : DocError) (b : Bundle) → RefusesTree tree e → (e ≡ NoMemory → ⊥) → Means tree b → Fits b → ⊥
tree_none tree TooLong b h other m fits = h
tree_none tree NotJson b h other m fits = h
tree_none tree NotObject b h other m fits = no_keys tree h (keys_of tree b m)
tree_none tree NoKeys b h other m fits = h.1 (keys_of tree b m)
tree_none tree BadSequence b h other m fits = h.1 (b.rank, m.rank)
tree_none tree BadRefreshHint b h other m fits = h.2 (b.hint, m.hint)
tree_none tree CanonicalTooLong b h other m fits =
    let same : h.0 ≡ b = one_meaning tree h.0 b h.1 m in
    let long : document_limit < length (canonical_text b) = subst (λ c. document_limit < length (canonical_text c)) same h.2 in
    omega arith
tree_none tree NoMemory b h other m fits = other refl

-- a value is refused for one cause at most, other than for memory
pub one_tree_cause : (tree : Data) (d e : DocError) → RefusesTree tree d → RefusesTree tree e → (d ≡ NoMemory → ⊥) → (e ≡ NoMemory → ⊥) → d ≡ e
one_tree_cause tree TooLong e p q m n = absurd p
one_tree_cause tree NotJson e p q m n = absurd p
one_tree_cause tree NoMemory e p q m n = absurd (m refl)
one_tree_cause tree d TooLong p q m n = absurd q
one_tree_cause tree d NotJson p q m n = absurd q
one_tree_cause tree d NoMemory p q m n = absurd (n refl)
one_tree_cause tree NotObject NotObject p q m n = refl
one_tree_cause tree NotObject NoKeys p q m n = absurd (no_object tree p q.0)
one_tree_cause tree NotObject BadSequence p q m n = absurd (no_keys tree p q.0)
one_tree_cause tree NotObject BadRefreshHint p q m n = absurd (no_keys tree p q.0)
one_tree_cause tree NotObject CanonicalTooLong p q m n = absurd (no_keys tree p (keys_of tree q.0 q.1))
one_tree_cause tree NoKeys NotObject p q m n = absurd (no_object tree q p.0)
one_tree_cause tree NoKeys NoKeys p q m n = refl
one_tree_cause tree NoKeys BadSequence p q m n = absurd (p.1 q.0)
one_tree_cause tree NoKeys BadRefreshHint p q m n = absurd (p.1 q.0)
one_tree_cause tree NoKeys CanonicalTooLong p q m n = absurd (p.1 (keys_of tree q.0 q.1))
one_tree_cause tree BadSequence NotObject p q m n = absurd (no_keys tree q p.0)
one_tree_cause tree BadSequence NoKeys p q m n = absurd (q.1 p.0)
one_tree_cause tree BadSequence BadSequence p q m n = refl
one_tree_cause tree BadSequence BadRefreshHint p q m n = absurd (p.1 q.1)
one_tree_cause tree BadSequence CanonicalTooLong p q m n = absurd (p.1 (q.0.rank, q.1.rank))
one_tree_cause tree BadRefreshHint NotObject p q m n = absurd (no_keys tree q p.0)
one_tree_cause tree BadRefreshHint NoKeys p q m n = absurd (q.1 p.0)
one_tree_cause tree BadRefreshHint BadSequence p q m n = absurd (q.1 p.1)
one_tree_cause tree BadRefreshHint BadRefreshHint p q m n = refl
one_tree_cause tree BadRefreshHint CanonicalTooLong p q m n = absurd (p.2 (q.0.hint, q.1.hint))
one_tree_cause tree CanonicalTooLong NotObject p q m n = absurd (no_keys tree q (keys_of tree p.0 p.1))
one_tree_cause tree CanonicalTooLong NoKeys p q m n = absurd (q.1 (keys_of tree p.0 p.1))
one_tree_cause tree CanonicalTooLong BadSequence p q m n = absurd (q.1 (p.0.rank, p.1.rank))
one_tree_cause tree CanonicalTooLong BadRefreshHint p q m n = absurd (q.2 (p.0.hint, p.1.hint))
one_tree_cause tree CanonicalTooLong CanonicalTooLong p q m n = refl

-- ---- bytes

-- a refusal is one of length, one of form, or one of the tree
abbrev Cause : List ℕ → DocError → Type 0
Cause bytes e =
    ((e ≡ TooLong) × (document_limit < length bytes))
    ⊎ (((e ≡ NotJson) × (length bytes ≤ document_limit) × ((tree : Data) → IsJson bytes tree → ⊥)) ⊎ RefusesJson bytes e)

-- each refusal of bytes, other than for memory, is one of these three
cause_of : (bytes : List ℕ) (e : DocError) → RefusesBytes bytes e → (e ≡ NoMemory → ⊥) → Cause bytes e
cause_of bytes TooLong h other = inl (refl, h)
cause_of bytes NotJson h other = inr (inl (refl, h.0, h.1))
cause_of bytes NotObject h other = inr (inr h)
cause_of bytes NoKeys h other = inr (inr h)
cause_of bytes BadSequence h other = inr (inr h)
cause_of bytes BadRefreshHint h other = inr (inr h)
cause_of bytes CanonicalTooLong h other = inr (inr h)
cause_of bytes NoMemory h other = absurd (other refl)

-- bytes are a JSON text of one value at most
one_tree : (bytes : List ℕ) (s t : Data) → IsJson bytes s → IsJson bytes t → s ≡ t
one_tree bytes s t p q = let same : Some s ≡ Some t = sym p.1 ∙ q.1 in cc

-- bytes with such a cause are not a document
none_at : (bytes : List ℕ) (e : DocError) (b : Bundle) → Cause bytes e → (e ≡ NoMemory → ⊥) → IsDocument bytes b → ⊥
none_at bytes e b (inl h) other d = let long = h.1 in let short = d.short in omega arith
none_at bytes e b (inr (inl h)) other d = h.2 d.tree d.json
none_at bytes e b (inr (inr h)) other d =
    tree_none h.tree e b h.cause other (subst (λ t. Means t b) (one_tree bytes d.tree h.tree d.json h.json) d.means) d.fits

-- bytes that are refused, other than for memory, are not a document, as `laws::documents` says
pub refused_none : (bytes : List ℕ) (e : DocError) (b : Bundle) → RefusesBytes bytes e → (e ≡ NoMemory → ⊥) → IsDocument bytes b → ⊥
refused_none bytes e b h other d = none_at bytes e b (cause_of bytes e h other) other d

-- bytes have one such cause at most
one_at : (bytes : List ℕ) (d e : DocError) → Cause bytes d → Cause bytes e → (d ≡ NoMemory → ⊥) → (e ≡ NoMemory → ⊥) → d ≡ e
one_at bytes d e (inl p) (inl q) m n = p.0 ∙ sym q.0
one_at bytes d e (inl p) (inr (inl q)) m n = let long = p.1 in let short = q.1 in absurd (omega arith)
one_at bytes d e (inl p) (inr (inr q)) m n = let long = p.1 in let short = q.short in absurd (omega arith)
one_at bytes d e (inr (inl p)) (inl q) m n = let long = q.1 in let short = p.1 in absurd (omega arith)
one_at bytes d e (inr (inl p)) (inr (inl q)) m n = p.0 ∙ sym q.0
one_at bytes d e (inr (inl p)) (inr (inr q)) m n = absurd (p.2 q.tree q.json)
one_at bytes d e (inr (inr p)) (inl q) m n = let long = q.1 in let short = p.short in absurd (omega arith)
one_at bytes d e (inr (inr p)) (inr (inl q)) m n = absurd (q.2 p.tree p.json)
one_at bytes d e (inr (inr p)) (inr (inr q)) m n =
    one_tree_cause q.tree d e (subst (λ t. RefusesTree t d) (one_tree bytes p.tree q.tree p.json q.json) p.cause) q.cause m n

-- bytes are refused for one cause at most, other than for memory, as `laws::documents` says
pub one_cause : (bytes : List ℕ) (d e : DocError) → RefusesBytes bytes d → RefusesBytes bytes e → (d ≡ NoMemory → ⊥) → (e ≡ NoMemory → ⊥) → d ≡ e
one_cause bytes d e p q m n = one_at bytes d e (cause_of bytes d p m) (cause_of bytes e q n) m n

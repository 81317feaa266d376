-- A source of bytes in memory gives a document whole, since one byte more than a document may have
-- is asked for.
use Rattle.std.proofs.Common.{◌≡◌, ℕ, ◌+◌, ◌≤◌, ◌<◌, List, length, take, subst, arith, ◌∙◌, length-take, take_all}
use Rattle.bundle_doc.specs.Bundle.{Bundle, IsDocument, document_limit}
use Rattle.bundle_doc.specs.Refusal.{RefusesBytes}
use Rattle.bundle_doc.specs.declared.error.DocError.{DocError}
use Rattle.bundle_doc.specs.declared.error.DocError.TheVariants.{TooLong, NotJson, NotObject, NoKeys}
use Rattle.bundle_doc.specs.declared.error.DocError.TheVariants.{BadSequence, BadRefreshHint}
use Rattle.bundle_doc.specs.declared.error.DocError.TheVariants.{CanonicalTooLong, NoMemory}

-- what is short, of a front that may be one longer, is all
short_front : (limit : ℕ) (bytes : List ℕ) → length (take (limit + 1) bytes) ≤ limit → take (limit + 1) bytes ≡ bytes
short_front limit bytes h =
    let n = length-take (limit + 1) bytes in
    take_all (limit + 1) bytes (omega (arith, n))

-- what is too long already has more behind it
long_front : (limit : ℕ) (bytes : List ℕ) → limit < length (take (limit + 1) bytes) → limit < length bytes
long_front limit bytes h = let n = length-take (limit + 1) bytes in omega (arith, n)

-- what was read, and is no longer than a document, is all
all_read : (bytes read : List ℕ) → read ≡ take (document_limit + 1) bytes → length read ≤ document_limit → read ≡ bytes
all_read bytes read e short = e ∙ short_front document_limit bytes (subst (λ (x : List ℕ). length x ≤ document_limit) e short)

pub whole_document : (bytes read : List ℕ) (b : Bundle) → read ≡ take (document_limit + 1) bytes → IsDocument read b → IsDocument bytes b
whole_document bytes read b e is = subst (λ (x : List ℕ). IsDocument x b) (all_read bytes read e is.short) is

pub whole_refusal : (bytes read : List ℕ) (why : DocError) → read ≡ take (document_limit + 1) bytes → RefusesBytes read why → RefusesBytes bytes why
whole_refusal bytes read TooLong e is = long_front document_limit bytes (subst (λ (x : List ℕ). document_limit < length x) e is)
whole_refusal bytes read NotJson e is = subst (λ (x : List ℕ). RefusesBytes x NotJson) (all_read bytes read e is.0) is
whole_refusal bytes read NotObject e is = subst (λ (x : List ℕ). RefusesBytes x NotObject) (all_read bytes read e is.short) is
whole_refusal bytes read NoKeys e is = subst (λ (x : List ℕ). RefusesBytes x NoKeys) (all_read bytes read e is.short) is
whole_refusal bytes read BadSequence e is = subst (λ (x : List ℕ). RefusesBytes x BadSequence) (all_read bytes read e is.short) is
whole_refusal bytes read BadRefreshHint e is = subst (λ (x : List ℕ). RefusesBytes x BadRefreshHint) (all_read bytes read e is.short) is
whole_refusal bytes read CanonicalTooLong e is = subst (λ (x : List ℕ). RefusesBytes x CanonicalTooLong) (all_read bytes read e is.short) is
whole_refusal bytes read NoMemory e is = subst (λ (x : List ℕ). RefusesBytes x NoMemory) (all_read bytes read e is) is

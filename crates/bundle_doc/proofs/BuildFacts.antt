-- A document that is built from gathered authorities and two numbers.
use Rattle.std.proofs.Common.{◌≡◌, ℕ, ◌<◌, ◌≤◌, ◌++◌, List, Option, codes, length, refl, sym, ap, ◌∙◌, subst}
use Rattle.std.specs.List.{AllByRecursion}
use Rattle.std.specs.List.Sorted.{IsStrictlySortedBy}
use Rattle.serde_json.specs.Data.{Data}
use Rattle.jwk_set.specs.Element.{IsAuthority}
use Rattle.jwk_set.specs.declared.authority.Authority.{Authority}
use Rattle.bundle_doc.specs.Bundle.{Bundle, Has, Says, HasNumberMember, Means, IsBundle, IsDocument, IsStoredDocument}
use Rattle.bundle_doc.specs.Bundle.{Fits, text_cmp, canonical_text, document_limit}
use Rattle.bundle_doc.specs.Refusal.{IsBuildFault, RefusesTree, RefusesBytes}
use Rattle.bundle_doc.specs.declared.error.DocError.{DocError}
use Rattle.bundle_doc.specs.declared.error.DocError.TheVariants.{TooLong, NotJson, NotObject, NoKeys, BadSequence, BadRefreshHint, CanonicalTooLong, NoMemory}
use Rattle.bundle_doc.specs.Entries.{Entry, AreEntries, authorities_of, FitsWord, IsContents, IsContentsOfText, IsBundleOf, keys_text, numbers_text}
use Rattle.bundle_doc.proofs.EntryFacts.{canonical_text-parts, forms_of}

-- what was written of the entries, before it is a document
pub record IsBuilt (es : List Entry) (rank hint : Option ℕ) (authorities : List Authority) (keys out : List ℕ) : Type 0 where
  pub entries : AreEntries es
  pub authorities_are : authorities ≡ authorities_of es
  pub rising : IsStrictlySortedBy text_cmp authorities
  pub keys_are : keys ≡ keys_text (authorities_of es)
  pub out_is : out ≡ keys ++ numbers_text hint rank
  pub rank_fits : FitsWord rank
  pub hint_fits : FitsWord hint

-- the bundle of these authorities and numbers
abbrev pub bundle_of : List Authority → Option ℕ → Option ℕ → Bundle
bundle_of authorities rank hint = record { authorities = authorities; rank = rank; hint = hint }

module _ (es : List Entry) (rank hint : Option ℕ) (authorities : List Authority) (keys out : List ℕ) (b : IsBuilt es rank hint authorities keys out) where
  -- what was built is a bundle that a document can mean
  pub IsBundle-built : IsBundle (bundle_of authorities rank hint)
  IsBundle-built = record {
    rising = b.rising;
    forms = subst (AllByRecursion IsAuthority) (sym b.authorities_are) (forms_of es b.entries);
    rank = b.rank_fits;
    hint = b.hint_fits;
  }

  -- it is the bundle of the entries and the numbers
  pub IsBundleOf-built : IsBundleOf es rank hint (bundle_of authorities rank hint)
  IsBundleOf-built = record { authorities = b.authorities_are; same_rank = refl; same_hint = refl; is = IsBundle-built }

  -- what was written is its canonical text
  pub text-built : out ≡ canonical_text (bundle_of authorities rank hint)
  text-built =
      b.out_is ∙ ap (λ k. k ++ numbers_text hint rank) (b.keys_are ∙ ap keys_text (sym b.authorities_are))
      ∙ sym (canonical_text-parts (bundle_of authorities rank hint))

  -- it fits if what was written is within the limit
  pub fits-built : (n : ℕ) → n ≡ length out → n ≤ document_limit → Fits (bundle_of authorities rank hint)
  fits-built n len short = subst (λ t. length t ≤ document_limit) text-built (subst (λ k. k ≤ document_limit) len short)

  -- the bundle and what was written are a document in memory
  pub IsKept-built : (n : ℕ) → n ≡ length out → n ≤ document_limit → IsStoredDocument (bundle_of authorities rank hint) out
  IsKept-built n len short = record { is = IsBundle-built; text = text-built; fits = fits-built n len short }

  -- a text above the limit is an error of `build`
  pub too_long-built : (n : ℕ) → n ≡ length out → document_limit < n → IsBuildFault es rank hint CanonicalTooLong
  too_long-built n len long = (
    bundle_of authorities rank hint,
    IsBundleOf-built,
    subst (λ t. document_limit < length t) text-built (subst (λ k. document_limit < k) len long),
  )

-- ---- from the contents of a value

module _ (tree : Data) (es : List Entry) (rank hint : Option ℕ) (contents : IsContents tree es rank hint) where
  -- a value means the bundle that is built from its contents
  pub Means-contents : (b : Bundle) → IsBundleOf es rank hint b → Means tree b
  Means-contents b is = record {
    keys = contents.keys;
    has_keys = contents.has_keys;
    authorities = λ a. subst (λ l. (Has l a → Says contents.keys a) × (Says contents.keys a → Has l a)) (sym is.authorities) (contents.gathered.authorities a);
    rank = subst (HasNumberMember tree (codes "spiffe_sequence")) (sym is.same_rank) contents.numbers.has_rank;
    hint = subst (HasNumberMember tree (codes "spiffe_refresh_hint")) (sym is.same_hint) contents.numbers.has_hint;
    is = is.is;
  }

  -- an error of `build` refuses the value that the contents came from
  pub RefusesTree-contents : (e : DocError) → IsBuildFault es rank hint e → RefusesTree tree e
  RefusesTree-contents TooLong h = absurd h
  RefusesTree-contents NotJson h = absurd h
  RefusesTree-contents NotObject h = absurd h
  RefusesTree-contents NoKeys h = absurd h
  RefusesTree-contents BadSequence h = absurd h
  RefusesTree-contents BadRefreshHint h = absurd h
  RefusesTree-contents CanonicalTooLong h = (h.0, Means-contents h.0 h.1, h.2)
  RefusesTree-contents NoMemory h = ((contents.keys, contents.has_keys), (rank, contents.numbers.has_rank), (hint, contents.numbers.has_hint))

-- ---- from the contents of bytes

module _ (bytes : List ℕ) (es : List Entry) (rank hint : Option ℕ) (found : IsContentsOfText bytes es rank hint) where
  -- bytes are a document of the bundle that is built from their contents, if it fits
  pub IsDocument-contents : (b : Bundle) → IsBundleOf es rank hint b → Fits b → IsDocument bytes b
  IsDocument-contents b is fits = record {
    tree = found.tree;
    json = found.json;
    means = Means-contents found.tree es rank hint found.contents b is;
    short = found.short;
    fits = fits;
  }

  -- an error of `build` refuses the bytes that the contents came from
  pub RefusesBytes-contents : (e : DocError) → IsBuildFault es rank hint e → RefusesBytes bytes e
  RefusesBytes-contents TooLong h = absurd h
  RefusesBytes-contents NotJson h = absurd h
  RefusesBytes-contents NotObject h = absurd h
  RefusesBytes-contents NoKeys h = absurd h
  RefusesBytes-contents BadSequence h = absurd h
  RefusesBytes-contents BadRefreshHint h = absurd h
  RefusesBytes-contents CanonicalTooLong h = record {
    short = found.short;
    tree = found.tree;
    json = found.json;
    cause = RefusesTree-contents found.tree es rank hint found.contents CanonicalTooLong h;
  }
  RefusesBytes-contents NoMemory h = found.short

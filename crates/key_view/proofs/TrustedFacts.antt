-- The keys that are not distrusted, and have one of some public keys.
use Rattle.std.proofs.Common.{◌≡◌, ◌↔◌, ℕ, ◌<◌, ◌≤◌, ◌+◌, Bool, true, false, not, ◌&&◌, cond, List, [], ◌∷◌, ◌++◌, length}
use Rattle.std.proofs.Common.{get_or, take, refl, sym, ap, ◌∙◌, subst}
use Rattle.std.proofs.Common.{add-one, append-nil, IsTrue, Option, Some, None}
use Rattle.std.proofs.Math.Seq.{take-suc}
use Rattle.std.proofs.lemmas.List.{take_all}
use Rattle.std.specs.Prelude.{Contains}
use Rattle.std.specs.Ordering.{nat_cmp}
use Rattle.std.specs.Cmp.Lexicographic.{slice_cmp}
use Rattle.std.specs.BTreeMap.{is_at}
use Rattle.std.specs.BTreeSet.{BTreeSet}
use Rattle.std.specs.List.{list_any}
use Rattle.jwk_set.specs.declared.authority.KeyId.{KeyId}
use Rattle.receipt_core.specs.declared.distrust.Distrust.{Distrust}
use Rattle.key_view.specs.declared.known_entry.KeyEntry.{KeyEntry}
use Rattle.key_view.specs.declared.known_entry.KeyParts.{KeyParts}
use Rattle.key_view.specs.declared.met_keys.KnownKey.{KnownKey}
use Rattle.key_view.specs.Inside.Distrusted.{AreTrustedWith, IsDigestOf, IsKnownAs, SaysIfHasKey, SaysIfTrusted, has_key_of, is_trusted_with, trusted_ids}
use Rattle.key_view.specs.Inside.PublicKeys.{has_digest}
use Rattle.key_view.proofs.DistrustedFacts.{digest_not_read, digest_read}
use Rattle.key_view.proofs.ZipFacts.{zip_last}

-- ---- one key

-- the certificate is read: `has_key_of`
pub key_read : (public_keys : BTreeSet (List ℕ)) (der digest : List ℕ) → IsDigestOf der (Some digest)
    → SaysIfHasKey public_keys der (has_digest public_keys digest)
key_read public_keys der digest is = λ parts are.
    let read = digest_read der digest parts is are in
    sym (ap (has_key_of public_keys) read.1 ∙ ap (has_digest public_keys) read.2)

pub key_not_read : (public_keys : BTreeSet (List ℕ)) (der : List ℕ) → IsDigestOf der None → SaysIfHasKey public_keys der false
key_not_read public_keys der is = λ parts are. sym (ap (has_key_of public_keys) (digest_not_read der parts is are))

pub one_truth : {P : Type 0} (a b : Bool) → (IsTrue a ↔ P) → (IsTrue b ↔ P) → a ≡ b
one_truth true b p q = sym (q.1 (p.0 refl))
one_truth false true p q = p.1 (q.0 refl)
one_truth false false p q = refl

-- what is asked of one key: `is_trusted_with`
pub says_trusted : (domain : List ℕ) (records : List Distrust) (public_keys : BTreeSet (List ℕ)) (known : KnownKey) (is_distrusted has is : Bool)
    → (IsTrue is_distrusted ↔ Contains records (record { domain = domain; key = known.key })) → SaysIfHasKey public_keys known.der has
    → is ≡ (not is_distrusted && has) → SaysIfTrusted domain records public_keys known is
says_trusted domain records public_keys known is_distrusted has is truth says now = λ e of.
    now ∙ ap (λ d. not d && has) (one_truth is_distrusted e.is_distrusted truth of.distrusted)
    ∙ ap (λ h. not e.is_distrusted && h) (says e.parts of.parts)

-- ---- many keys

trusted_ids-append : (public_keys : BTreeSet (List ℕ)) (xs ys : List KeyEntry)
    → trusted_ids public_keys (xs ++ ys) ≡ trusted_ids public_keys xs ++ trusted_ids public_keys ys
trusted_ids-append public_keys [] ys = refl
trusted_ids-append public_keys (x ∷ xs) ys =
    ap (λ ids. cond (is_trusted_with public_keys x) (x.key ∷ ids) ids) (trusted_ids-append public_keys xs ys)
    ∙ in_front (is_trusted_with public_keys x) where
      in_front : (b : Bool)
          → cond b (x.key ∷ (trusted_ids public_keys xs ++ trusted_ids public_keys ys)) (trusted_ids public_keys xs ++ trusted_ids public_keys ys)
          ≡ cond b (x.key ∷ trusted_ids public_keys xs) (trusted_ids public_keys xs) ++ trusted_ids public_keys ys
      in_front true = refl
      in_front false = refl

module _ (domain : List ℕ) (records : List Distrust) (public_keys : BTreeSet (List ℕ)) where
  -- before the first key
  pub trusted_none : (ids : List KeyId) → ids ≡ [] → AreTrustedWith domain records public_keys [] ids
  trusted_none ids empty [] are = empty
  trusted_none ids empty (e ∷ entries) are = absurd are

  -- one more key
  trusted_next : (known : List KnownKey) (one : KnownKey) (is : Bool) (old new : List KeyId)
      → AreTrustedWith domain records public_keys known old → SaysIfTrusted domain records public_keys one is
      → new ≡ old ++ cond is (one.key ∷ []) [] → AreTrustedWith domain records public_keys (known ++ one ∷ []) new
  trusted_next known one is old new so says now = λ entries are.
      let cut = zip_last (IsKnownAs domain records) known one entries are in
      now ∙ ap (λ ids. ids ++ cond is (one.key ∷ []) []) (so cut.first cut.firsts)
      ∙ ap (λ b. trusted_ids public_keys cut.first ++ cond b (one.key ∷ []) []) (says cut.last cut.lasts)
      ∙ ap (λ (key : KeyId). trusted_ids public_keys cut.first ++ cond (is_trusted_with public_keys cut.last) (key ∷ []) []) (sym cut.lasts.key)
      ∙ sym (trusted_ids-append public_keys cut.first (cut.last ∷ []))
      ∙ ap (trusted_ids public_keys) (sym cut.is)

  trusted_at : (known : List KnownKey) (k : ℕ) (one : KnownKey) (is : Bool) (old new : List KeyId) → k < length known
      → one ≡ get_or known k one → AreTrustedWith domain records public_keys (take k known) old
      → SaysIfTrusted domain records public_keys one is → new ≡ old ++ cond is (one.key ∷ []) []
      → AreTrustedWith domain records public_keys (take (k + 1) known) new
  trusted_at known k one is old new low at so says now =
      let taken : take (k + 1) known ≡ take k known ++ one ∷ [] =
      ap (λ n. take n known) (add-one k) ∙ take-suc known k one low ∙ ap (λ z. take k known ++ z ∷ []) (sym at) in
      subst (λ ks. AreTrustedWith domain records public_keys ks new) (sym taken) (trusted_next (take k known) one is old new so says now)

  -- the key was pushed, and it was not: the steps of the loop in `trusted_with`
  pub trusted_pushed : (known : List KnownKey) (k : ℕ) (one : KnownKey) (is : Bool) (old new : List KeyId) → k < length known
      → one ≡ get_or known k one → AreTrustedWith domain records public_keys (take k known) old
      → SaysIfTrusted domain records public_keys one is → is ≡ true → new ≡ old ++ one.key ∷ []
      → AreTrustedWith domain records public_keys (take (k + 1) known) new
  trusted_pushed known k one is old new low at so says here now =
      trusted_at known k one is old new low at so says (now ∙ ap (λ b. old ++ cond b (one.key ∷ []) []) (sym here))

  pub trusted_passed : (known : List KnownKey) (k : ℕ) (one : KnownKey) (is : Bool) (old : List KeyId) → k < length known
      → one ≡ get_or known k one → AreTrustedWith domain records public_keys (take k known) old
      → SaysIfTrusted domain records public_keys one is → is ≡ false
      → AreTrustedWith domain records public_keys (take (k + 1) known) old
  trusted_passed known k one is old low at so says gone =
      trusted_at known k one is old old low at so says (sym (append-nil old) ∙ ap (λ b. old ++ cond b (one.key ∷ []) []) (sym gone))

  -- after the last key
  pub trusted_all : (known : List KnownKey) (k : ℕ) (ids : List KeyId) → length known ≤ k
      → AreTrustedWith domain records public_keys (take k known) ids → AreTrustedWith domain records public_keys known ids
  trusted_all known k ids high so = subst (λ ks. AreTrustedWith domain records public_keys ks ids) (take_all k known high) so

  -- without a public key no key has one
  not_of_none : public_keys.keys ≡ [] → (e : KeyEntry) → is_trusted_with public_keys e ≡ false
  not_of_none empty e =
      ap (λ h. not e.is_distrusted && h) (no_key e.parts) ∙ and_false (not e.is_distrusted) where
        no_key : (parts : Option KeyParts) → has_key_of public_keys parts ≡ false
        no_key None = refl
        no_key (Some p) = ap (λ ks. list_any (is_at (slice_cmp nat_cmp p.public_key)) ks) empty

        and_false : (b : Bool) → (b && false) ≡ false
        and_false true = refl
        and_false false = refl

  no_ids : public_keys.keys ≡ [] → (entries : List KeyEntry) → trusted_ids public_keys entries ≡ []
  no_ids empty [] = refl
  no_ids empty (e ∷ entries) =
      ap (λ b. cond b (e.key ∷ trusted_ids public_keys entries) (trusted_ids public_keys entries)) (not_of_none empty e) ∙ no_ids empty entries

  pub trusted_of_none : (known : List KnownKey) (ids : List KeyId) → public_keys.keys ≡ [] → ids ≡ [] → AreTrustedWith domain records public_keys known ids
  trusted_of_none known ids empty none = λ entries are. none ∙ sym (no_ids empty entries)

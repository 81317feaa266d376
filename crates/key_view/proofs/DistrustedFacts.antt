-- The distrusted keys, one certificate after another.
use Rattle.std.proofs.Common.{◌≡◌, ℕ, ◌<◌, ◌+◌, Bool, true, false, not, ◌&&◌, ◌||◌, cond, List, [], ◌∷◌, ◌++◌, length, get_or, drop, refl, sym, ap, ◌∙◌, subst}
use Rattle.std.proofs.Common.{inl, inr, Option, Some, None}
use Rattle.std.specs.Prelude.{Contains}
use Rattle.std.specs.Ordering.{is_eq, nat_cmp}
use Rattle.std.specs.Cmp.Lexicographic.{slice_cmp}
use Rattle.std.specs.BTreeMap.{is_at}
use Rattle.std.specs.BTreeSet.{BTreeSet}
use Rattle.std.specs.List.{list_any}
use Rattle.std.proofs.lemmas.Bool.{cases_Bool, false_from_ne_true}
use Rattle.std.proofs.lemmas.List.{drop_more}
use Rattle.std.proofs.lemmas.List.Folds.{list_any-append}
use Rattle.sha2.specs.Sha256.{sha256}
use Rattle.jwk_set.specs.declared.authority.KeyId.{KeyId}
use Rattle.receipt_core.specs.Receipt.{key_cmp}
use Rattle.receipt_core.specs.declared.distrust.Distrust.{Distrust}
use Rattle.cert_key.specs.Certificate.{Certificate, IsSpelled, Parts, parts_of}
use Rattle.cert_key.proofs.CertificateFacts.{certificate_again}
use Rattle.cert_key.proofs.StepFacts.{same_some}
use Rattle.key_view.specs.declared.distrusted_keys.DistrustedKeys.{DistrustedKeys}
use Rattle.key_view.specs.declared.known_entry.KeyEntry.{KeyEntry}
use Rattle.key_view.specs.declared.known_entry.KeyParts.{KeyParts}
use Rattle.key_view.specs.declared.met_keys.KnownKey.{KnownKey}
use Rattle.key_view.specs.KeyEntries.{IsKeyParts, is_one_public_key}
use Rattle.key_view.specs.KnownKeys.{id_of_der, is_one_key, knows, with_der}
use Rattle.key_view.specs.Inside.Distrusted.{Adds, AddsDigestOf, AddsDistrusted, AreKnownAs, FindsDistrusted, IsDigestOf, IsKnownAs}
use Rattle.key_view.specs.Inside.PublicKeys.{AddsPublicKey, AddsPublicKeyOf, HasPublicKeys, has_digest}
use Rattle.key_view.proofs.ListingFacts.{one_key}
use Rattle.key_view.proofs.PublicKeyFacts.{digest_more, or_none, or_with, public_keys_none, public_keys_push}
use Rattle.key_view.proofs.ZipFacts.{zip_last}

-- ---- one certificate

-- these bytes spell at most one certificate, as far as it is read
one_parts : (c d : Certificate) (der : List ℕ) → IsSpelled c der → IsSpelled d der → parts_of c ≡ parts_of d
one_parts c d der p q = same_some (parts_of c) (parts_of d) (sym (certificate_again c der p) ∙ certificate_again d der q)

-- an entry has the digest of a certificate that is read
pub digest_read : (der digest : List ℕ) (parts : Option KeyParts) → IsDigestOf der (Some digest) → IsKeyParts der parts
    → (p : KeyParts) × (parts ≡ Some p) × (p.public_key ≡ digest)
digest_read der digest None is parts = absurd (parts is.0 is.1)
digest_read der digest (Some p) is parts =
    (p, refl, parts.2.public_key ∙ ap (λ (q : Parts). sha256 q.public_key) (one_parts parts.0 is.0 der parts.1 is.1) ∙ sym is.2)

pub digest_not_read : (der : List ℕ) (parts : Option KeyParts) → IsDigestOf der None → IsKeyParts der parts → parts ≡ None
digest_not_read der None is parts = refl
digest_not_read der (Some p) is parts = absurd (is parts.0 parts.1)

-- the digest was inserted: the step of `add_public_key`
pub digest_added : (der digest : List ℕ) (old new : BTreeSet (List ℕ)) → IsDigestOf der (Some digest)
    → ((wanted : List ℕ) → has_digest new wanted ≡ cond (is_eq (slice_cmp nat_cmp digest wanted)) true (has_digest old wanted))
    → AddsDigestOf der old new
digest_added der digest old new is more = λ parts are.
    let read = digest_read der digest parts is are in
    subst (λ (o : Option KeyParts). AddsPublicKeyOf o old new) (sym read.1) (digest_more read.0 old new
    (λ wanted. more wanted ∙ ap (λ d. cond (is_eq (slice_cmp nat_cmp d wanted)) true (has_digest old wanted)) (sym read.2)))

-- nothing was inserted
pub digest_left : (der : List ℕ) (old : BTreeSet (List ℕ)) → IsDigestOf der None → AddsDigestOf der old old
digest_left der old is = λ parts are.
    subst (λ (o : Option KeyParts). AddsPublicKeyOf o old old) (sym (digest_not_read der parts is are))
    (record { same = λ wanted. or_none (has_digest old wanted) })

-- ---- one key

-- what was new was not there
pub was_new : (old added : Bool) → added ≡ not old → added ≡ true → old ≡ false
was_new true added is here = sym here ∙ is
was_new false added is here = refl

-- a key that is not known yet, and one that is
pub der_new : (keys : List KnownKey) (der : List ℕ) → knows keys (id_of_der der) ≡ false
    → with_der keys der ≡ keys ++ record { key = id_of_der der; der = der } ∷ []
der_new keys der is_new = ap (λ b. cond b keys (keys ++ record { key = id_of_der der; der = der } ∷ [])) is_new

pub der_known : (keys : List KnownKey) (der : List ℕ) → knows keys (id_of_der der) ≡ true → with_der keys der ≡ keys
der_known keys der is_known = ap (λ b. cond b keys (keys ++ record { key = id_of_der der; der = der } ∷ [])) is_known

-- the public key of an entry that is distrusted is added, and that of another is not
distrusted_more : (e : KeyEntry) (old new : BTreeSet (List ℕ)) → e.is_distrusted ≡ true → AddsPublicKeyOf e.parts old new → AddsPublicKey e old new
distrusted_more e old new is more = record {
  same = λ wanted. more.same wanted
      ∙ ap (λ b. has_digest old wanted || (b && is_one_public_key e.parts wanted)) (sym is);
}

trusted_more : (e : KeyEntry) (old : BTreeSet (List ℕ)) → e.is_distrusted ≡ false → AddsPublicKey e old old
trusted_more e old is = record {
  same = λ wanted. or_none (has_digest old wanted)
      ∙ ap (λ b. has_digest old wanted || (b && is_one_public_key e.parts wanted)) (sym is);
}

absorbed : (b c : Bool) → (c ≡ true → b ≡ true) → b ≡ (b || c)
absorbed true c h = refl
absorbed false true h = h refl
absorbed false false h = refl

-- which keys are known after one more certificate
pub knows_der : (known : List KnownKey) (der : List ℕ) (id : KeyId)
    → knows (with_der known der) id ≡ (knows known id || is_one_key (id_of_der der) id)
knows_der known der id = elim (cases_Bool (knows known (id_of_der der))) [
  | inl old ↦ ap (λ ks. knows ks id) (der_known known der old)
      ∙ absorbed (knows known id) (is_one_key (id_of_der der) id)
      (λ same. ap (knows known) (sym (one_key (id_of_der der) id same)) ∙ old)
  | inr new ↦ ap (λ ks. knows ks id) (der_new known der new)
      ∙ list_any-append (λ (own : KnownKey). is_one_key own.key id) known (record { key = id_of_der der; der = der } ∷ [])
      ∙ ap (λ b. knows known id || b) (sym (or_none (is_one_key (id_of_der der) id)))
]

abbrev in_domain : List ℕ → KeyId → Distrust
in_domain domain id = record { domain = domain; key = id }

module _ (domain : List ℕ) (records : List Distrust) (known : List KnownKey) (der : List ℕ) where
  -- the key is not distrusted: nothing is added
  pub der_trusted : (found : DistrustedKeys) → (Contains records (record { domain = domain; key = id_of_der der }) → ⊥)
      → FindsDistrusted domain records known found → FindsDistrusted domain records (with_der known der) found
  der_trusted found not has = record {
    ids = λ id dis. has.ids id dis
        ∙ absorbed (knows known id) (is_one_key (id_of_der der) id)
        (λ same. absurd (not (subst (λ k. Contains records (in_domain domain k)) (sym (one_key (id_of_der der) id same)) dis)))
        ∙ sym (knows_der known der id);
    public_keys = λ entries are. elim (cases_Bool (knows known (id_of_der der))) [
      | inl old ↦ has.public_keys entries (subst (λ ks. AreKnownAs domain records ks entries) (der_known known der old) are)
      | inr new ↦
          let cut = zip_last (IsKnownAs domain records) known (record { key = id_of_der der; der = der }) entries
          (subst (λ ks. AreKnownAs domain records ks entries) (der_new known der new) are) in
          subst (λ es. HasPublicKeys es found.public_keys) (sym cut.is)
          (public_keys_push cut.first cut.last found.public_keys found.public_keys (has.public_keys cut.first cut.firsts)
          (trusted_more cut.last found.public_keys (false_from_ne_true cut.last.is_distrusted (λ is. not (cut.lasts.distrusted.0 is)))))
    ];
  }

  -- the key is distrusted
  pub der_distrusted : (old new : DistrustedKeys) → Contains records (record { domain = domain; key = id_of_der der })
      → AddsDistrusted (id_of_der der) der old new → FindsDistrusted domain records known old
      → FindsDistrusted domain records (with_der known der) new
  der_distrusted old new dis adds has = record {
    ids = λ id is. adds.ids id ∙ ap (λ b. cond (is_one_key (id_of_der der) id) true b) (has.ids id is)
        ∙ or_with (is_one_key (id_of_der der) id) (knows known id) ∙ sym (knows_der known der id);
    public_keys = λ entries are. elim (cases_Bool (knows known (id_of_der der))) [
      | inl was ↦ subst (λ set. HasPublicKeys entries set) (sym (adds.again (has.ids (id_of_der der) dis ∙ was)))
          (has.public_keys entries (subst (λ ks. AreKnownAs domain records ks entries) (der_known known der was) are))
      | inr first ↦
          let cut = zip_last (IsKnownAs domain records) known (record { key = id_of_der der; der = der }) entries
          (subst (λ ks. AreKnownAs domain records ks entries) (der_new known der first) are) in
          subst (λ es. HasPublicKeys es new.public_keys) (sym cut.is)
          (public_keys_push cut.first cut.last old.public_keys new.public_keys (has.public_keys cut.first cut.firsts)
          (distrusted_more cut.last old.public_keys new.public_keys (cut.lasts.distrusted.1 dis)
          (adds.first (has.ids (id_of_der der) dis ∙ first) cut.last.parts cut.lasts.parts)))
    ];
  }

-- ---- many keys

-- before the first document no key was met
pub distrusted_none : (domain : List ℕ) (records : List Distrust) (found : DistrustedKeys) → found.ids.keys ≡ [] → found.public_keys.keys ≡ []
    → FindsDistrusted domain records [] found
distrusted_none domain records found ids keys = record {
  ids = λ id dis. ap (λ ks. list_any (is_at (key_cmp id)) ks) ids;
  public_keys = λ entries are. no_entries entries are;
} where
  no_entries : (entries : List KeyEntry) → AreKnownAs domain records [] entries → HasPublicKeys entries found.public_keys
  no_entries [] are = public_keys_none found.public_keys keys
  no_entries (e ∷ entries) are = absurd are

-- What adds the keys of the rest of these items has, with what was added so far, the distrusted ones of all of these keys.
abbrev pub LeadsTo : {X : Type 0} → List ℕ → List Distrust → (List KnownKey → List X → List KnownKey) → List X → List KnownKey → DistrustedKeys
    → Type 0
LeadsTo domain records more rest all found =
    (new : DistrustedKeys) → Adds domain records (λ known. more known rest) found new → FindsDistrusted domain records all new

module _ {X : Type 0} (domain : List ℕ) (records : List Distrust) (more : List KnownKey → List X → List KnownKey) where
  -- one more item: the step of a loop
  pub leads_next : (with_one : List KnownKey → X → List KnownKey)
      → ((known : List KnownKey) (x : X) (xs : List X) → more known (x ∷ xs) ≡ more (with_one known x) xs)
      → (x : X) (ahead rest : List X) (all : List KnownKey) (old new : DistrustedKeys) → ahead ≡ x ∷ rest
      → LeadsTo domain records more ahead all old → Adds domain records (λ known. with_one known x) old new
      → LeadsTo domain records more rest all new
  leads_next with_one step x ahead rest all old new is so adds = λ last others. so last
      (λ known has. subst (λ ks. FindsDistrusted domain records ks last) (sym (ap (more known) is ∙ step known x rest))
      (others (with_one known x) (adds known has)))

  -- the same at a place of the list
  pub leads_more : (with_one : List KnownKey → X → List KnownKey)
      → ((known : List KnownKey) (x : X) (xs : List X) → more known (x ∷ xs) ≡ more (with_one known x) xs)
      → (x : X) (k : ℕ) (items : List X) (all : List KnownKey) (old new : DistrustedKeys) → k < length items → x ≡ get_or items k x
      → LeadsTo domain records more (drop k items) all old → Adds domain records (λ known. with_one known x) old new
      → LeadsTo domain records more (drop (k + 1) items) all new
  leads_more with_one step x k items all old new low is so adds =
      leads_next with_one step x (drop k items) (drop (k + 1) items) all old new
      (drop_more items k x low ∙ ap (λ z. z ∷ drop (k + 1) items) (sym is)) so adds

  -- after the last item
  pub leads_end : ((known : List KnownKey) → more known [] ≡ known) → (rest : List X) (all : List KnownKey) (found : DistrustedKeys) → rest ≡ []
      → LeadsTo domain records more rest all found → FindsDistrusted domain records all found
  leads_end none rest all found empty so =
      so found (λ known has. subst (λ ks. FindsDistrusted domain records ks found) (sym (ap (more known) empty ∙ none known)) has)

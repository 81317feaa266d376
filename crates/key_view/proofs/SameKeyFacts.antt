-- The keys that share a public key with a distrusted key, in any listing of a domain's keys.
use Rattle.std.proofs.Common.{◌≡◌, ℕ, ◌+◌, Bool, true, false, not, ◌&&◌, ◌||◌, cond, List, [], ◌∷◌, ◌++◌, length, refl, sym, ap, ◌∙◌, subst, arith}
use Rattle.std.proofs.Common.{add-one, inl, inr, append_assoc, append-nil, nat_eq, Option, Some, None}
use Rattle.std.specs.Prelude.{Contains}
use Rattle.std.specs.Str.{bytes_eq}
use Rattle.std.specs.List.{AllByRecursion, AllZip, list_any}
use Rattle.std.specs.BTreeSet.{BTreeSet}
use Rattle.std.proofs.lemmas.Bool.{cases_Bool, false_from_ne_true}
use Rattle.std.proofs.lemmas.List.Folds.{list_any-append}
use Rattle.std.proofs.lemmas.Slice.Eq.{bytes_eq-Decides}
use Rattle.jwk_set.specs.declared.authority.Authority.{Authority}
use Rattle.jwk_set.specs.declared.authority.Authority.TheVariants.{X509, Jwt}
use Rattle.jwk_set.specs.declared.authority.KeyId.{KeyId}
use Rattle.bundle_doc.specs.Bundle.{Bundle, doc_id_of}
use Rattle.bundle_doc.specs.declared.document.DocId.{DocId}
use Rattle.receipt_core.specs.Acceptance.{Meaning}
use Rattle.receipt_core.specs.Receipt.{Receipt}
use Rattle.receipt_core.specs.declared.distrust.Distrust.{Distrust}
use Rattle.closure_core.specs.AcceptedList.{IsAcceptedList, document_cmp}
use Rattle.closure_core.specs.Order.{document_total}
use Rattle.closure_core.proofs.ContainsFacts.{contains_cases, contains_none}
use Rattle.bundle_view.proofs.RisingListFacts.{same_list}
use Rattle.key_view.specs.declared.distrusted_keys.DistrustedKeys.{DistrustedKeys}
use Rattle.key_view.specs.declared.known_entry.KeyEntry.{KeyEntry}
use Rattle.key_view.specs.declared.known_entry.KeyParts.{KeyParts}
use Rattle.key_view.specs.declared.met_keys.KnownKey.{KnownKey}
use Rattle.key_view.specs.KeyEntries.{DomainView, IsKeyEntry, bundle_ids, bundle_lists, has_distrusted_key, has_distrusted_parts, has_public_key}
use Rattle.key_view.specs.KeyEntries.{is_one_public_key, is_own_id}
use Rattle.key_view.specs.KnownKeys.{id_of_der, is_one_key, keys_of_documents, known_keys, knows, with_authorities, with_der, with_documents}
use Rattle.key_view.specs.KnownKeys.{with_keys_of_receipt, with_keys_of_receipts, with_listed}
use Rattle.key_view.specs.SameKeys.{AreSameKeysOf, has_record, same_ids_among}
use Rattle.key_view.specs.Inside.Distrusted.{AreKnownAs, AreTrustedWith, FindsDistrusted, has_key_of, is_trusted_with, trusted_ids}
use Rattle.key_view.specs.Inside.PublicKeys.{HasPublicKeys}
use Rattle.key_view.proofs.DistrustedFacts.{der_known, der_new, knows_der}
use Rattle.key_view.proofs.PublicKeyFacts.{or_none}
use Rattle.key_view.proofs.ZipFacts.{zip_cut}

-- ---- which keys accepted documents list

or_assoc : (a b c : Bool) → ((a || b) || c) ≡ (a || (b || c))
or_assoc true b c = refl
or_assoc false b c = refl

knows_listed : (known : List KnownKey) (a : Authority) (id : KeyId) → knows (with_listed known a) id ≡ (knows known id || is_own_id id a)
knows_listed known (X509 key der) id = knows_der known der id
knows_listed known (Jwt kid key) id = or_none (knows known id)

knows_authorities : (known : List KnownKey) (authorities : List Authority) (id : KeyId)
    → knows (with_authorities known authorities) id ≡ (knows known id || list_any (is_own_id id) authorities)
knows_authorities known [] id = or_none (knows known id)
knows_authorities known (a ∷ others) id =
    knows_authorities (with_listed known a) others id ∙ ap (λ b. b || list_any (is_own_id id) others) (knows_listed known a id)
    ∙ or_assoc (knows known id) (is_own_id id a) (list_any (is_own_id id) others)

knows_documents : (known : List KnownKey) (ds : List Bundle) (id : KeyId)
    → knows (with_documents known ds) id ≡ (knows known id || list_any (bundle_lists id) ds)
knows_documents known [] id = or_none (knows known id)
knows_documents known (d ∷ others) id =
    knows_documents (with_authorities known d.authorities) others id
    ∙ ap (λ b. b || list_any (bundle_lists id) others) (knows_authorities known d.authorities id)
    ∙ or_assoc (knows known id) (bundle_lists id d) (list_any (bundle_lists id) others)

not_none : (n : ℕ) → not (nat_eq (n + 1) 0) ≡ true
not_none n = let more : nat_eq (n + 1) 0 ≡ false = grind arith in ap not more

-- a key has no document exactly if none lists it
no_bundles : (domain : List ℕ) (id : KeyId) (ds : List Bundle) → not (nat_eq (length (bundle_ids domain id ds)) 0) ≡ list_any (bundle_lists id) ds
no_bundles domain id [] = refl
no_bundles domain id (d ∷ others) =
    at_first (bundle_lists id d) (bundle_ids domain id others) (list_any (bundle_lists id) others) (no_bundles domain id others) where
      at_first : (b : Bool) (ids : List DocId) (c : Bool) → not (nat_eq (length ids) 0) ≡ c
          → not (nat_eq (length (cond b (record { 0 = doc_id_of domain d } ∷ ids) ids)) 0) ≡ (b || c)
      at_first true ids c so = ap (λ n. not (nat_eq n 0)) (sym (add-one (length ids))) ∙ not_none (length ids)
      at_first false ids c so = so

-- ---- the keys of held documents come after those of accepted ones

each_more : {X : Type 0} (P Q : X → Type 0) (xs : List X) → ((x : X) → P x → Q x) → AllByRecursion P xs → AllByRecursion Q xs
each_more P Q [] more all = tt
each_more P Q (x ∷ xs) more all = (more x all.0, each_more P Q xs more all.1)

each_append : {X : Type 0} (P : X → Type 0) (xs ys : List X) → AllByRecursion P xs → AllByRecursion P ys → AllByRecursion P (xs ++ ys)
each_append P [] ys first second = second
each_append P (x ∷ xs) ys first second = (first.0, each_append P xs ys first.1 second)

abbrev IsNew : List KnownKey → KnownKey → Type 0
IsNew known k = knows known k.key ≡ false

-- new keys were put after these
record Extends (known new : List KnownKey) : Type 0 where
  more : List KnownKey
  is : new ≡ known ++ more
  new_keys : AllByRecursion (IsNew known) more

extends_none : (known : List KnownKey) → Extends known known
extends_none known = record {
  more = [];
  is = sym (append-nil known);
  new_keys = tt;
}

not_before : (b c d : Bool) → b ≡ (c || d) → b ≡ false → c ≡ false
not_before b true d is none = sym is ∙ none
not_before b false d is none = refl

extends_then : (a b c : List KnownKey) → Extends a b → Extends b c → Extends a c
extends_then a b c first second = record {
  more = first.more ++ second.more;
  is = second.is ∙ ap (λ ks. ks ++ second.more) first.is ∙ append_assoc a first.more second.more;
  new_keys = each_append (IsNew a) first.more second.more first.new_keys (each_more (IsNew b) (IsNew a) second.more
      (λ k new. not_before (knows b k.key) (knows a k.key) (knows first.more k.key)
      (ap (λ ks. knows ks k.key) first.is ∙ list_any-append (λ (own : KnownKey). is_one_key own.key k.key) a first.more) new) second.new_keys);
}

extends_der : (known : List KnownKey) (der : List ℕ) → Extends known (with_der known der)
extends_der known der = elim (cases_Bool (knows known (id_of_der der))) [
  | inl old ↦ subst (Extends known) (sym (der_known known der old)) (extends_none known)
  | inr new ↦ record {
    more = record { key = id_of_der der; der = der } ∷ [];
    is = der_new known der new;
    new_keys = (new, tt);
  }
]

extends_listed : (known : List KnownKey) (a : Authority) → Extends known (with_listed known a)
extends_listed known (X509 key der) = extends_der known der
extends_listed known (Jwt kid key) = extends_none known

extends_authorities : (known : List KnownKey) (authorities : List Authority) → Extends known (with_authorities known authorities)
extends_authorities known [] = extends_none known
extends_authorities known (a ∷ others) =
    extends_then known (with_listed known a) (with_authorities (with_listed known a) others) (extends_listed known a)
    (extends_authorities (with_listed known a) others)

extends_receipt : (domain : List ℕ) (known : List KnownKey) (r : Receipt) → Extends known (with_keys_of_receipt domain known r)
extends_receipt domain known r = either (bytes_eq r.domain domain) where
  either : (b : Bool) → Extends known (cond b (with_authorities known r.document.authorities) known)
  either true = extends_authorities known r.document.authorities
  either false = extends_none known

extends_receipts : (domain : List ℕ) (known : List KnownKey) (held : List Receipt) → Extends known (with_keys_of_receipts domain known held)
extends_receipts domain known [] = extends_none known
extends_receipts domain known (r ∷ others) =
    extends_then known (with_keys_of_receipt domain known r) (with_keys_of_receipts domain (with_keys_of_receipt domain known r) others)
    (extends_receipt domain known r) (extends_receipts domain (with_keys_of_receipt domain known r) others)

-- known keys are known
or_true : (b c : Bool) → c ≡ true → (b || c) ≡ true
or_true true c is = refl
or_true false c is = is

known_self : (known : List KnownKey) → AllByRecursion (λ k. knows known k.key ≡ true) known
known_self [] = tt
known_self (k ∷ others) = (
  ap (λ b. b || knows others k.key) ((bytes_eq-Decides k.key.0 k.key.0).1 refl),
  each_more (λ o. knows others o.key ≡ true) (λ o. knows (k ∷ others) o.key ≡ true) others
      (λ o is. or_true (is_one_key k.key o.key) (knows others o.key) is) (known_self others),
)

-- ---- what a listing says of the keys

and_true : (b : Bool) → (b && true) ≡ b
and_true true = refl
and_true false = refl

module _ (of : DomainView) where
  listed_as : (known : KnownKey) (e : KeyEntry) (b : Bool) → IsKeyEntry of known e → knows (keys_of_documents of.accepted) known.key ≡ b
      → not (nat_eq (length e.bundles.items) 0) ≡ b
  listed_as known e b is so =
      ap (λ (ids : List DocId). not (nat_eq (length ids) 0)) is.bundles ∙ no_bundles of.domain known.key of.accepted
      ∙ sym (knows_documents [] of.accepted known.key) ∙ so

  known_as : (known : List KnownKey) (entries : List KeyEntry) → AllZip (IsKeyEntry of) known entries
      → AreKnownAs of.domain of.records known entries
  known_as [] [] zip = tt
  known_as [] (e ∷ entries) zip = absurd zip
  known_as (k ∷ known) [] zip = absurd zip
  known_as (k ∷ known) (e ∷ entries) zip = (
    record { key = zip.0.key; parts = zip.0.parts; distrusted = zip.0.distrusted },
    known_as known entries zip.1,
  )

  module _ (all : List KeyEntry) (public_keys : BTreeSet (List ℕ)) (has : HasPublicKeys all public_keys) where
    same_parts : (parts : Option KeyParts) → has_distrusted_parts all parts ≡ has_key_of public_keys parts
    same_parts None = refl
    same_parts (Some p) = sym (has.same p.public_key)

    -- those that accepted documents list
    same_listed : (known : List KnownKey) (entries : List KeyEntry) → AllZip (IsKeyEntry of) known entries
        → AllByRecursion (λ k. knows (keys_of_documents of.accepted) k.key ≡ true) known
        → same_ids_among all entries ≡ trusted_ids public_keys entries
    same_listed [] [] zip each = refl
    same_listed [] (e ∷ entries) zip each = absurd zip
    same_listed (k ∷ known) [] zip each = absurd zip
    same_listed (k ∷ known) (e ∷ entries) zip each =
        ap (λ b. cond b (e.key ∷ same_ids_among all entries) (same_ids_among all entries))
        (ap (λ b. not e.is_distrusted && b && has_distrusted_parts all e.parts) (listed_as k e true zip.0 each.0)
        ∙ ap (λ b. b && has_distrusted_parts all e.parts) (and_true (not e.is_distrusted))
        ∙ ap (λ h. not e.is_distrusted && h) (same_parts e.parts))
        ∙ ap (λ ids. cond (is_trusted_with public_keys e) (e.key ∷ ids) ids) (same_listed known entries zip.1 each.1)

  -- those that only held documents list
  same_held : (all : List KeyEntry) (known : List KnownKey) (entries : List KeyEntry) → AllZip (IsKeyEntry of) known entries
      → AllByRecursion (IsNew (keys_of_documents of.accepted)) known → same_ids_among all entries ≡ []
  same_held all [] [] zip each = refl
  same_held all [] (e ∷ entries) zip each = absurd zip
  same_held all (k ∷ known) [] zip each = absurd zip
  same_held all (k ∷ known) (e ∷ entries) zip each =
      ap (λ b. cond b (e.key ∷ same_ids_among all entries) (same_ids_among all entries))
      (ap (λ b. not e.is_distrusted && b && has_distrusted_parts all e.parts) (listed_as k e false zip.0 each.0) ∙ and_no (not e.is_distrusted))
      ∙ same_held all known entries zip.1 each.1 where
        and_no : (b : Bool) → (b && false && has_distrusted_parts all e.parts) ≡ false
        and_no true = refl
        and_no false = refl

same_ids-append : (all xs ys : List KeyEntry) → same_ids_among all (xs ++ ys) ≡ same_ids_among all xs ++ same_ids_among all ys
same_ids-append all [] ys = refl
same_ids-append all (x ∷ xs) ys =
    ap (λ ids. cond (has_distrusted_key all x) (x.key ∷ ids) ids) (same_ids-append all xs ys) ∙ in_front (has_distrusted_key all x) where
      in_front : (b : Bool) → cond b (x.key ∷ (same_ids_among all xs ++ same_ids_among all ys)) (same_ids_among all xs ++ same_ids_among all ys)
          ≡ cond b (x.key ∷ same_ids_among all xs) (same_ids_among all xs) ++ same_ids_among all ys
      in_front true = refl
      in_front false = refl

-- ---- the answer

-- a domain has one list of accepted documents
one_accepted : (m : Meaning) (domain : List ℕ) (ds es : List Bundle) → IsAcceptedList m domain ds → IsAcceptedList m domain es → ds ≡ es
one_accepted m domain ds es p q =
    same_list document_cmp document_total ds es p.rising q.rising (λ d h. q.complete d (p.sound d h))
    (λ d h. p.complete d (q.sound d h))

same_among : (m : Meaning) (of : DomainView) (found : DistrustedKeys) (ids : List KeyId) (entries : List KeyEntry)
    → AllZip (IsKeyEntry of) (known_keys m.held of.domain of.accepted) entries
    → FindsDistrusted of.domain of.records (known_keys m.held of.domain of.accepted) found
    → AreTrustedWith of.domain of.records found.public_keys (keys_of_documents of.accepted) ids
    → ids ≡ same_ids_among entries entries
same_among m of found ids entries zip has are =
    let keys : List KnownKey = keys_of_documents of.accepted in
    let extends = extends_receipts of.domain keys m.held in
    let cut = zip_cut (IsKeyEntry of) keys extends.more entries
    (subst (λ ks. AllZip (IsKeyEntry of) ks entries) extends.is zip) in
    let public_keys = has.public_keys entries (known_as of (known_keys m.held of.domain of.accepted) entries zip) in
    are cut.first (known_as of keys cut.first cut.firsts)
    ∙ sym (same_listed of entries found.public_keys public_keys keys cut.first cut.firsts (known_self keys))
    ∙ sym (append-nil (same_ids_among entries cut.first))
    ∙ ap (λ others. same_ids_among entries cut.first ++ others) (sym (same_held of entries extends.more cut.second cut.seconds extends.new_keys))
    ∙ sym (same_ids-append entries cut.first cut.second)
    ∙ ap (same_ids_among entries) (sym cut.is)

-- what `same_keys_of` returns
pub same_of : (m : Meaning) (domain : List ℕ) (accepted : List Bundle) (found : DistrustedKeys) (ids : List KeyId) → IsAcceptedList m domain accepted
    → FindsDistrusted domain m.records (known_keys m.held domain accepted) found
    → AreTrustedWith domain m.records found.public_keys (keys_of_documents accepted) ids → AreSameKeysOf m domain ids
same_of m domain accepted found ids is has are = λ keys of so.
    let same : so.accepted ≡ accepted =
    one_accepted m domain so.accepted accepted (subst (λ x. IsAcceptedList m x so.accepted) of so.are_accepted) is in
    let zip : AllZip (IsKeyEntry (record { domain = domain; accepted = so.accepted; records = m.records }))
    (known_keys m.held domain so.accepted) keys.keys.items =
    subst (λ x. AllZip (IsKeyEntry (record { domain = x; accepted = so.accepted; records = m.records }))
    (known_keys m.held x so.accepted) keys.keys.items) of so.each in
    same_among m (record { domain = domain; accepted = accepted; records = m.records }) found ids keys.keys.items
    (subst (λ ds. AllZip (IsKeyEntry (record { domain = domain; accepted = ds; records = m.records }))
    (known_keys m.held domain ds) keys.keys.items) same zip) has are

-- ---- a domain without a record of distrust

record_found : (domain : List ℕ) (records : List Distrust) (r : Distrust) → Contains records r → r.domain ≡ domain → has_record domain records ≡ true
record_found domain [] r has is = absurd (contains_none r has)
record_found domain (first ∷ others) r has is = elim (contains_cases first others r has) [
  | inl same ↦ ap (λ b. b || has_record domain others)
      ((bytes_eq-Decides first.domain domain).1 (ap (λ (d : Distrust). d.domain) same ∙ is))
  | inr later ↦ or_true (bytes_eq first.domain domain) (has_record domain others) (record_found domain others r later is)
]

none_distrusted : (of : DomainView) (known : List KnownKey) (entries : List KeyEntry) (wanted : List ℕ) → AllZip (IsKeyEntry of) known entries
    → has_record of.domain of.records ≡ false → has_public_key entries wanted ≡ false
none_distrusted of [] [] wanted zip lacks = refl
none_distrusted of [] (e ∷ entries) wanted zip lacks = absurd zip
none_distrusted of (k ∷ known) [] wanted zip lacks = absurd zip
none_distrusted of (k ∷ known) (e ∷ entries) wanted zip lacks =
    let trusted : e.is_distrusted ≡ false =
    false_from_ne_true e.is_distrusted (λ is. absurd (let found : has_record of.domain of.records ≡ true =
    record_found of.domain of.records (record { domain = of.domain; key = k.key }) (zip.0.distrusted.0 is) refl in
    let wrong : true ≡ false = sym found ∙ lacks in cc)) in
    ap (λ b. (b && is_one_public_key e.parts wanted) || has_public_key entries wanted) trusted
    ∙ none_distrusted of known entries wanted zip.1 lacks

none_same : (all entries : List KeyEntry) → ((wanted : List ℕ) → has_public_key all wanted ≡ false) → same_ids_among all entries ≡ []
none_same all [] none = refl
none_same all (e ∷ entries) none =
    ap (λ b. cond b (e.key ∷ same_ids_among all entries) (same_ids_among all entries))
    (ap (λ h. not e.is_distrusted && not (nat_eq (length e.bundles.items) 0) && h) (no_parts e.parts)
    ∙ and_last (not e.is_distrusted) (not (nat_eq (length e.bundles.items) 0)))
    ∙ none_same all entries none where
      no_parts : (parts : Option KeyParts) → has_distrusted_parts all parts ≡ false
      no_parts None = refl
      no_parts (Some p) = none p.public_key

      and_last : (b c : Bool) → (b && c && false) ≡ false
      and_last true true = refl
      and_last true false = refl
      and_last false c = refl

pub same_without_record : (m : Meaning) (domain : List ℕ) (ids : List KeyId) → has_record domain m.records ≡ false → ids ≡ [] → AreSameKeysOf m domain ids
same_without_record m domain ids lacks empty = λ keys of so.
    empty ∙ sym (none_same keys.keys.items keys.keys.items (λ wanted. none_distrusted
    (record { domain = keys.domain; accepted = so.accepted; records = m.records })
    (known_keys m.held keys.domain so.accepted) keys.keys.items wanted so.each (ap (λ x. has_record x m.records) of ∙ lacks)))

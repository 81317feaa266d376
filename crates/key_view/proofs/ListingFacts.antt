-- Which documents list a key, one authority and one document after another.
use Rattle.std.proofs.Common.{◌≡◌, ◌<◌, ◌≤◌, ◌+◌, ℕ, Bool, true, false, ◌||◌, cond, List, [], ◌∷◌, ◌++◌, length, get_or, take, refl, sym, ap, ◌∙◌, subst, arith}
use Rattle.std.proofs.Common.{append_assoc, append-nil, add-one, nat_eq, Option, Some, None}
use Rattle.std.proofs.Math.Seq.{take-suc}
use Rattle.std.proofs.lemmas.List.{take_all}
use Rattle.std.proofs.lemmas.List.Folds.{list_any-append}
use Rattle.std.proofs.lemmas.Slice.Eq.{bytes_eq-Decides}
use Rattle.std.specs.List.{AllZip, list_any}
use Rattle.std.specs.Ordering.{is_eq}
use Rattle.std.specs.BTreeMap.{BTreeMap, is_at}
use Rattle.std.specs.Map.{lookup}
use Rattle.jwk_set.specs.Element.{key_id_of}
use Rattle.jwk_set.specs.declared.authority.Authority.{Authority}
use Rattle.jwk_set.specs.declared.authority.KeyId.{KeyId}
use Rattle.bundle_doc.specs.Bundle.{Bundle, doc_id_of}
use Rattle.bundle_doc.specs.declared.document.DocId.{DocId}
use Rattle.receipt_core.specs.Receipt.{key_cmp}
use Rattle.receipt_core.specs.declared.distrust.Distrust.{Distrust}
use Rattle.key_view.specs.KnownKeys.{is_one_key}
use Rattle.key_view.specs.KeyEntries.{IsKeyEntry, bundle_ids, bundle_lists, is_own_id}
use Rattle.key_view.specs.declared.known_entry.KeyEntry.{KeyEntry}
use Rattle.key_view.specs.declared.listings.Listing.{Listing}
use Rattle.key_view.specs.declared.met_keys.KnownKey.{KnownKey}
use Rattle.key_view.specs.Inside.Listed.{AddsKey, AddsListed, AreListings, ListsBefore, IsListedEntry, ids_of, last_listed, listing_at, with_id}
use Rattle.key_view.proofs.MetFacts.{same_key}

-- ---- one key

pub one_key : (key q : KeyId) → is_one_key key q ≡ true → key ≡ q
one_key key q same = λ i. record { 0 = (bytes_eq-Decides key.0 q.0).0 same i }

new_ids : (b : Bool) (new old : Option Listing) (listing : Listing) (picked : List DocId) → new ≡ cond b (Some listing) (cond b None old)
    → (b ≡ true → listing.ids.items ≡ picked) → ids_of new ≡ cond b picked (ids_of old)
new_ids true new old listing picked e h = ap ids_of e ∙ h refl
new_ids false new old listing picked e h = ap ids_of e

new_last : (b : Bool) (new old : Option Listing) (listing : Listing) (number : ℕ) → new ≡ cond b (Some listing) (cond b None old)
    → listing.last ≡ number → last_listed new ≡ cond b number (last_listed old)
new_last true new old listing number e h = ap last_listed e ∙ h
new_last false new old listing number e h = ap last_listed e

-- what was known of the key was taken out, and put back with the document: the step of `list_key`
pub key_listed : (id : DocId) (number : ℕ) (key : KeyId) (old mid new : BTreeMap KeyId Listing) (before : Option Listing) (listing : Listing)
    → before ≡ listing_at old key
    → ((q : KeyId) → listing_at mid q ≡ cond (is_eq (key_cmp key q)) None (listing_at old q))
    → ((q : KeyId) → listing_at new q ≡ cond (is_eq (key_cmp key q)) (Some listing) (listing_at mid q))
    → listing.ids.items ≡ with_id id number before → listing.last ≡ number → AddsKey id number (Some key) old new
key_listed id number key old mid new before listing was out put ids last =
    let at : (q : KeyId) → listing_at new q ≡ cond (is_one_key key q) (Some listing) (cond (is_one_key key q) None (listing_at old q))
    = λ q. put q ∙ ap (λ b. cond b (Some listing) (listing_at mid q)) (same_key key q)
    ∙ ap (λ l. cond (is_one_key key q) (Some listing) l) (out q ∙ ap (λ b. cond b None (listing_at old q)) (same_key key q)) in
    record {
      ids = λ q. new_ids (is_one_key key q) (listing_at new q) (listing_at old q) listing (with_id id number (listing_at old q)) (at q)
          (λ same. ids ∙ ap (with_id id number) (was ∙ ap (listing_at old) (one_key key q same)));
      last = λ q. new_last (is_one_key key q) (listing_at new q) (listing_at old q) listing number (at q) last;
    }

-- ---- one document

nat_eq_self : (n : ℕ) → nat_eq n n ≡ true
nat_eq_self n = grind arith

nat_eq_below : (m n : ℕ) → m < n → nat_eq m n ≡ false
nat_eq_below m n low = grind (arith, low)

-- before the first authority
pub listed_none : (id : DocId) (number : ℕ) (m : BTreeMap KeyId Listing) → ListsBefore number m → AddsListed id number [] m m
listed_none id number m before = record {
  ids = λ key. sym (append-nil (ids_of (listing_at m key)));
  last = λ key. nat_eq_below (last_listed (listing_at m key)) number (before.low key);
  low = λ key. let low : last_listed (listing_at m key) < number = before.low key in omega arith;
}

more_ids : (b c : Bool) (old mid new : List DocId) (id : DocId) → mid ≡ old ++ cond b (id ∷ []) []
    → new ≡ cond c (cond b mid (mid ++ id ∷ [])) mid → new ≡ old ++ cond (b || (c || false)) (id ∷ []) []
more_ids true true old mid new id was now = now ∙ was
more_ids true false old mid new id was now = now ∙ was
more_ids false true old mid new id was now = now ∙ ap (λ ids. ids ++ id ∷ []) (was ∙ append-nil old)
more_ids false false old mid new id was now = now ∙ was

more_last : (b c : Bool) (mid new number : ℕ) → nat_eq mid number ≡ b → new ≡ cond c number mid → nat_eq new number ≡ (b || (c || false))
more_last true true mid new number was now = ap (λ n. nat_eq n number) now ∙ nat_eq_self number
more_last true false mid new number was now = ap (λ n. nat_eq n number) now ∙ was
more_last false true mid new number was now = ap (λ n. nat_eq n number) now ∙ nat_eq_self number
more_last false false mid new number was now = ap (λ n. nat_eq n number) now ∙ was

more_low : (c : Bool) (mid new number : ℕ) → mid ≤ number → new ≡ cond c number mid → new ≤ number
more_low true mid new number low now = let same : new ≡ number = now in omega arith
more_low false mid new number low now = let same : new ≡ mid = now in omega arith

adds_more : (id : DocId) (number : ℕ) (authorities : List Authority) (a : Authority) (old mid new : BTreeMap KeyId Listing)
    → AddsListed id number authorities old mid → AddsKey id number (key_id_of a) mid new → AddsListed id number (authorities ++ a ∷ []) old new
adds_more id number authorities a old mid new so more = record {
  ids = λ key. more_ids (list_any (is_own_id key) authorities) (is_own_id key a) (ids_of (listing_at old key)) (ids_of (listing_at mid key))
      (ids_of (listing_at new key)) id (so.ids key)
      (more.ids key ∙ ap (λ b. cond (is_own_id key a) (cond b (ids_of (listing_at mid key)) (ids_of (listing_at mid key) ++ id ∷ []))
      (ids_of (listing_at mid key))) (so.last key))
      ∙ ap (λ b. ids_of (listing_at old key) ++ cond b (id ∷ []) []) (sym (list_any-append (is_own_id key) authorities (a ∷ [])));
  last = λ key. more_last (list_any (is_own_id key) authorities) (is_own_id key a) (last_listed (listing_at mid key)) (last_listed (listing_at new key)) number
      (so.last key) (more.last key)
      ∙ sym (list_any-append (is_own_id key) authorities (a ∷ []));
  low = λ key. more_low (is_own_id key a) (last_listed (listing_at mid key)) (last_listed (listing_at new key)) number (so.low key) (more.last key);
}

-- one more authority: the step of the loop in `list_document`
pub listed_more : (id : DocId) (number : ℕ) (authorities : List Authority) (k : ℕ) (a : Authority) (old mid new : BTreeMap KeyId Listing)
    → k < length authorities → a ≡ get_or authorities k a → AddsListed id number (take k authorities) old mid → AddsKey id number (key_id_of a) mid new
    → AddsListed id number (take (k + 1) authorities) old new
listed_more id number authorities k a old mid new low is so more =
    let taken : take (k + 1) authorities ≡ take k authorities ++ a ∷ [] =
    ap (λ n. take n authorities) (add-one k) ∙ take-suc authorities k a low ∙ ap (λ z. take k authorities ++ z ∷ []) (sym is) in
    subst (λ xs. AddsListed id number xs old new) (sym taken) (adds_more id number (take k authorities) a old mid new so more)

-- after the last authority
pub listed_all : (id : DocId) (number : ℕ) (authorities : List Authority) (k : ℕ) (old new : BTreeMap KeyId Listing) → length authorities ≤ k
    → AddsListed id number (take k authorities) old new → AddsListed id number authorities old new
listed_all id number authorities k old new high so = subst (λ xs. AddsListed id number xs old new) (take_all k authorities high) so

-- ---- the documents

-- this many documents were looked at
pub record AreListed (domain : List ℕ) (accepted : List Bundle) (k : ℕ) (listings : BTreeMap KeyId Listing) : Type 0 where
  pub are : AreListings domain (take k accepted) listings
  pub before : ListsBefore (k + 1) listings

none_at : (m : BTreeMap KeyId Listing) (key : KeyId) → m.entries ≡ [] → listing_at m key ≡ None
none_at m key empty = ap (λ es. lookup (is_at (key_cmp key)) es) empty

one_more : (b : Bool) (id : DocId) (others : List DocId) → cond b (id ∷ others) others ≡ cond b (id ∷ []) [] ++ others
one_more true id others = refl
one_more false id others = refl

bundle_ids-append : (domain : List ℕ) (key : KeyId) (ds es : List Bundle)
    → bundle_ids domain key (ds ++ es) ≡ bundle_ids domain key ds ++ bundle_ids domain key es
bundle_ids-append domain key [] es = refl
bundle_ids-append domain key (d ∷ ds) es =
    let own : List DocId = cond (bundle_lists key d) (record { 0 = doc_id_of domain d } ∷ []) [] in
    one_more (bundle_lists key d) (record { 0 = doc_id_of domain d }) (bundle_ids domain key (ds ++ es))
    ∙ ap (λ ids. own ++ ids) (bundle_ids-append domain key ds es)
    ∙ sym (append_assoc own (bundle_ids domain key ds) (bundle_ids domain key es))
    ∙ ap (λ ids. ids ++ bundle_ids domain key es) (sym (one_more (bundle_lists key d) (record { 0 = doc_id_of domain d }) (bundle_ids domain key ds)))

-- one more document: the step of the loop in `accepted_listings`
pub listings_more : (domain : List ℕ) (accepted : List Bundle) (k : ℕ) (d : Bundle) (id : DocId) (number : ℕ) (old new : BTreeMap KeyId Listing)
    → k < length accepted → d ≡ get_or accepted k d → AreListed domain accepted k old → id.0 ≡ doc_id_of domain d → number ≡ k + 1
    → AddsListed id number d.authorities old new → AreListed domain accepted (k + 1) new
listings_more domain accepted k d id number old new low is so is_id is_number more =
    let taken : take (k + 1) accepted ≡ take k accepted ++ d ∷ [] =
    ap (λ n. take n accepted) (add-one k) ∙ take-suc accepted k d low ∙ ap (λ z. take k accepted ++ z ∷ []) (sym is) in
    record {
      are = record {
        ids = λ key. more.ids key
            ∙ ap (λ ids. ids ++ cond (bundle_lists key d) (id ∷ []) []) (so.are.ids key)
            ∙ ap (λ (own : DocId). bundle_ids domain key (take k accepted) ++ cond (bundle_lists key d) (own ∷ []) []) (λ i. record { 0 = is_id i })
            ∙ sym (bundle_ids-append domain key (take k accepted) (d ∷ []))
            ∙ ap (bundle_ids domain key) (sym taken);
      };
      before = record {
        low = λ key. let high : last_listed (listing_at new key) ≤ number = more.low key in omega arith;
      };
    }

-- ---- the entries

entry_listed : (domain : List ℕ) (accepted : List Bundle) (records : List Distrust) (listings : BTreeMap KeyId Listing) (known : KnownKey) (e : KeyEntry)
    → AreListings domain accepted listings → IsListedEntry domain records listings known e
    → IsKeyEntry (record { domain = domain; accepted = accepted; records = records }) known e
entry_listed domain accepted records listings known e are is = record {
  key = is.key;
  parts = is.parts;
  bundles = is.bundles ∙ are.ids known.key;
  distrusted = is.distrusted;
}

-- what the listings say of each key is what the documents say
pub entries_listed : (domain : List ℕ) (accepted : List Bundle) (records : List Distrust) (listings : BTreeMap KeyId Listing)
    (known : List KnownKey) (keys : List KeyEntry) → AreListings domain accepted listings
    → AllZip (IsListedEntry domain records listings) known keys
    → AllZip (IsKeyEntry (record { domain = domain; accepted = accepted; records = records })) known keys
entries_listed domain accepted records listings [] [] are zip = tt
entries_listed domain accepted records listings [] (e ∷ keys) are zip = absurd zip
entries_listed domain accepted records listings (k ∷ known) [] are zip = absurd zip
entries_listed domain accepted records listings (k ∷ known) (e ∷ keys) are zip =
    (entry_listed domain accepted records listings k e are zip.0, entries_listed domain accepted records listings known keys are zip.1)

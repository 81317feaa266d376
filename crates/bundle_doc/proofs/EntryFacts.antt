-- Authorities gathered under their texts, and the text that is written for them.
use Rattle.std.proofs.Common.{◌≡◌, ℕ, suc, ◌+◌, ◌<◌, ◌≤◌, ◌==◌, ◌⊎◌, ◌↔◌, inl, inr, List, [], ◌∷◌, ◌++◌, length, drop}
use Rattle.std.proofs.Common.{get_or, Bool, true, false, not, Option, Some, None, Less, Greater, Equal, Ordering}
use Rattle.std.proofs.Common.{String, Global, string_bytes, string_cmp, is_eq, codes, decimal, refl, sym, ap, ap₂, ◌∙◌}
use Rattle.std.proofs.Common.{subst, arith, append-nil, append_assoc, drop-cons, add-one}
use Rattle.std.specs.Ordering.{nat_cmp, match_ordering}
use Rattle.std.specs.Cmp.Lexicographic.{slice_cmp}
use Rattle.std.specs.List.{AllByRecursion}
use Rattle.std.specs.List.Sorted.{IsStrictlySortedBy}
use Rattle.std.specs.BTreeMap.{insert_entry}
use Rattle.std.specs.Map.{keys_of}
use Rattle.std.proofs.lemmas.Bool.{ne_eqb}
use Rattle.std.proofs.lemmas.List.{drop_all}
use Rattle.std.proofs.lemmas.Map.Text.{is_eq-slice_cmp}
use Rattle.std.proofs.lemmas.Slice.Eq.{bytes_eq-Decides}
use Rattle.serde_json.specs.Data.{Data, Items, no_items, item, Members, no_members}
use Rattle.serde_json.specs.View.{view, items_view}
use Rattle.serde_json.specs.Written.{items_text, members_text, comma_if}
use Rattle.serde_json.specs.declared.value.Value.{Value}
use Rattle.json.specs.Print.{quoted, escape_byte}
use Rattle.jwk_set.specs.Element.{IsElement, IsAuthority}
use Rattle.jwk_set.specs.declared.authority.Authority.{Authority}
use Rattle.jwk_set.proofs.ElementFacts.{one_authority}
use Rattle.bundle_doc.specs.Bundle.{Bundle, Has, Says, authority_text, text_cmp, trees, with_number, canonical_text}
use Rattle.bundle_doc.specs.Entries.{Entry, IsAuthorityEntry, AreEntries, authorities_of, AddsElement, keys_text, number_part, numbers_text}
use Rattle.bundle_doc.proofs.BundleFacts.{one_authority_text}

-- ---- one more authority

-- keys that compare as equal have the same bytes
same_key : (k l : String Global) → string_cmp k l ≡ Equal → string_bytes k ≡ string_bytes l
same_key k l e = (bytes_eq-Decides (string_bytes k) (string_bytes l)).0 (sym (is_eq-slice_cmp (string_bytes k) (string_bytes l)) ∙ ap is_eq e)

-- each entry is under its text, whichever way the new one compares with the first: for
-- `AreEntries-insert_entry`
entries_at : (o : Ordering) (k : String Global) (v : Authority) (e : Entry) (es more : List Entry)
    → string_cmp k e.0 ≡ o → IsAuthorityEntry (k, v) → AreEntries (e ∷ es) → AreEntries more
    → AreEntries (match_ordering o ((k, v) ∷ e ∷ es) ((e.0, v) ∷ es) (e ∷ more))
entries_at Less k v e es more is new old rest = (new, old)
entries_at Equal k v e es more is new old rest = ((sym (same_key k e.0 is) ∙ new.0, new.1), old.1)
entries_at Greater k v e es more is new old rest = (old.0, rest)

-- each entry is still under its text when one is put in
pub AreEntries-insert_entry : (es : List Entry) (k : String Global) (v : Authority) → IsAuthorityEntry (k, v)
    → AreEntries es → AreEntries (insert_entry string_cmp es k v)
AreEntries-insert_entry [] k v new old = (new, tt)
AreEntries-insert_entry (e ∷ es) k v new old = entries_at (string_cmp k e.0) k v e es _ refl new old (AreEntries-insert_entry es k v new old.1)

-- the authorities are the new one and the old ones, whichever way it compares with the first: for
-- `Has-insert_entry`
has_at : (o : Ordering) (k : String Global) (v : Authority) (e : Entry) (es more : List Entry) (a : Authority)
    → string_cmp k e.0 ≡ o → IsAuthorityEntry (k, v) → AreEntries (e ∷ es)
    → Has (authorities_of more) a ↔ ((a ≡ v) ⊎ Has (authorities_of es) a)
    → Has (authorities_of (match_ordering o ((k, v) ∷ e ∷ es) ((e.0, v) ∷ es) (e ∷ more))) a ↔ ((a ≡ v) ⊎ Has (authorities_of (e ∷ es)) a)
has_at Less k v e es more a is new old rest = (λ h. h, λ h. h)
has_at Equal k v e es more a is new old rest =
    let same : e.1 ≡ v = one_authority_text e.1 v old.0.1 new.1 (sym old.0.0 ∙ sym (same_key k e.0 is) ∙ new.0) in (
      λ h. elim h [ inl x ↦ inl x | inr y ↦ inr (inr y) ],
      λ h. elim h [ inl x ↦ inl x | inr y ↦ elim y [ inl z ↦ inl (z ∙ same) | inr z ↦ inr z ] ],
    )
has_at Greater k v e es more a is new old rest = (
  λ h. elim h [ inl x ↦ inr (inl x) | inr y ↦ elim (rest.0 y) [ inl z ↦ inl z | inr z ↦ inr (inr z) ] ],
  λ h. elim h [ inl x ↦ inr (rest.1 (inl x)) | inr y ↦ elim y [ inl z ↦ inl z | inr z ↦ inr (rest.1 (inr z)) ] ],
)

-- when an entry is put in, the authorities are the new one and the old ones
pub Has-insert_entry : (es : List Entry) (k : String Global) (v : Authority) (a : Authority) → IsAuthorityEntry (k, v)
    → AreEntries es → Has (authorities_of (insert_entry string_cmp es k v)) a ↔ ((a ≡ v) ⊎ Has (authorities_of es) a)
Has-insert_entry [] k v a new old = (λ h. h, λ h. h)
Has-insert_entry (e ∷ es) k v a new old = has_at (string_cmp k e.0) k v e es _ a refl new old (Has-insert_entry es k v a new old.1)

-- when the authority of an element is put in, what the element says was added and nothing else
pub AddsElement-insert_entry : (es : List Entry) (k : String Global) (v : Authority) (element : Data)
    → IsAuthorityEntry (k, v) → IsElement element v → AddsElement es (insert_entry string_cmp es k v) element
AddsElement-insert_entry es k v element new is = record {
  entries = AreEntries-insert_entry es k v new;
  authorities = λ old a. (
    λ h. elim ((Has-insert_entry es k v a new old).0 h) [ inl x ↦ inl (subst (IsElement element) (sym x) is) | inr y ↦ inr y ],
    λ h. (Has-insert_entry es k v a new old).1 (elim h [ inl x ↦ inl (one_authority element a v x is) | inr y ↦ inr y ]),
  );
}

-- ---- over all elements

-- the items that are left are the next one and what is left after it
items_from : (vs : List Value) (i : ℕ) (v : Value) → i < length vs → get_or vs i v ≡ v → items_view (drop i vs) ≡ item (view v) (items_view (drop (i + 1) vs))
items_from vs i v within is = rw (add-one, drop-cons vs i v) (ap (λ x. item (view x) (items_view (drop (suc i) vs))) is)

-- what was found and what is still to come is what all elements say
abbrev pub Gathers : List Entry → Items → Items → Type 0
Gathers es rest all = (a : Authority) → (Has (authorities_of es) a ⊎ Says rest a) ↔ Says all a

-- what an element says moves from what is still to be read to what was found
pub Gathers-step : (old new : List Entry) (element : Data) (rest all : Items) → AreEntries old
    → AddsElement old new element → Gathers old (item element rest) all → Gathers new rest all
Gathers-step old new element rest all entries adds had a = (
  λ h. (had a).0 (elim h [ inl x ↦ elim ((adds.authorities entries a).0 x) [ inl is ↦ inr (inl is) | inr y ↦ inl y ] | inr y ↦ inr (inr y) ]),
  λ h. elim ((had a).1 h) [
    | inl x ↦ inl ((adds.authorities entries a).1 (inr x))
    | inr y ↦ elim y
        [ inl is ↦ inl ((adds.authorities entries a).1 (inl is)) | inr z ↦ inr z ]
  ],
)

-- the same for the element at an index: the step of the loop in `gather`
pub Gathers-next : (old new : List Entry) (vs : List Value) (i : ℕ) (v : Value) (all : Items) → i < length vs
    → get_or vs i v ≡ v → AreEntries old → AddsElement old new (view v) → Gathers old (items_view (drop i vs)) all
    → Gathers new (items_view (drop (i + 1) vs)) all
Gathers-next old new vs i v all within is entries adds had =
    Gathers-step old new (view v) (items_view (drop (i + 1) vs)) all entries adds (subst (λ rest. Gathers old rest all) (items_from vs i v within is) had)

-- ---- in order

-- an entry that is below others by its key is below them by its authority's text
texts_below : (e : Entry) (es : List Entry) → IsAuthorityEntry e → AreEntries es
    → AllByRecursion (λ k. string_cmp e.0 k ≡ Less) (keys_of es)
    → AllByRecursion (λ b. text_cmp e.1 b ≡ Less) (authorities_of es)
texts_below e [] is are below = tt
texts_below e (f ∷ es) is are below = (ap₂ (slice_cmp nat_cmp) (sym is.0) (sym are.0.0) ∙ below.0, texts_below e es is are.1 below.1)

-- the authorities of entries in order rise by their texts
pub rising_texts : (es : List Entry) → AreEntries es → IsStrictlySortedBy string_cmp (keys_of es) → IsStrictlySortedBy text_cmp (authorities_of es)
unfolding IsStrictlySortedBy
rising_texts [] are rising = tt
rising_texts (e ∷ es) are rising = (texts_below e es are.0 are.1 rising.0, rising_texts es are.1 rising.1)

-- the authorities of entries are in their forms
pub forms_of : (es : List Entry) → AreEntries es → AllByRecursion IsAuthority (authorities_of es)
forms_of [] are = tt
forms_of (e ∷ es) are = (are.0.1, forms_of es are.1)

-- ---- the text

-- the text of one more element was written
pub items_text-next : (out : List ℕ) (later : Bool) (text : List ℕ) (a : Authority) (others : List Authority) → text ≡ authority_text a
    → out ++ items_text later (trees (a ∷ others)) ≡ (out ++ (comma_if later ++ text)) ++ items_text true (trees others)
items_text-next out later text a others is =
    rw is (sym (append_assoc out (comma_if later ++ authority_text a) _
    ∙ ap (λ t. out ++ t) (append_assoc (comma_if later) (authority_text a) _)))

-- the name `keys` needs no escape
quoted_keys : quoted (codes "keys") ≡ codes "\"keys\""
unfolding escape_byte
quoted_keys = refl

-- the same for the name of the refresh hint
quoted_hint : quoted (codes "spiffe_refresh_hint") ≡ codes "\"spiffe_refresh_hint\""
unfolding escape_byte
quoted_hint = refl

-- the same for the name of the sequence number
quoted_sequence : quoted (codes "spiffe_sequence") ≡ codes "\"spiffe_sequence\""
unfolding escape_byte
quoted_sequence = refl

-- the refresh hint is written after its label, or not at all
hint_text : (hint : Option ℕ) (others : Members)
    → members_text true (with_number (codes "spiffe_refresh_hint") hint others)
    ≡ number_part (codes ",\"spiffe_refresh_hint\":") hint ++ members_text true others
hint_text None others = refl
hint_text (Some n) others = ap (λ q. 44 ∷ (q ++ 58 ∷ (decimal n ++ members_text true others))) quoted_hint

-- the sequence number is written after its label, or not at all, and then the closing bracket
sequence_text : (rank : Option ℕ) → members_text true (with_number (codes "spiffe_sequence") rank no_members)
    ≡ number_part (codes ",\"spiffe_sequence\":") rank ++ codes "}"
sequence_text None = refl
sequence_text (Some n) = ap (λ q. 44 ∷ (q ++ 58 ∷ (decimal n ++ codes "}"))) quoted_sequence

-- a canonical text is the text of the elements and then that of the numbers, as the code writes it
pub canonical_text-parts : (b : Bundle) → canonical_text b ≡ keys_text b.authorities ++ numbers_text b.hint b.rank
canonical_text-parts b =
    let ts = items_text false (trees b.authorities) in
    ap (λ q. 123 ∷
    (q ++ 58 ∷ ((91 ∷ ts) ++ members_text true
    (with_number (codes "spiffe_refresh_hint") b.hint (with_number (codes "spiffe_sequence") b.rank no_members)))))
    quoted_keys
    ∙ ap (λ t. codes "{\"keys\":[" ++ (ts ++ t)) (hint_text b.hint _
    ∙ ap (λ t. number_part (codes ",\"spiffe_refresh_hint\":") b.hint ++ t) (sequence_text b.rank))
    ∙ sym (append_assoc (codes "{\"keys\":[") ts (numbers_text b.hint b.rank))

-- ---- the loops' first and last turns

-- before the first element nothing is found and all is to come
pub Gathers-init : (es : List Entry) (all : Items) → es ≡ [] → AreEntries es × Gathers es all all
Gathers-init es all empty = rw empty (tt, λ a. (λ h. elim h [ inl x ↦ absurd x | inr y ↦ y ], λ h. inr h))

-- after the last element what was found is what all elements say
pub Gathers-end : (es : List Entry) (vs : List Value) (i : ℕ) (all : Items) → length vs ≤ i
    → Gathers es (items_view (drop i vs)) all → (a : Authority) → Has (authorities_of es) a ↔ Says all a
Gathers-end es vs i all past had a =
    let done : drop i vs ≡ [] = drop_all i vs past in
    let all_had : (Has (authorities_of es) a ⊎ Says no_items a) ↔ Says all a =
    subst (λ l. (Has (authorities_of es) a ⊎ Says (items_view l) a) ↔ Says all a) done (had a) in
    (λ h. all_had.0 (inl h), λ h. elim (all_had.1 h) [ inl x ↦ x | inr y ↦ absurd y ])

-- the authorities and the text so far, with what the entries that are left give, are all
pub record Writes (left : List Entry) (authorities : List Authority) (count : ℕ) (out : List ℕ) (whole : List Entry) : Type 0 where
  pub entries : AreEntries left
  pub kept : authorities ++ authorities_of left ≡ authorities_of whole
  pub written : out ++ items_text (not (count == 0)) (trees (authorities_of left)) ≡ keys_text (authorities_of whole)

-- after one more the count is not zero, so a comma comes before the next one
counted : (n : ℕ) → not ((n + 1) == 0) ≡ true
counted n = ap not (ne_eqb (n + 1) 0 (λ e. omega arith))

-- one more entry was written: the step of the loop in `write_elements`
pub Writes-next : (e : Entry) (left more : List Entry) (old new : List Authority) (n m : ℕ) (out longer : List ℕ) (whole : List Entry)
    → Writes left old n out whole → left ≡ e ∷ more → new ≡ old ++ e.1 ∷ [] → m ≡ n + 1 → longer ≡ out ++ (comma_if (not (n == 0)) ++ string_bytes e.0)
    → Writes more new m longer whole
Writes-next e left more old new n m out longer whole w is pushed count text =
    let here : Writes (e ∷ more) old n out whole = subst (λ l. Writes l old n out whole) is w in record {
      entries = here.entries.1;
      kept = ap (λ l. l ++ authorities_of more) pushed ∙ append_assoc old (e.1 ∷ []) (authorities_of more) ∙ here.kept;
      written =
          ap₂ (λ t b. t ++ items_text b (trees (authorities_of more))) text (ap (λ k. not (k == 0)) count ∙ counted n)
          ∙ sym (items_text-next out (not (n == 0)) (string_bytes e.0) e.1 (authorities_of more) here.entries.0.0)
          ∙ here.written;
    }

-- with no entry left all are written
pub Writes-end : (left : List Entry) (authorities : List Authority) (n : ℕ) (out : List ℕ) (whole : List Entry)
    → Writes left authorities n out whole → left ≡ []
    → (authorities ≡ authorities_of whole) × (out ++ 93 ∷ [] ≡ keys_text (authorities_of whole))
Writes-end left authorities n out whole w is =
    let here : Writes [] authorities n out whole = subst (λ l. Writes l authorities n out whole) is w in
    (sym (append-nil authorities) ∙ here.kept, here.written)

-- A set has one sorted list, an object means one bundle, and a canonical text is read as it.
use Rattle.std.proofs.Common.{◌≡◌, ℕ, ◌^◌, ◌<◌, ◌≤◌, ◌↔◌, inl, inr, List, [], ◌∷◌, true, Option, Some, None, IfSome}
use Rattle.std.proofs.Common.{Less, Greater, codes, refl, sym, ap, ap₂, ◌∙◌, subst, arith}
use Rattle.std.specs.Ordering.{ordering_reverse}
use Rattle.std.specs.List.{AllByRecursion}
use Rattle.std.specs.List.Sorted.{IsStrictlySortedBy}
use Rattle.std.proofs.lemmas.Cmp.{nat_list_cmp_total, tied_itself}
use Rattle.serde_json.specs.Data.{Data, array, object, Items, no_members, member, depth, items_depth}
use Rattle.serde_json.specs.Read.{read, max_depth}
use Rattle.jwk_set.specs.Json.{IsJson, IsPlain, ArePlain, HasPlainMembers}
use Rattle.jwk_set.specs.Element.{IsElement, IsAuthority, tree_of}
use Rattle.jwk_set.specs.declared.authority.Authority.{Authority}
use Rattle.jwk_set.proofs.ElementFacts.{one_authority, IsPlain-tree_of, depth-tree_of}
use Rattle.jwk_set.proofs.TreeFacts.{IsElement-tree_of}
use Rattle.jwk_set.proofs.PlainFacts.{IsJson-compact_text, read-compact_text}
use Rattle.std.specs.Str.{IsUtf8}
use Rattle.json.proofs.Printed.Utf8.{are_ascii, IsUtf8-are_ascii}
use Rattle.bundle_doc.specs.Bundle.{Bundle, Has, authority_text, text_cmp, IsBundle, Says, HasNumberMember, HasKeys}
use Rattle.bundle_doc.specs.Bundle.{Means, trees, with_number, document_tree, canonical_text, Fits, IsDocument}

-- ---- a set has one sorted list

-- the authority is below each of these
abbrev Below : Authority → List Authority → Type 0
Below a others = AllByRecursion (λ b. text_cmp a b ≡ Less) others

-- an authority is below each member of a list that it is below
below_has : (a b : Authority) (others : List Authority) → Below a others → Has others b → text_cmp a b ≡ Less
below_has a b [] h has = absurd has
below_has a b (c ∷ others) h (inl e) = subst (λ x. text_cmp a x ≡ Less) (sym e) h.0
below_has a b (c ∷ others) h (inr has) = below_has a b others h.1 has

-- no authority is below itself
not_below_itself : (a : Authority) → text_cmp a a ≡ Less → ⊥
not_below_itself a h = let same = tied_itself nat_list_cmp_total (authority_text a) in cc

-- no two authorities are below each other
not_both : (a b : Authority) → text_cmp a b ≡ Less → text_cmp b a ≡ Less → ⊥
not_both a b p q = let above : text_cmp a b ≡ Greater = nat_list_cmp_total.antisymm (authority_text a) (authority_text b) ∙ ap ordering_reverse q in cc

-- the first of a strictly sorted list is the first of any other with the same members
same_first : (a b : Authority) (others more : List Authority) → Below a others → Below b more → Has (b ∷ more) a → Has (a ∷ others) b → a ≡ b
same_first a b others more p q (inl e) there = e
same_first a b others more p q (inr here) (inl e) = sym e
same_first a b others more p q (inr here) (inr there) = absurd (not_both a b (below_has a b others p there) (below_has b a more q here))

-- an authority that is below a list is not a member of it
not_again : (a : Authority) (others : List Authority) → Below a others → Has others a → ⊥
not_again a others h has = not_below_itself a (below_has a a others h has)

-- without the first, which both have, the members of one list are still members of the other
tail_has : (a x : Authority) (others more : List Authority) → Below a others
    → ((y : Authority) → Has (a ∷ others) y → Has (a ∷ more) y) → Has others x → Has more x
tail_has a x others more below all has = elim (all x (inr has)) [
  | inl e ↦ absurd (not_again a others below (subst (Has others) e has))
  | inr there ↦ there
]

-- strictly sorted lists with the same members are equal
pub rising_same : (xs ys : List Authority) → IsStrictlySortedBy text_cmp xs → IsStrictlySortedBy text_cmp ys
    → ((a : Authority) → Has xs a → Has ys a) → ((a : Authority) → Has ys a → Has xs a) → xs ≡ ys
unfolding IsStrictlySortedBy
rising_same [] [] p q there back = refl
rising_same [] (y ∷ ys) p q there back = absurd (back y (inl refl))
rising_same (x ∷ xs) [] p q there back = absurd (there x (inl refl))
rising_same (x ∷ xs) (y ∷ ys) p q there back =
    let first : x ≡ y = same_first x y xs ys p.0 q.0 (there x (inl refl)) (back y (inl refl)) in
    let forward : (a : Authority) → Has (x ∷ xs) a → Has (x ∷ ys) a = λ a h. subst (λ z. Has (z ∷ ys) a) (sym first) (there a h) in
    let backward : (a : Authority) → Has (x ∷ ys) a → Has (x ∷ xs) a = λ a h. back a (subst (λ z. Has (z ∷ ys) a) first h) in
    let below : Below x ys = subst (λ z. Below z ys) (sym first) q.0 in
    ap₂ (λ a l. a ∷ l) first
    (rising_same xs ys p.1 q.1 (λ a. tail_has x a xs ys p.0 forward) (λ a. tail_has x a ys xs below backward))

-- ---- an object means one bundle

-- a value has one number at most under a name
one_number : (tree : Data) (name : List ℕ) (m n : Option ℕ) → HasNumberMember tree name m → HasNumberMember tree name n → m ≡ n
one_number tree name None None p q = refl
one_number tree name None (Some n) (inl p) q = absurd (cc)
one_number tree name None (Some n) (inr p) q = absurd (cc)
one_number tree name (Some m) None p (inl q) = absurd (cc)
one_number tree name (Some m) None p (inr q) = absurd (cc)
one_number tree name (Some m) (Some n) p q = cc

-- a value has one array of keys at most
one_array : (tree : Data) (k l : Items) → HasKeys tree k → HasKeys tree l → k ≡ l
one_array tree k l p q = cc

-- a bundle from its parts
bundle : List Authority → Option ℕ → Option ℕ → Bundle
bundle authorities rank hint = record { authorities = authorities; rank = rank; hint = hint }

-- bundles with equal parts are equal
same_bundle : (b c : Bundle) → b.authorities ≡ c.authorities → b.rank ≡ c.rank → b.hint ≡ c.hint → b ≡ c
unfolding bundle
same_bundle b c authorities ranks hints = let same : bundle b.authorities b.rank b.hint ≡ bundle c.authorities c.rank c.hint = cc in same

-- a value means one bundle at most, as `laws::values` says
pub one_meaning : (tree : Data) (b c : Bundle) → Means tree b → Means tree c → b ≡ c
one_meaning tree b c p q =
    let keys : p.keys ≡ q.keys = one_array tree p.keys q.keys p.has_keys q.has_keys in
    let there : (a : Authority) → Has b.authorities a → Has c.authorities a = λ a h. (q.authorities a).1 (subst (λ k. Says k a) keys ((p.authorities a).0 h)) in
    let back : (a : Authority) → Has c.authorities a → Has b.authorities a =
    λ a h. (p.authorities a).1 (subst (λ k. Says k a) (sym keys) ((q.authorities a).0 h)) in
    let authorities : b.authorities ≡ c.authorities = rising_same b.authorities c.authorities p.is.rising q.is.rising there back in
    let ranks : b.rank ≡ c.rank = one_number tree (codes "spiffe_sequence") b.rank c.rank p.rank q.rank in
    let hints : b.hint ≡ c.hint = one_number tree (codes "spiffe_refresh_hint") b.hint c.hint p.hint q.hint in
    same_bundle b c authorities ranks hints

-- ---- the canonical text means the bundle

-- the elements of authorities say these authorities and no others
says_trees : (xs : List Authority) → AllByRecursion IsAuthority xs → (a : Authority) → Has xs a ↔ Says (trees xs) a
says_trees [] h a = (λ x. x, λ x. x)
says_trees (x ∷ xs) h a =
    let rest = says_trees xs h.1 a in (
      λ has. elim has [ inl e ↦ inl (subst (λ y. IsElement (tree_of x) y) (sym e) (IsElement-tree_of x h.0)) | inr later ↦ inr (rest.0 later) ],
      λ says. elim says [ inl is ↦ inl (one_authority (tree_of x) a x is (IsElement-tree_of x h.0)) | inr later ↦ inr (rest.1 later) ],
    )

-- the value of a bundle has its sequence number, whichever of the two numbers there are
rank_there : (rank hint : Option ℕ) (items : Items)
    → HasNumberMember
    (object (member (codes "keys") (array items)
    (with_number (codes "spiffe_refresh_hint") hint (with_number (codes "spiffe_sequence") rank no_members))))
    (codes "spiffe_sequence") rank
rank_there None None items = inl refl
rank_there None (Some h) items = inl refl
rank_there (Some r) None items = refl
rank_there (Some r) (Some h) items = refl

-- the same for the refresh hint
hint_there : (rank hint : Option ℕ) (items : Items)
    → HasNumberMember
    (object (member (codes "keys") (array items)
    (with_number (codes "spiffe_refresh_hint") hint (with_number (codes "spiffe_sequence") rank no_members))))
    (codes "spiffe_refresh_hint") hint
hint_there None None items = inl refl
hint_there (Some r) None items = inl refl
hint_there None (Some h) items = refl
hint_there (Some r) (Some h) items = refl

-- the same for the elements
keys_there : (rank hint : Option ℕ) (items : Items)
    → HasKeys (object (member (codes "keys") (array items)
    (with_number (codes "spiffe_refresh_hint") hint (with_number (codes "spiffe_sequence") rank no_members)))) items
keys_there None None items = refl
keys_there None (Some h) items = refl
keys_there (Some r) None items = refl
keys_there (Some r) (Some h) items = refl

-- the value that is made of a bundle means it
pub Means-document_tree : (b : Bundle) → IsBundle b → Means (document_tree b) b
Means-document_tree b h = record {
  keys = trees b.authorities;
  has_keys = keys_there b.rank b.hint (trees b.authorities);
  authorities = says_trees b.authorities h.forms;
  rank = rank_there b.rank b.hint (trees b.authorities);
  hint = hint_there b.rank b.hint (trees b.authorities);
  is = h;
}

-- the elements of authorities are plain values
ArePlain-trees : (xs : List Authority) → AllByRecursion IsAuthority xs → ArePlain (trees xs)
ArePlain-trees [] h = tt
ArePlain-trees (x ∷ xs) h = (IsPlain-tree_of x h.0, ArePlain-trees xs h.1)

-- the elements of authorities nest two levels deep at most
shallow_trees : (xs : List Authority) → items_depth (trees xs) ≤ 2
shallow_trees [] = omega arith
shallow_trees (x ∷ xs) = omega (arith, depth-tree_of x, shallow_trees xs)

-- a text whose bytes pass the test for ASCII is UTF-8: for the names of members
ascii : (t : List ℕ) → are_ascii t ≡ true → IsUtf8 t
ascii = IsUtf8-are_ascii

-- the members of a bundle's value are plain, and their names rise
plain_members : (xs : List Authority) (rank hint : Option ℕ) → ArePlain (trees xs) → IfSome rank (λ n. n < 2 ^ 64) → IfSome hint (λ n. n < 2 ^ 64)
    → HasPlainMembers (member (codes "keys") (array (trees xs))
    (with_number (codes "spiffe_refresh_hint") hint (with_number (codes "spiffe_sequence") rank no_members)))
plain_members xs None None h r k = (ascii (codes "keys") refl, h, tt, tt)
plain_members xs (Some n) None h r k = (ascii (codes "keys") refl, h, (refl, tt), (ascii (codes "spiffe_sequence") refl, r, tt, tt))
plain_members xs None (Some m) h r k = (ascii (codes "keys") refl, h, (refl, tt), (ascii (codes "spiffe_refresh_hint") refl, k, tt, tt))
plain_members xs (Some n) (Some m) h r k = (
  ascii (codes "keys") refl,
  h,
  (refl, (refl, tt)),
  (ascii (codes "spiffe_refresh_hint") refl, k, (refl, tt), (ascii (codes "spiffe_sequence") refl, r, tt, tt)),
)

-- the value of a bundle is plain, so its text is read back as it
pub IsPlain-document_tree : (b : Bundle) → IsBundle b → IsPlain (document_tree b)
IsPlain-document_tree b h = plain_members b.authorities b.rank b.hint (ArePlain-trees b.authorities h.forms) h.rank h.hint

-- the value of a bundle nests four levels deep at most, whichever of the two numbers there are
shallow : (xs : List Authority) (rank hint : Option ℕ)
    → depth (object (member (codes "keys") (array (trees xs))
    (with_number (codes "spiffe_refresh_hint") hint (with_number (codes "spiffe_sequence") rank no_members)))) ≤ 4
shallow xs None None = omega (arith, shallow_trees xs)
shallow xs (Some n) None = omega (arith, shallow_trees xs)
shallow xs None (Some m) = omega (arith, shallow_trees xs)
shallow xs (Some n) (Some m) = omega (arith, shallow_trees xs)

-- the value of a bundle nests four levels deep at most, far below the limit of JSON texts
pub depth-document_tree : (b : Bundle) → depth (document_tree b) ≤ 4
depth-document_tree b = shallow b.authorities b.rank b.hint

-- a canonical text is a JSON text of the bundle's value
pub IsJson-canonical_text : (b : Bundle) → IsBundle b → IsJson (canonical_text b) (document_tree b)
IsJson-canonical_text b h = IsJson-compact_text (document_tree b) (IsPlain-document_tree b h) (omega (arith, depth-document_tree b))

-- bundles with one canonical text are equal, as `laws::documents` says
pub one_text : (b c : Bundle) → IsBundle b → IsBundle c → canonical_text b ≡ canonical_text c → b ≡ c
one_text b c p q e =
    let trees_same : Some (document_tree b) ≡ Some (document_tree c) = sym (IsJson-canonical_text b p).1 ∙ ap read e ∙ (IsJson-canonical_text c q).1 in
    let tree_same : document_tree b ≡ document_tree c = cc in
    one_meaning (document_tree b) b c (Means-document_tree b p) (subst (λ t. Means t c) (sym tree_same) (Means-document_tree c q))

-- a canonical text within the limit is a document of its bundle
pub IsDocument-canonical_text : (b : Bundle) → IsBundle b → Fits b → IsDocument (canonical_text b) b
IsDocument-canonical_text b h fits = record {
  tree = document_tree b;
  json = IsJson-canonical_text b h;
  means =
      Means-document_tree b h;
  short = fits;
  fits = fits;
}

-- authorities with one text are equal
pub one_authority_text : (a b : Authority) → IsAuthority a → IsAuthority b → authority_text a ≡ authority_text b → a ≡ b
one_authority_text a b p q e =
    let deep : (x : Authority) → depth (tree_of x) ≤ max_depth = λ x. omega (arith, depth-tree_of x) in
    let trees_same : Some (tree_of a) ≡ Some (tree_of b) =
    sym (read-compact_text (tree_of a) (IsPlain-tree_of a p) (deep a)) ∙ ap read e
    ∙ read-compact_text (tree_of b) (IsPlain-tree_of b q) (deep b) in
    let tree_same : tree_of a ≡ tree_of b = cc in
    one_authority (tree_of a) a b (IsElement-tree_of a p) (subst (λ t. IsElement t b) (sym tree_same) (IsElement-tree_of b q))

-- bytes are a document of one bundle at most, as `laws::documents` says
pub one_document : (bytes : List ℕ) (b c : Bundle) → IsDocument bytes b → IsDocument bytes c → b ≡ c
one_document bytes b c p q =
    let trees_same : Some p.tree ≡ Some q.tree = sym p.json.1 ∙ q.json.1 in
    let tree_same : p.tree ≡ q.tree = cc in
    one_meaning p.tree b c p.means (subst (λ t. Means t c) (sym tree_same) q.means)

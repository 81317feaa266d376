-- Key ids, one authority after another.
use Rattle.std.proofs.Common.{◌≡◌, ℕ, ◌<◌, ◌+◌, List, [], ◌∷◌, ◌++◌, get_or, take, length, refl, ap, ◌∙◌, add-one, sym, map, append_assoc}
use Rattle.std.proofs.Math.Seq.{take-suc}
use Rattle.std.proofs.lemmas.List.Sums.{fold-append}
use Rattle.std.specs.declared.cmp.Ordering.{Ordering}
use Rattle.std.specs.declared.cmp.Ordering.TheVariants.{Less, Equal, Greater}
use Rattle.std.specs.BTreeSet.{insert_key}
use Rattle.std.specs.Ordering.{match_ordering}
use Rattle.jwk_set.specs.declared.authority.Authority.{Authority}
use Rattle.jwk_set.specs.declared.authority.KeyId.{KeyId}
use Rattle.jwk_set.specs.Element.{key_id_of}
use Rattle.receipt_core.specs.Receipt.{key_ids, with_key_id, Pair, offer_of}
use Rattle.receipt_core.specs.declared.triple.Triple.{Triple}
use Rattle.receipt_core.specs.Rising.{with_item, placed}

-- the two spellings of an item's place, the library's and that of `with_item`, are the same
placed_same : {K : Type 0} (o : Ordering) (k x : K) (xs longer : List K) → match_ordering o (k ∷ x ∷ xs) (x ∷ xs) (x ∷ longer) ≡ placed o k x xs longer
placed_same Less k x xs longer = refl
placed_same Equal k x xs longer = refl
placed_same Greater k x xs longer = refl

-- a key goes into a `BTreeSet` as into a sorted list
pub insert_key-with_item : {K : Type 0} (cmp : K → K → Ordering) (ks : List K) (k : K) → insert_key cmp ks k ≡ with_item cmp k ks
insert_key-with_item cmp [] k = refl
insert_key-with_item cmp (x ∷ xs) k = placed_same (cmp k x) k x xs _ ∙ ap (placed (cmp k x) k x xs) (insert_key-with_item cmp xs k)

-- the key ids of one more authority: the step of the loop in `key_ids`
pub key_ids-more : (authorities : List Authority) (i : ℕ) (a : Authority) → i < length authorities → a ≡ get_or authorities i a
    → key_ids (take (i + 1) authorities) ≡ with_key_id (key_id_of a) (key_ids (take i authorities))
key_ids-more authorities i a h e =
    ap (λ n. key_ids (take n authorities)) (add-one i)
    ∙ ap key_ids (take-suc authorities i a h)
    ∙ fold-append (λ keys authority. with_key_id (key_id_of authority) keys) [] (take i authorities) (get_or authorities i a ∷ [])
    ∙ ap (λ x. with_key_id (key_id_of x) (key_ids (take i authorities))) (λ j. sym e j)

-- one more offer was made: the step of the loop in `offers_of`
pub offers_more : (p : Pair) (k : KeyId) (t : Triple) (keys others : List KeyId) (before after all : List Triple)
    → keys ≡ k ∷ others → t ≡ offer_of p k → after ≡ before ++ t ∷ [] → before ++ map (offer_of p) keys ≡ all → after ++ map (offer_of p) others ≡ all
offers_more p k t keys others before after all split is pushed so_far =
    ap (λ x. x ++ map (offer_of p) others) (pushed ∙ ap (λ x. before ++ x ∷ []) is)
    ∙ append_assoc before (offer_of p k ∷ []) (map (offer_of p) others)
    ∙ ap (λ x. before ++ map (offer_of p) x) (sym split)
    ∙ so_far

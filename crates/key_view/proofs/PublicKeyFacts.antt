-- The public keys of distrusted keys, one after another.
use Rattle.std.proofs.Common.{◌≡◌, ◌<◌, ◌≤◌, ◌+◌, ℕ, Bool, true, false, ◌&&◌, ◌||◌, cond, List, [], ◌∷◌, ◌++◌, length, get_or, take, refl, sym, ap, ◌∙◌, subst}
use Rattle.std.proofs.Common.{add-one, Some}
use Rattle.std.proofs.Math.Seq.{take-suc}
use Rattle.std.proofs.lemmas.List.{take_all}
use Rattle.std.proofs.lemmas.List.Folds.{list_any-append}
use Rattle.std.proofs.lemmas.Map.Text.{is_eq-slice_cmp}
use Rattle.std.specs.Cmp.Lexicographic.{slice_cmp}
use Rattle.std.specs.Ordering.{is_eq, nat_cmp}
use Rattle.std.specs.Str.{bytes_eq}
use Rattle.std.specs.BTreeMap.{is_at}
use Rattle.std.specs.BTreeSet.{BTreeSet}
use Rattle.std.specs.List.{list_any}
use Rattle.key_view.specs.KeyEntries.{has_public_key, is_one_public_key}
use Rattle.key_view.specs.declared.known_entry.KeyEntry.{KeyEntry}
use Rattle.key_view.specs.declared.known_entry.KeyParts.{KeyParts}
use Rattle.key_view.specs.Inside.PublicKeys.{AddsPublicKey, AddsPublicKeyOf, HasPublicKeys, has_digest}

pub or_with : (c b : Bool) → cond c true b ≡ (b || c)
or_with true true = refl
or_with true false = refl
or_with false true = refl
or_with false false = refl

pub or_none : (b : Bool) → b ≡ (b || false)
or_none true = refl
or_none false = refl

-- the digest was inserted: the step of `push_public_key_of`
pub digest_more : (p : KeyParts) (old new : BTreeSet (List ℕ))
    → ((wanted : List ℕ) → has_digest new wanted ≡ cond (is_eq (slice_cmp nat_cmp p.public_key wanted)) true (has_digest old wanted))
    → AddsPublicKeyOf (Some p) old new
digest_more p old new more = record {
  same = λ wanted. more wanted ∙ ap (λ b. cond b true (has_digest old wanted)) (is_eq-slice_cmp p.public_key wanted)
      ∙ or_with (bytes_eq p.public_key wanted) (has_digest old wanted);
}

-- before the first key there are no public keys
pub public_keys_none : (new : BTreeSet (List ℕ)) → new.keys ≡ [] → HasPublicKeys [] new
public_keys_none new empty = record {
  same = λ wanted. ap (λ ks. list_any (is_at (slice_cmp nat_cmp wanted)) ks) empty;
}

last_or : (c : Bool) → c ≡ (c || false)
last_or c = or_none c

-- one more key
pub public_keys_push : (entries : List KeyEntry) (e : KeyEntry) (old new : BTreeSet (List ℕ)) → HasPublicKeys entries old
    → AddsPublicKey e old new → HasPublicKeys (entries ++ e ∷ []) new
public_keys_push entries e old new so more = record {
  same = λ wanted. more.same wanted
      ∙ ap (λ b. b || (e.is_distrusted && is_one_public_key e.parts wanted)) (so.same wanted)
      ∙ ap (λ b. has_public_key entries wanted || b) (last_or (e.is_distrusted && is_one_public_key e.parts wanted))
      ∙ sym (list_any-append (λ (o : KeyEntry). o.is_distrusted && is_one_public_key o.parts wanted) entries (e ∷ []));
}

-- the step of the loop in `public_keys_of`
pub public_keys_more : (entries : List KeyEntry) (k : ℕ) (e : KeyEntry) (old new : BTreeSet (List ℕ)) → k < length entries → e ≡ get_or entries k e
    → HasPublicKeys (take k entries) old → AddsPublicKey e old new → HasPublicKeys (take (k + 1) entries) new
public_keys_more entries k e old new low is so more =
    let taken : take (k + 1) entries ≡ take k entries ++ e ∷ [] =
    ap (λ n. take n entries) (add-one k) ∙ take-suc entries k e low ∙ ap (λ z. take k entries ++ z ∷ []) (sym is) in
    subst (λ es. HasPublicKeys es new) (sym taken) (public_keys_push (take k entries) e old new so more)

-- after the last key these are all
pub public_keys_all : (entries : List KeyEntry) (k : ℕ) (new : BTreeSet (List ℕ)) → length entries ≤ k → HasPublicKeys (take k entries) new
    → HasPublicKeys entries new
public_keys_all entries k new high so = subst (λ es. HasPublicKeys es new) (take_all k entries high) so

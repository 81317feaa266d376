-- Which keys were met, one key after another.
use Rattle.std.proofs.Common.{◌≡◌, Bool, true, false, ◌||◌, cond, List, [], ◌∷◌, ◌++◌, sym, ap, ◌∙◌}
use Rattle.std.specs.Ordering.{is_eq}
use Rattle.std.specs.BTreeSet.{BTreeSet, contains}
use Rattle.std.proofs.lemmas.List.Folds.{list_any-append}
use Rattle.std.proofs.lemmas.Map.Text.{is_eq-slice_cmp}
use Rattle.jwk_set.specs.declared.authority.KeyId.{KeyId}
use Rattle.receipt_core.specs.Receipt.{key_cmp}
use Rattle.key_view.specs.KnownKeys.{is_one_key, knows}
use Rattle.key_view.specs.declared.met_keys.KnownKey.{KnownKey}

-- two keys are one in the order of their ids exactly if their bytes are equal
pub same_key : (one other : KeyId) → is_eq (key_cmp one other) ≡ is_one_key one other
same_key one other = is_eq-slice_cmp one.0 other.0

or_more : (b c known : Bool) → b ≡ cond c true known → b ≡ (known || (c || false))
or_more b true true e = e
or_more b true false e = e
or_more b false true e = e
or_more b false false e = e

-- one more key, and its id: the step of `push_certificate`
pub met_more : (keys : List KnownKey) (k : KnownKey) (ids new : BTreeSet KeyId)
    → ((id : KeyId) → contains key_cmp ids id ≡ knows keys id)
    → ((id : KeyId) → contains key_cmp new id ≡ cond (is_eq (key_cmp k.key id)) true (contains key_cmp ids id))
    → (id : KeyId) → contains key_cmp new id ≡ knows (keys ++ k ∷ []) id
met_more keys k ids new same more id =
    or_more (contains key_cmp new id) (is_one_key k.key id) (knows keys id)
    (more id ∙ ap (λ b. cond b true (contains key_cmp ids id)) (same_key k.key id) ∙ ap (λ b. cond (is_one_key k.key id) true b) (same id))
    ∙ sym (list_any-append (λ own. is_one_key own.key id) keys (k ∷ []))

-- JSON arrays of texts
use Rattle.std.proofs.Common.{◌≡◌, ◌<◌, ℕ, zero, suc, max, Bool, true, false, ◌&&◌, List, [], ◌∷◌, map, length, get_or, None, refl, sym, ap, ◌∙◌, arith}
use Rattle.serde_json.specs.Data.{Data, null, boolean, number, string, array, object, Items, no_items, item, depth, items_depth}
use Rattle.serde_json.specs.Find.{as_str}
use Rattle.serde_json.specs.View.{items_of, view}
use Rattle.serde_json.specs.declared.value.Value.{Value}
use Rattle.serde_json.specs.Written.{has_float}
use Rattle.request_lines.specs.RequestLines.{IsOfWords, words_value}

-- whether the value is a text
abbrev is_text : Data → Bool
is_text (string s) = true
is_text d = false

-- whether each item is one
abbrev are_texts : Items → Bool
are_texts no_items = true
are_texts (item d ds) = is_text d && are_texts ds

-- whether the value is an array of only texts
abbrev is_of_texts : Data → Bool
is_of_texts (array ds) = are_texts ds
is_of_texts d = false

-- an array of arguments has only texts
words_are_texts : (ws : List (List ℕ)) → are_texts (items_of (map string ws)) ≡ true
words_are_texts [] = refl
words_are_texts (w ∷ ws) = words_are_texts ws

-- a value without a text is not a text
no_text : (d : Data) → as_str d ≡ None → is_text d ≡ false
no_text null e = refl
no_text (boolean b) e = refl
no_text (number n) e = refl
no_text (string s) e = absurd (cc)
no_text (array ds) e = refl
no_text (object ms) e = refl

-- nothing is false and what comes before it
and_false : (b : Bool) → (b && false) ≡ false
and_false true = refl
and_false false = refl

-- with one item that is not a text, not all are texts
one_is_none : (ds : List Data) (k : ℕ) (d : Data) → k < length ds → d ≡ get_or ds k d → as_str d ≡ None → are_texts (items_of ds) ≡ false
one_is_none [] k d low at e = absurd (omega arith)
one_is_none (x ∷ xs) zero d low at e = ap (λ b. b && are_texts (items_of xs)) (no_text x (ap as_str (sym at) ∙ e))
one_is_none (x ∷ xs) (suc k) d low at e = ap (λ b. is_text x && b) (one_is_none xs k d (omega arith) at e) ∙ and_false (is_text x)

-- an array with an item that is not a text is not an array of arguments
pub not_of_words : (v : Data) (ds : List Data) → v ≡ array (items_of ds) → (k : ℕ) (d : Data) → k < length ds → d ≡ get_or ds k d
    → as_str d ≡ None → IsOfWords v → ⊥
not_of_words v ds is k d low at e h =
    let yes : is_of_texts v ≡ true = ap is_of_texts h.1 ∙ words_are_texts h.0 in
    let fails : is_of_texts v ≡ false = ap is_of_texts is ∙ one_is_none ds k d low at e in
    let bad : true ≡ false = sym yes ∙ fails in absurd (cc)

-- the data of the item at a place
pub item_at : (vs : List Value) (k : ℕ) (v : Value) → k < length vs → v ≡ get_or vs k v → view v ≡ get_or (map view vs) k (view v)
item_at [] k v low at = absurd (omega arith)
item_at (x ∷ xs) zero v low at = ap view at
item_at (x ∷ xs) (suc k) v low at = item_at xs k v (omega arith) at

-- an array of arguments has no float
pub words_have_no_float : (ws : List (List ℕ)) → has_float (words_value ws) ≡ false
words_have_no_float [] = refl
words_have_no_float (w ∷ ws) = words_have_no_float ws

-- an array of arguments nests one level deep
flat_items : (ws : List (List ℕ)) → items_depth (items_of (map string ws)) ≡ 0
flat_items [] = refl
flat_items (w ∷ ws) = ap (λ n. max 0 n) (flat_items ws)

-- the same for the whole value
pub words_are_flat : (ws : List (List ℕ)) → depth (words_value ws) ≡ 1
words_are_flat ws = ap suc (flat_items ws)

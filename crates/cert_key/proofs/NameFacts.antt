-- The bytes of a name are read as that name, and what is read has these bytes.
use Rattle.std.proofs.Common.{◌≡◌, ℕ, ◌^◌, ◌<◌, cond, List, [], ◌∷◌, ◌++◌, map, reverse, length, flat_map, Option, Some, None, refl, sym, ap, ◌∙◌, subst}
use Rattle.std.specs.Prelude.{All, option_map}
use Rattle.std.proofs.lemmas.Bool.{eqb-true}
use Rattle.std.proofs.lemmas.List.{append-nil, nil_from_length, map-append, reverse-append, reverse-reverse}
use Rattle.std.proofs.lemmas.List.Elements.{All-nil, All-cons, All-head, All-tail}
use Rattle.std.proofs.lemmas.List.Folds.{flat_map-map}
use Rattle.std.proofs.lemmas.List.Sorted.{All-permutation, IsPermutation-reverse}
use Rattle.cert_key.specs.Der.{element}
use Rattle.cert_key.specs.Name.{Attribute, type_and_value, attributes, rdns, IsName}
use Rattle.cert_key.specs.Name.{is_empty, type_value_text, attribute_text, with_next, joined_texts, rdn_text, text_of_name, IsNameText}
use Rattle.cert_key.specs.Inside.Names.{contents_at, attribute_at, attributes_text, rdn_at, rdns_text, rdns_at, name_at}
use Rattle.cert_key.specs.Inside.Reading.{◌>>=◌, IsReadAs, Found, element_at, field_at}
use Rattle.cert_key.proofs.StepFacts.{bind_some, if_some, IsBytes}
use Rattle.cert_key.proofs.ElementFacts.{element_again, element_takes, field_again, field_takes, short_content, short_rest}
use Rattle.cert_key.proofs.ContentFacts.{contents_again, contents_take}

-- ---- texts that are joined_texts

same_after : {A B : Type 0} (o : Option A) (f g : A → Option B) → ((x : A) → f x ≡ g x) → (o >>= f) ≡ (o >>= g)
same_after (Some x) f g same = same x
same_after None f g same = refl

-- the texts of what was spelled
joined_again : {X : Type 0} (sign : ℕ) (f : List ℕ → Option (List ℕ)) (h : X → Option (List ℕ)) (g : X → List ℕ) (before : List ℕ) (xs : List X)
    → All (λ x. f (g x) ≡ h x) xs → joined_texts sign f before (map g xs) ≡ joined_texts sign h before xs
joined_again sign f h g before [] each = refl
joined_again sign f h g before (x ∷ xs) each =
    ap (λ o. o >>= λ own. joined_texts sign f (with_next sign before own) (map g xs)) (All-head (λ x. f (g x) ≡ h x) x xs each)
    ∙ same_after (h x) (λ own. joined_texts sign f (with_next sign before own) (map g xs)) (λ own. joined_texts sign h (with_next sign before own) xs)
    (λ own. joined_again sign f h g (with_next sign before own) xs (All-tail (λ x. f (g x) ≡ h x) x xs each))

-- what has these texts was spelled
joined_takes : {X : Type 0} (sign : ℕ) (f : List ℕ → Option (List ℕ)) (h : X → Option (List ℕ)) (g : X → List ℕ) (before : List ℕ)
    (cs : List (List ℕ)) (t : List ℕ) → ((c u : List ℕ) → IsBytes c → f c ≡ Some u → (x : X) × (c ≡ g x) × (h x ≡ Some u))
    → All IsBytes cs → joined_texts sign f before cs ≡ Some t → (xs : List X) × (cs ≡ map g xs) × (joined_texts sign h before xs ≡ Some t)
joined_takes sign f h g before [] t one fits e = ([], refl, e)
joined_takes sign f h g before (c ∷ cs) t one fits e =
    let s = bind_some (f c) (λ own. joined_texts sign f (with_next sign before own) cs) t e in
    let x = one c s.0 (All-head IsBytes c cs fits) s.1 in
    let m = joined_takes sign f h g (with_next sign before s.0) cs t one (All-tail IsBytes c cs fits) s.2 in
    let first : c ∷ cs ≡ g x.0 ∷ cs = ap (λ (y : List ℕ). y ∷ cs) x.1 in (
      x.0 ∷ m.0,
      first ∙ ap (λ (ys : List (List ℕ)). g x.0 ∷ ys) m.1,
      ap (λ o. o >>= λ own. joined_texts sign h (with_next sign before own) m.0) x.2 ∙ m.2,
    )

-- each of what was spelled is short
each_again : {X : Type 0} (tag : ℕ) (f : List ℕ → Option (List ℕ)) (h : X → Option (List ℕ)) (g : X → List ℕ) (xs : List X)
    → ((x : X) → length (g x) < 2 ^ 24 → f (g x) ≡ h x) → length (flat_map (element tag) (map g xs)) < 2 ^ 24
    → All (λ x. f (g x) ≡ h x) xs
each_again tag f h g [] one short = All-nil (λ x. f (g x) ≡ h x)
each_again tag f h g (x ∷ xs) one short =
    All-cons (λ x. f (g x) ≡ h x) x xs (one x (short_content tag (g x) (flat_map (element tag) (map g xs)) short))
    (each_again tag f h g xs one (short_rest (element tag (g x)) (flat_map (element tag) (map g xs)) short))

-- ---- attributes

attribute_again : (a : Attribute) → length (type_and_value a) < 2 ^ 24 → attribute_at (type_and_value a) ≡ attribute_text a
unfolding attribute_at attribute_text
attribute_again a short =
    let ended : element a.tag a.value ≡ element a.tag a.value ++ [] = sym (append-nil (element a.tag a.value)) in
    let l0 = short_content 6 a.type (element a.tag a.value) short in
    let l1 = short_rest (element 6 a.type) (element a.tag a.value) short in
    let l2 = short_content a.tag a.value [] (subst (λ (x : List ℕ). length x < 2 ^ 24) ended l1) in
    rw (field_again 6 a.type (element a.tag a.value) l0)
    (ap (λ x. element_at x >>= λ (value : Found). cond (is_empty value.after) (type_value_text a.type value.tag value.content value.whole) None) ended
    ∙ rw (element_again a.tag a.value [] l2) refl)

attribute_takes : (c u : List ℕ) → IsBytes c → attribute_at c ≡ Some u
    → (a : Attribute) × (c ≡ type_and_value a) × (attribute_text a ≡ Some u)
unfolding attribute_at attribute_text
attribute_takes c u fits e =
    let s = bind_some (field_at 6 c) (λ type. element_at type.after >>= λ value. cond (is_empty value.after)
    (type_value_text type.content value.tag value.content value.whole) None) u e in
    let v = bind_some (element_at s.0.after) (λ value. cond (is_empty value.after)
    (type_value_text s.0.content value.tag value.content value.whole) None) u s.2 in
    let g = if_some (is_empty v.0.after) (type_value_text s.0.content v.0.tag v.0.content v.0.whole) u v.2 in
    let ts = field_takes 6 c s.0 fits s.1 in
    let tv = element_takes s.0.after v.0 ts.after_fits v.1 in
    let nothing = nil_from_length v.0.after (eqb-true (length v.0.after) 0 g.0) in (
      record { type = s.0.content; tag = v.0.tag; value = v.0.content },
      ts.parts ∙ ap (λ (x : List ℕ). element 6 s.0.content ++ x)
          (tv.parts ∙ ap (λ (x : List ℕ). element v.0.tag v.0.content ++ x) nothing ∙ append-nil (element v.0.tag v.0.content)),
      ap (λ (w : List ℕ). type_value_text s.0.content v.0.tag v.0.content w) (sym tv.whole) ∙ g.1,
    )

-- ---- RDNs

attributes_are : (r : List Attribute) → attributes r ≡ flat_map (element 48) (map type_and_value r)
attributes_are r = sym (flat_map-map (element 48) type_and_value r)

texts_again : (r : List Attribute) → All (λ a. attribute_at (type_and_value a) ≡ attribute_text a) r
    → attributes_text (map type_and_value r) ≡ rdn_text r
unfolding rdn_text
texts_again [] each = refl
texts_again (a ∷ r) each = joined_again 43 attribute_at attribute_text type_and_value [] (a ∷ r) each

rdn_again : (r : List Attribute) → length (attributes r) < 2 ^ 24 → rdn_at (attributes r) ≡ rdn_text r
unfolding rdn_at
rdn_again r short =
    let are = attributes_are r in
    let small : length (flat_map (element 48) (map type_and_value r)) < 2 ^ 24 = subst (λ (x : List ℕ). length x < 2 ^ 24) are short in
    ap (λ x. contents_at 48 x >>= attributes_text) are
    ∙ ap (λ o. o >>= attributes_text) (contents_again 48 (map type_and_value r) small)
    ∙ texts_again r (each_again 48 attribute_at attribute_text type_and_value r attribute_again small)

texts_take : (cs : List (List ℕ)) (u : List ℕ) → All IsBytes cs → attributes_text cs ≡ Some u
    → (r : List Attribute) × (cs ≡ map type_and_value r) × (rdn_text r ≡ Some u)
unfolding rdn_text
texts_take [] u fits e = absurd cc
texts_take (c ∷ cs) u fits e =
    let s = bind_some (attribute_at c) (λ own. joined_texts 43 attribute_at (with_next 43 [] own) cs) u e in
    let x = attribute_takes c s.0 (All-head IsBytes c cs fits) s.1 in
    let m = joined_takes 43 attribute_at attribute_text type_and_value (with_next 43 [] s.0) cs u attribute_takes (All-tail IsBytes c cs fits) s.2 in
    let first : c ∷ cs ≡ type_and_value x.0 ∷ cs = ap (λ (y : List ℕ). y ∷ cs) x.1 in (
      x.0 ∷ m.0,
      first ∙ ap (λ (ys : List (List ℕ)). type_and_value x.0 ∷ ys) m.1,
      ap (λ o. o >>= λ own. joined_texts 43 attribute_text (with_next 43 [] own) m.0) x.2 ∙ m.2,
    )

rdn_takes : (c u : List ℕ) → IsBytes c → rdn_at c ≡ Some u → (r : List Attribute) × (c ≡ attributes r) × (rdn_text r ≡ Some u)
unfolding rdn_at
rdn_takes c u fits e =
    let s = bind_some (contents_at 48 c) attributes_text u e in
    let t = contents_take 48 c s.0 fits s.1 in
    let m = texts_take s.0 u t.fits s.2 in
    (m.0, t.parts ∙ ap (flat_map (element 48)) m.1 ∙ sym (attributes_are m.0), m.2)

-- ---- names

map-reverse : {A B : Type 0} (f : A → B) (xs : List A) → map f (reverse xs) ≡ reverse (map f xs)
map-reverse f [] = refl
map-reverse f (x ∷ xs) =
    ap (map f) (reverse-append (x ∷ []) xs) ∙ map-append f (reverse xs) (x ∷ [])
    ∙ ap (λ ys. ys ++ f x ∷ []) (map-reverse f xs) ∙ sym (reverse-append (f x ∷ []) (map f xs))

rdns_are : (n : List (List Attribute)) → rdns n ≡ flat_map (element 49) (map attributes n)
rdns_are n = sym (flat_map-map (element 49) attributes n)

pub name_again : (n : List (List Attribute)) (bytes : List ℕ) → IsName n bytes → name_at bytes ≡ text_of_name n
unfolding name_at text_of_name
name_again n bytes is =
    let whole : bytes ≡ element 48 (rdns n) ++ [] = is.all ∙ sym (append-nil (element 48 (rdns n))) in
    let are = rdns_are n in
    let small : length (flat_map (element 49) (map attributes n)) < 2 ^ 24 = subst (λ (x : List ℕ). length x < 2 ^ 24) are is.short in
    let each = each_again 49 rdn_at rdn_text attributes n rdn_again small in
    let turned = All-permutation (λ r. rdn_at (attributes r) ≡ rdn_text r) n (reverse n) (IsPermutation-reverse n) each in
    ap (λ x. field_at 48 x >>= rdns_at) whole
    ∙ ap (λ o. o >>= rdns_at) (field_again 48 (rdns n) [] is.short)
    ∙ ap (λ x. contents_at 49 x >>= rdns_text) are
    ∙ ap (λ o. o >>= rdns_text) (contents_again 49 (map attributes n) small)
    ∙ ap (joined_texts 44 rdn_at []) (sym (map-reverse attributes n))
    ∙ joined_again 44 rdn_at rdn_text attributes [] (reverse n) turned

pub name_takes : (bytes u : List ℕ) → IsBytes bytes → name_at bytes ≡ Some u
    → (n : List (List Attribute)) × IsName n bytes × (text_of_name n ≡ Some u)
unfolding name_at text_of_name
name_takes bytes u fits e =
    let s = bind_some (field_at 48 bytes) rdns_at u e in
    let g = if_some (is_empty s.0.after) (contents_at 49 s.0.content >>= rdns_text) u s.2 in
    let k = bind_some (contents_at 49 s.0.content) rdns_text u g.1 in
    let ts = field_takes 48 bytes s.0 fits s.1 in
    let tc = contents_take 49 s.0.content k.0 ts.content_fits k.1 in
    let turned = All-permutation IsBytes k.0 (reverse k.0) (IsPermutation-reverse k.0) tc.fits in
    let m = joined_takes 44 rdn_at rdn_text attributes [] (reverse k.0) u rdn_takes turned k.2 in
    let back : k.0 ≡ map attributes (reverse m.0) =
    sym (reverse-reverse k.0) ∙ ap reverse m.1 ∙ sym (map-reverse attributes m.0) in
    let inside : s.0.content ≡ rdns (reverse m.0) =
    tc.parts ∙ ap (flat_map (element 49)) back ∙ sym (rdns_are (reverse m.0)) in
    let nothing = nil_from_length s.0.after (eqb-true (length s.0.after) 0 g.0) in (
      reverse m.0,
      record {
        all = ts.parts ∙ ap (λ (x : List ℕ). element 48 s.0.content ++ x) nothing ∙ append-nil (element 48 s.0.content)
            ∙ ap (element 48) inside;
        short = subst (λ (x : List ℕ). length x < 2 ^ 24) inside ts.short;
      },
      ap (joined_texts 44 rdn_text []) (reverse-reverse m.0) ∙ m.2,
    )

-- ---- what the program returns

pub is_text : {A : Type 0} (bytes : List ℕ) (o : Option A) (view : A → List ℕ) → IsBytes bytes → IsReadAs view o (name_at bytes)
    → IsNameText bytes (option_map view o)
is_text bytes (Some t) view fits given = name_takes bytes (view t) fits given
is_text bytes None view fits given = λ n is. sym (name_again n bytes is) ∙ given

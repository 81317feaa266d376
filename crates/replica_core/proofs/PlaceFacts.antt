-- Whether an item is held, and whether there is a place for it.
use Rattle.std.proofs.Common.{◌≡◌, ◌≢◌, ℕ, ◌+◌, ◌-◌, ◌<◌, ◌≤◌, inl, inr, Bool, true, false, ◌||◌, List, [], ◌∷◌, length}
use Rattle.std.proofs.Common.{refl, sym, ap, ◌∙◌, subst, arith}
use Rattle.std.specs.Prelude.{◌↔◌, Contains, IsTrue}
use Rattle.std.specs.declared.cmp.Ordering.{Ordering}
use Rattle.std.specs.declared.cmp.Ordering.TheVariants.{Less, Equal, Greater}
use Rattle.std.specs.List.{AllByRecursion, list_any}
use Rattle.std.specs.Ordering.{eq_by_cmp, is_eq}
use Rattle.std.specs.Cmp.{Equal-is, tied_itself}
use Rattle.receipt_core.specs.declared.distrust.Distrust.{Distrust}
use Rattle.receipt_core.specs.Rising.{placed, with_item, with_items}
use Rattle.receipt_core.specs.Sets.{AreSets, Always}
use Rattle.replica_core.specs.Inside.FreePlaces.{HasPlaces, HasNoPlace, HasPlace}
use Rattle.replica_core.proofs.ContainsFacts.{contains-cases, contains-none, each-from, any-from}

-- What a test denies does not hold.
pub refuted : (b : Bool) (Q : Type 0) → b ≡ false → IsTrue b ↔ Q → Q → ⊥
refuted b Q e iff q = let t = iff.1 q in let f : false ≡ true = sym e ∙ t in absurd (cc)

-- ---- whether it is among those before it, or held

-- What holds always holds of all records.
pub always : (xs : List Distrust) → AllByRecursion Always xs
always [] = tt
always (x ∷ xs) = (tt, always xs)

-- If the first test passes, one of both does.
or-first : (a b : Bool) → a ≡ true → (a || b) ≡ true
or-first true b e = refl
or-first false b e = absurd (cc)

-- If the second test passes, one of both does.
or-second : (a b : Bool) → b ≡ true → (a || b) ≡ true
or-second true b e = refl
or-second false b e = e

-- If an item of the list passes, the test of the list does.
has-any : {X : Type 0} (p : X → Bool) (xs : List X) (x : X) → p x ≡ true → Contains xs x → list_any p xs ≡ true
has-any p [] x e has = absurd (contains-none x has)
has-any p (y ∷ ys) x e has = elim (contains-cases y ys x has) [
  | inl same ↦ or-first (p y) (list_any p ys) (ap p (sym same) ∙ e)
  | inr later ↦ or-second (p y) (list_any p ys) (has-any p ys x e later)
]

module _ {X : Type 0} (P : X → Type 0) (cmp : X → X → Ordering) (sets : AreSets P cmp) where
  -- Items that tie are equal.
  pub tied-same : (a b : X) → P a → P b → eq_by_cmp cmp a b ≡ true → a ≡ b
  tied-same a b p q e = sets.exact a b p q ((Equal-is (cmp a b)).0 e)

  -- Equal items tie.
  pub same-tied : (a b : X) → a ≡ b → eq_by_cmp cmp a b ≡ true
  same-tied a b e = ap is_eq (ap (λ y. cmp a y) (sym e) ∙ tied_itself sets.total a)

  -- The comparison says whether two items are the same.
  pub same-iff : (a b : X) (found : Bool) → P a → P b → found ≡ eq_by_cmp cmp a b → IsTrue found ↔ (a ≡ b)
  same-iff a b found p q value = (λ t. tied-same a b p q (sym value ∙ t), λ e. value ∙ same-tied a b e)

  -- If the item is held, it is among those before it or held.
  pub among-held : (before set : List X) (x : X) (b : Bool) → AllByRecursion P before → AllByRecursion P set → b ≡ true → IsTrue b ↔ Contains set x
      → IsTrue true ↔ Contains (with_items cmp before set) x
  among-held before set x b all these e iff = (λ t. (sets.all_members before set x all these).1 (inr (iff.0 e)), λ h. refl)

  -- If the comparison finds an item before it, it is there.
  any-same : (before : List X) (x : X) → AllByRecursion P before → P x → list_any (λ y. eq_by_cmp cmp y x) before ≡ true → Contains before x
  any-same [] x all p e = absurd (cc)
  any-same (y ∷ ys) x all p e =
      let found = any-from (λ z. eq_by_cmp cmp z x) (y ∷ ys) e in
      subst (Contains (y ∷ ys)) (tied-same found.0 x (each-from P (y ∷ ys) all found.0 found.1) p found.2) found.1

  -- If the item is not held, the comparison with those before it says whether it is among both.
  pub among-before : (before set : List X) (x : X) (b found : Bool) → AllByRecursion P before → AllByRecursion P set
      → P x → b ≡ false → IsTrue b ↔ Contains set x
      → found ≡ list_any (λ y. eq_by_cmp cmp y x) before → IsTrue found ↔ Contains (with_items cmp before set) x
  among-before before set x b found all these p e iff value = (
    λ t. (sets.all_members before set x all these).1 (inl (any-same before x all p (sym value ∙ t))),
    λ h. elim ((sets.all_members before set x all these).0 h) [
      | inl here ↦ value ∙ has-any (λ y. eq_by_cmp cmp y x) before x (same-tied x x refl) here
      | inr old ↦ absurd (let t = iff.1 old in let f : false ≡ true = sym e ∙ t in cc)
    ],
  )

-- ---- places

-- One step of `with_item-grows`, for each way the item compares with the first.
placed_grows : {X : Type 0} (o : Ordering) (x h : X) (t longer : List X) → length t ≤ length longer → length longer ≤ length t + 1
    → (length t + 1 ≤ length (placed o x h t longer)) × (length (placed o x h t longer) ≤ length t + 2)
placed_grows Less x h t longer more few = (omega arith, omega arith)
placed_grows Equal x h t longer more few = (omega arith, omega arith)
placed_grows Greater x h t longer more few = (omega arith, omega arith)

-- a set with one more is as long, or one longer
pub with_item-grows : {X : Type 0} (cmp : X → X → Ordering) (x : X) (xs : List X)
    → (length xs ≤ length (with_item cmp x xs)) × (length (with_item cmp x xs) ≤ length xs + 1)
with_item-grows cmp x [] = (omega arith, omega arith)
with_item-grows cmp x (h ∷ t) =
    let rest = with_item-grows cmp x t in
    let all = placed_grows (cmp x h) x h t (with_item cmp x t) rest.0 rest.1 in
    (omega (arith, all.0), omega (arith, all.1))

-- Adding many items makes no set smaller.
pub with_items-grows : {X : Type 0} (cmp : X → X → Ordering) (items xs : List X) → length xs ≤ length (with_items cmp items xs)
with_items-grows cmp [] xs = omega arith
with_items-grows cmp (i ∷ items) xs = let first = with_item-grows cmp i xs in let rest =
    with_items-grows cmp items (with_item cmp i xs) in omega (arith, first.0)

-- If there is a place for each item left, the next one has a place, whether or not it is held.
pub place-ample : {X : Type 0} (cmp : X → X → Ordering) (limit : ℕ) (set : List X) (x : X) (free left : ℕ) → 0 < left
    → HasPlaces limit (length set) free left → left ≤ free
    → HasPlace cmp limit set x left (free - 1)
place-ample cmp limit set x free left some places ample =
    let few = places.few in
    let grows = with_item-grows cmp x set in
    record {
      place = inr (omega (arith, few));
      after = record { few = omega (arith, few, grows.1); exact = inl (omega (arith, ample)) };
    }

-- An item that is held takes no place.
pub place-held : {X : Type 0} (cmp : X → X → Ordering) (limit : ℕ) (set : List X) (x : X) (free left : ℕ)
    → HasPlaces limit (length set) free left → Contains set x → with_item cmp x set ≡ set
    → HasPlace cmp limit set x left free
place-held {X} cmp limit set x free left places has same =
    let few = places.few in
    let size = ap (λ (xs : List X). length xs) same in
    record {
      place = inl has;
      after = record {
        few = omega (arith, few, size);
        exact = elim places.exact [ inl ample ↦ inl (omega (arith, ample)) | inr exact ↦ inr (omega (arith, exact, size)) ];
      };
    }

-- A new item takes a place.
pub place-new : {X : Type 0} (cmp : X → X → Ordering) (limit : ℕ) (set : List X) (x : X) (free left : ℕ)
    → HasPlaces limit (length set) free left → free < left → free ≢ 0
    → length (with_item cmp x set) ≡ length set + 1 → HasPlace cmp limit set x left (free - 1)
place-new cmp limit set x free left places scarce some longer =
    let few = places.few in
    record {
      place = inr (omega (arith, few, some));
      after = record {
        few = omega (arith, few, some, longer);
        exact = elim places.exact [ inl ample ↦ absurd (omega (arith, ample, scarce)) | inr exact ↦ inr (omega (arith, exact, some, longer)) ];
      };
    }

-- If no place is free, a new item has none.
pub place-none : {X : Type 0} (limit : ℕ) (set : List X) (x : X) (free left : ℕ)
    → HasPlaces limit (length set) free left → free < left → free ≡ 0 → (Contains set x → ⊥) → HasNoPlace limit set x
place-none limit set x free left places scarce none lacks = record {
  unheld = lacks;
  full = elim places.exact [ inl ample ↦ absurd (omega (arith, ample, scarce)) | inr exact ↦ omega (arith, exact, none) ];
}
